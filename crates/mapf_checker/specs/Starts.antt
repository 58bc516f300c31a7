-- The entries of the agents' starts at tick 0. Of the blocks above a node nothing else is kept.
use Rattle.std.specs.Prelude.{◌≡◌, ℕ, ◌<◌, ◌==◌, List, Option, Some, None, All, find, slice_get}
use Rattle.std.specs.List.{AllZip}
use Rattle.mapf_model.specs.declared.label.Label.{Label}
use Rattle.mapf_model.specs.declared.problem.Agent.{Agent}
use Rattle.mapf_model.specs.Blocks.{LabelBlock}
use Rattle.mapf_model.specs.Labels.{Entries, entries_of}
use Rattle.mapf_model.specs.Plan.{Instance}
use Rattle.mapf_checker.specs.declared.starts.StartChange.{StartChange}

-- the agent has this entry, whatever the state: that of its start at tick 0 stands for all, as no other is looked up
abbrev pub IsKept : (ℕ → Entries) → ℕ → Option Label → Type 0
IsKept entries agent entry = (cell tick : ℕ) → entries agent cell tick ≡ entry

-- the entries of the agents, in the order of their numbers
abbrev pub AreKept : (ℕ → Entries) → List (Option Label) → Type 0
AreKept entries kept =
    (agent : ℕ) (entry : Option Label) → slice_get kept agent ≡ Some entry → IsKept entries agent entry

-- the agent's change, the first if there are several
abbrev pub change_of : List StartChange → ℕ → Option StartChange
change_of changes agent = find (λ change. change.agent == agent) changes

-- the new entry if there is a change, else those before
abbrev pub changed : Option StartChange → Entries → Entries
changed (Some change) before cell tick = change.now
changed None before cell tick = before cell tick

-- each agent's entries after these changes
abbrev pub with_changes : List StartChange → (ℕ → Entries) → ℕ → Entries
with_changes changes before agent = changed (change_of changes agent) (before agent)

-- the changes are of the first agents, of this number
abbrev pub AreOfFirst : ℕ → List StartChange → Type 0
AreOfFirst agents changes = All (λ change. change.agent < agents) changes

-- the changes hold the entries before them
abbrev pub KnowEntries : (ℕ → Entries) → List StartChange → Type 0
KnowEntries entries changes = All (λ change. IsKept entries change.agent change.before) changes

-- the change that a block makes: its agent's entry becomes that of the start at tick 0 in the block, or none
pub record IsChangeBy (problem : Instance) (entries : ℕ → Entries) (block : LabelBlock) (change : StartChange)
    : Type 0 where
  pub agent : change.agent ≡ block.agent
  pub before : IsKept entries block.agent change.before
  pub now : (agent : Agent) → slice_get problem.agents block.agent ≡ Some agent →
      entries_of block.entries agent.start 0 ≡ change.now

-- the changes that blocks make, one for each
abbrev pub AreChangesBy : Instance → (ℕ → Entries) → List LabelBlock → List StartChange → Type 0
AreChangesBy problem entries blocks changes = AllZip (IsChangeBy problem entries) blocks changes
