-- What the leaves of a certificate's tree are judged by.
use Rattle.std.specs.Prelude.{◌≡◌, ⊤, ℕ, ◌+◌, ◌<◌, ◌≤◌, Bool, true, false, List, Option, Some, None, length, slice_get}
use Rattle.std.specs.Prelude.{slice_index_or}
use Rattle.mapf_model.specs.declared.problem.Agent.{Agent}
use Rattle.mapf_model.specs.declared.label.Label.{Label}
use Rattle.mapf_model.specs.declared.label.Label.TheVariants.{Ticks, Never}
use Rattle.mapf_model.specs.declared.item.Claim.{Claim}
use Rattle.mapf_model.specs.declared.item.Claim.TheVariants.{Cost, Bound, Impossible}
use Rattle.mapf_model.specs.Blocks.{LabelBlock}
use Rattle.mapf_model.specs.Labels.{Entries, entries_of, AreSound, IsLabel, label_sum}
use Rattle.mapf_model.specs.Plan.{Instance}
use Rattle.mapf_model.specs.Tree.{NodeContext, AreStartLabels, block_of, with_blocks}

-- the goal of the agent of this number
abbrev pub IsGoalOf : Instance → ℕ → ℕ → Type 0
IsGoalOf problem i goal = (agent : Agent) × (slice_get problem.agents i ≡ Some agent) × (agent.goal ≡ goal)

-- the start of the agent of this number
abbrev pub IsStartOf : Instance → ℕ → ℕ → Type 0
IsStartOf problem i start = (agent : Agent) × (slice_get problem.agents i ≡ Some agent) × (agent.start ≡ start)

-- a block of an agent of the problem, sound under the agent's constraints
abbrev pub IsGoodBlock : Instance → NodeContext → LabelBlock → Type 0
IsGoodBlock problem here block =
    (agent : Agent) × (slice_get problem.agents block.agent ≡ Some agent)
    × AreSound problem.grid agent.goal (here.bars block.agent) (entries_of block.entries)

-- the ticks of a label, 0 if it is infinite
abbrev pub ticks_in : Label → ℕ
ticks_in (Ticks n) = n
ticks_in Never = 0

abbrev pub is_finite : Label → Bool
is_finite (Ticks n) = true
is_finite Never = false

-- a sum of labels, None if it is infinite
abbrev pub label_of_total : Option ℕ → Label
label_of_total (Some total) = Ticks total
label_of_total None = Never

-- the label of the agent's start at a leaf with these blocks, which inherits these entries
abbrev pub IsStartLabel : Instance → List LabelBlock → (ℕ → Entries) → ℕ → Label → Type 0
IsStartLabel problem blocks before i label =
    (agent : Agent) → slice_get problem.agents i ≡ Some agent →
    IsLabel problem.grid agent.goal (with_blocks blocks before i) agent.start 0 label

-- the sum of the labels of the starts
abbrev pub IsStartTotal : Instance → List LabelBlock → (ℕ → Entries) → Option ℕ → Type 0
IsStartTotal problem blocks before total =
    (labels : List Label) × AreStartLabels problem (with_blocks blocks before) labels
    × (label_sum labels ≡ label_of_total total)

-- starts with labels of this sum show the claim
abbrev pub IsEnough : Claim → Option ℕ → Type 0
IsEnough claim None = ⊤
IsEnough (Cost cost) (Some total) = cost ≤ total
IsEnough (Bound bound) (Some total) = bound ≤ total
IsEnough Impossible (Some total) = ⊥

-- the blocks before the index are of agents smaller than this one, the others of this one or greater ones
pub record IsPlaceOfAgent (blocks : List LabelBlock) (place agent : ℕ) : Type 0 where
  pub before : (k : ℕ) (d : LabelBlock) → k < place → (slice_index_or blocks k d).agent < agent
  pub from : (k : ℕ) (d : LabelBlock) → place ≤ k → k < length blocks → agent ≤ (slice_index_or blocks k d).agent

-- the block at the index is the agent's, and those after it are of greater agents
pub record TakesBlock (blocks : List LabelBlock) (place agent : ℕ) : Type 0 where
  pub inside : place < length blocks
  pub is : (d : LabelBlock) → block_of blocks agent ≡ Some (slice_index_or blocks place d)
  pub cut : IsPlaceOfAgent blocks (place + 1) (agent + 1)

-- the agent has no block, and the blocks from the index on are of greater agents
pub record LeavesBlock (blocks : List LabelBlock) (place agent : ℕ) : Type 0 where
  pub none : block_of blocks agent ≡ None
  pub cut : IsPlaceOfAgent blocks place (agent + 1)
