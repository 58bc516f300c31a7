-- Which replies agents get: to move on, to wait, or that they are done. (Own, after the plan-execution literature: Ma
-- et al. 2017, Hönig et al. 2019)
use Rattle.std.specs.Prelude.{◌≡◌, ◌≢◌, ℕ, ◌+◌, ◌<◌, ◌≤◌, List, [], ◌∷◌, length, map, Option, Some, None, slice_get}
use Rattle.std.specs.Prelude.{slice_set}
use Rattle.mapf_model.specs.Plan.{Instance, IsValid}
use Rattle.mapf_player.specs.declared.visit.Visit.{Visit}
use Rattle.mapf_player.specs.declared.reply.Reply.{Reply}
use Rattle.mapf_player.specs.declared.reply.Reply.TheVariants.{Go, Hold, Done}
use Rattle.mapf_player.specs.Visits.{AreVisitsOfAll, IsVisit}

-- how far agents are: of each agent its visits, and the number of the one that it is in
pub record Progress : Type 0 where
  pub visits : List (List Visit)
  pub numbers : List ℕ

-- each agent is in one of its visits
pub record IsProgress (progress : Progress) : Type 0 where
  pub count : length progress.numbers ≡ length progress.visits
  pub each : (agent number : ℕ) → slice_get progress.numbers agent ≡ Some number → (visit : Visit)
      × IsVisit progress.visits agent number visit

-- the agent is in this visit
abbrev pub IsIn : Progress → ℕ → Visit → Type 0
IsIn progress agent visit =
    (number : ℕ) × (slice_get progress.numbers agent ≡ Some number) × IsVisit progress.visits agent number visit

-- this is the agent's visit after the one that it is in
abbrev pub IsNext : Progress → ℕ → Visit → Type 0
IsNext progress agent visit =
    (number : ℕ) × (slice_get progress.numbers agent ≡ Some number) × IsVisit progress.visits agent (number + 1) visit

-- the agent has left the visit of this number
abbrev pub IsLeft : Progress → ℕ → ℕ → Type 0
IsLeft progress agent number = (current : ℕ) × (slice_get progress.numbers agent ≡ Some current) × (number < current)

-- the agent is in the visit of this number, or has left it
abbrev pub IsBegun : Progress → ℕ → ℕ → Type 0
IsBegun progress agent number = (current : ℕ) × (slice_get progress.numbers agent ≡ Some current) × (number ≤ current)

-- this visit of the agent has to wait for the other agent: it has a visit of the same cell, entered earlier in the
-- plan, that it hasn't left
abbrev pub IsAwaited : Progress → ℕ → Visit → ℕ → Type 0
IsAwaited progress agent visit other =
    (other ≢ agent) × (number : ℕ) × (earlier : Visit) × IsVisit progress.visits other number earlier
    × (earlier.cell ≡ visit.cell) × (earlier.entry < visit.entry) × (IsLeft progress other number → ⊥)

-- the least agent that this visit of the agent has to wait for, None if there is none
abbrev pub IsLeastAwaited : Progress → ℕ → Visit → Option ℕ → Type 0
IsLeastAwaited progress agent visit None = (other : ℕ) → IsAwaited progress agent visit other → ⊥
IsLeastAwaited progress agent visit (Some other) =
    IsAwaited progress agent visit other × ((least : ℕ) → IsAwaited progress agent visit least → other ≤ least)

-- the agent is in its next visit, and all else is as it was
abbrev pub Advances : Progress → ℕ → Progress → Type 0
Advances before agent after =
    (number : ℕ) × (slice_get before.numbers agent ≡ Some number)
    × (after ≡ record { visits = before.visits; numbers = slice_set before.numbers agent (number + 1) })

-- the reply to an agent that asks to move on, and the progress after it: in its last visit it is done; else it is held
-- by the least agent that its next visit has to wait for; if there is none, it moves to that visit's cell
abbrev pub IsReply : Progress → ℕ → Reply → Progress → Type 0
IsReply before agent Done after =
    (before ≡ after) × (visit : Visit) × IsIn before agent visit × ((next : Visit) → IsNext before agent next → ⊥)
IsReply before agent (Hold other) after =
    (before ≡ after) × (visit : Visit) × IsNext before agent visit × IsAwaited before agent visit other
    × ((least : ℕ) → IsAwaited before agent visit least → other ≤ least)
IsReply before agent (Go cell) after =
    Advances before agent after × (visit : Visit) × IsNext before agent visit × (visit.cell ≡ cell)
    × ((other : ℕ) → IsAwaited before agent visit other → ⊥)

-- the replies to agents that ask one after another, and the progress after them
abbrev pub AreReplies : Progress → List ℕ → List Reply → Progress → Type 0
AreReplies before [] [] after = before ≡ after
AreReplies before [] (reply ∷ replies) after = ⊥
AreReplies before (agent ∷ agents) [] after = ⊥
AreReplies before (agent ∷ agents) (reply ∷ replies) after =
    (between : Progress) × IsReply before agent reply between × AreReplies between agents replies after

-- each agent is in its first visit
abbrev pub beginning : List (List Visit) → Progress
beginning visits = record { visits = visits; numbers = map (λ own. 0) visits }

-- the progress of agents that follow the plan: all began in their first visits, and then asked one after another
pub record IsReached (plan : List (List ℕ)) (progress : Progress) : Type 0 where
  pub visits : AreVisitsOfAll plan progress.visits
  pub agents : List ℕ
  pub replies : List Reply
  pub replied : AreReplies (beginning progress.visits) agents replies progress

-- for each visit that was begun, all visits of the same cell that other agents enter earlier in the plan are left
abbrev pub IsInOrder : Progress → Type 0
IsInOrder progress =
    (a b m n : ℕ) (later earlier : Visit) → a ≢ b → IsVisit progress.visits a m later → IsBegun progress a m
    → IsVisit progress.visits b n earlier → earlier.cell ≡ later.cell → earlier.entry < later.entry →
    IsLeft progress b n

-- the progress of agents that follow some valid plan
pub record IsOfValidPlan (progress : Progress) : Type 0 where
  pub problem : Instance
  pub plan : List (List ℕ)
  pub valid : IsValid problem plan
  pub reached : IsReached plan progress
