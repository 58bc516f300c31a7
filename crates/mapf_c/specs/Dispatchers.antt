-- What the calls of a dispatcher answer. (own)
use Rattle.std.specs.Prelude.{◌≡◌, ◌≤◌, ◌<◌, ℕ, List, [], ◌∷◌, Option, Some, None, Result, Ok, Err, IfErr, IfOk}
use Rattle.std.specs.Prelude.{drop, length, slice_get, take}
use Rattle.mapf_app.specs.Faults.{HasNoInnerMemory, IsOfInput, IsPlanning}
use Rattle.mapf_app.specs.Planned.{IsDuePlan, SpellsPlanned}
use Rattle.mapf_app.specs.declared.fault.Fault.{Fault}
use Rattle.mapf_c.specs.Checks.{IsReadable}
use Rattle.mapf_c.specs.Faults.{fault_numbers, none}
use Rattle.mapf_c.specs.declared.numbers.FaultNumbers.{FaultNumbers}
use Rattle.mapf_c.specs.declared.numbers.ReplyNumbers.{ReplyNumbers}
use Rattle.mapf_c.specs.declared.numbers.VisitNumbers.{VisitNumbers}
use Rattle.mapf_model.specs.Plan.{Instance}
use Rattle.mapf_player.specs.Dispatching.{Progress, IsReply, beginning}
use Rattle.mapf_player.specs.Visits.{AreVisitsOfAll}
use Rattle.mapf_player.specs.declared.reply.Reply.{Reply}
use Rattle.mapf_player.specs.declared.reply.Reply.TheVariants.{Go, Hold, Done}
use Rattle.mapf_player.specs.declared.visit.Visit.{Visit}

-- the texts spell a problem and a valid plan for it, and all agents of this plan are in their first visits
pub record BeginsPlan (map scen plan : List ℕ) (agents : ℕ) (progress : Progress) : Type 0 where
  pub problem : Instance
  pub paths : List (List ℕ)
  pub spelled : SpellsPlanned (Some map) (Some scen) (Some plan) agents problem paths
  pub visits : AreVisitsOfAll paths progress.visits
  pub begins : progress ≡ beginning progress.visits

-- a dispatcher of these texts may be made so: it begins the valid plan that they spell, and an error is one that they
-- have. If they spell a valid plan, it is made, unless a text is too long or memory runs out
pub record IsStartOf (map scen plan : List ℕ) (agents : ℕ) (ended : Result Progress Fault) : Type 0 where
  pub found : IfOk ended (BeginsPlan map scen plan agents)
  pub due : (problem : Instance) (paths : List (List ℕ))
      → IsDuePlan (Some map) (Some scen) (Some plan) agents problem paths → IfErr ended IsOfInput
  pub fault : IfErr ended (IsPlanning (Some map) (Some scen) (Some plan) agents)
  pub inner : IfErr ended HasNoInnerMemory
  pub readable : IfErr ended (IsReadable map scen plan [])

-- a handle and an error tell whether a dispatcher was made
abbrev pub Tells : Result Progress Fault → Option Progress → FaultNumbers → Type 0
Tells (Ok progress) made fault = (made ≡ Some progress) × (fault ≡ none)
Tells (Err given) made fault = (made ≡ None) × (fault ≡ fault_numbers given)

-- they tell how such a start ended
pub record IsMadeOf (map scen plan : List ℕ) (agents : ℕ) (made : Option Progress) (fault : FaultNumbers)
    : Type 0 where
  pub ended : Result Progress Fault
  pub told : Tells ended made fault
  pub holds : IsStartOf map scen plan agents ended

-- the numbers of a reply
abbrev pub reply_numbers : Reply → ReplyNumbers
reply_numbers (Go cell) = record { kind = 1; number = cell }
reply_numbers (Hold other) = record { kind = 2; number = other }
reply_numbers Done = record { kind = 3; number = 0 }

-- the numbers of the reply to an agent that isn't one
abbrev pub no_reply : ReplyNumbers
no_reply = record { kind = 10; number = 0 }

-- the reply in numbers to an agent that asks, and the progress after it. One that isn't an agent changes nothing
abbrev pub IsAnswered : Progress → ℕ → ReplyNumbers → Progress → Type 0
IsAnswered before agent numbers after =
    (agent < length before.numbers → (reply : Reply) × (numbers ≡ reply_numbers reply)
    × IsReply before agent reply after)
    × (length before.numbers ≤ agent → (before ≡ after) × (numbers ≡ no_reply))

-- the replies in numbers to agents that ask one after another, and the progress after them
abbrev pub AreAnswered : Progress → List ℕ → List ReplyNumbers → Progress → Type 0
AreAnswered before [] [] after = before ≡ after
AreAnswered before [] (reply ∷ replies) after = ⊥
AreAnswered before (agent ∷ agents) [] after = ⊥
AreAnswered before (agent ∷ agents) (reply ∷ replies) after =
    (between : Progress) × IsAnswered before agent reply between × AreAnswered between agents replies after

-- the replies to these agents are at the front of the buffer, and behind them it is as it was
pub record FillsReplies (before : Progress) (agents : List ℕ) (old new : List ReplyNumbers) (after : Progress)
    : Type 0 where
  pub answered : AreAnswered before agents (take (length agents) new) after
  pub rest : drop (length agents) new ≡ drop (length agents) old

-- what a call for replies does to a handle and a buffer, and how many agents it says were answered: all if there is a
-- dispatcher and the buffer is long enough, and else none
abbrev pub IsCallOf : Option Progress → (agents : List ℕ) → (old new : List ReplyNumbers) → ℕ → Option Progress →
    Type 0
IsCallOf None agents old new count after = (after ≡ None) × (new ≡ old) × (count ≡ 0)
IsCallOf (Some before) agents old new count after =
    (length agents ≤ length old → (count ≡ length agents) × (last : Progress) × (after ≡ Some last)
    × FillsReplies before agents old new last)
    × (length old < length agents → (count ≡ 0) × (after ≡ Some before) × (new ≡ old))

-- what is told of a visit: how many visits the agent has, and the one of this number, if it has one
abbrev pub told_visit : ℕ → Option Visit → VisitNumbers
told_visit count None = record { count = count; cell = 0; entry = 0 }
told_visit count (Some visit) = record { count = count; cell = visit.cell; entry = visit.entry }

-- the same, where the agent may be none
abbrev pub told_of : Option (List Visit) → ℕ → VisitNumbers
told_of None number = told_visit 0 None
told_of (Some own) number = told_visit (length own) (slice_get own number)

-- the same, where there may be no dispatcher
abbrev pub visit_told : Option Progress → (agent number : ℕ) → VisitNumbers
visit_told None agent number = told_visit 0 None
visit_told (Some progress) agent number = told_of (slice_get progress.visits agent) number
