-- What a call that judges a plan alone answers. (own)
use Rattle.std.specs.Prelude.{◌≡◌, ℕ, List, [], Some, Result, Ok, Err, IfErr, IfOk}
use Rattle.mapf_app.specs.Faults.{HasNoInnerMemory, IsOfInput, IsPlanning}
use Rattle.mapf_app.specs.Planned.{IsDuePlan, SpellsPlanned}
use Rattle.mapf_app.specs.declared.fault.Fault.{Fault}
use Rattle.mapf_c.specs.Answers.{answered, unanswered}
use Rattle.mapf_c.specs.Checks.{IsReadable}
use Rattle.mapf_c.specs.Faults.{fault_numbers}
use Rattle.mapf_c.specs.declared.numbers.Answer.{Answer}
use Rattle.mapf_model.specs.Plan.{Instance, IsSumOfCosts}

-- the answer of a call that judges a plan: its sum of costs if it is valid
abbrev pub plan_answer : Result ℕ Fault → Answer
plan_answer (Ok cost) = answered 5 0 0 cost
plan_answer (Err fault) = unanswered (fault_numbers fault)

-- the texts spell a problem and a valid plan for it with this sum of costs
pub record SpellsCost (map scen plan : List ℕ) (agents cost : ℕ) : Type 0 where
  pub problem : Instance
  pub paths : List (List ℕ)
  pub spelled : SpellsPlanned (Some map) (Some scen) (Some plan) agents problem paths
  pub sum : IsSumOfCosts problem.agents paths cost

-- a judge of these texts may end so: a cost is that of the valid plan which they spell, and an error is one that they
-- have. If they spell a valid plan, it is found valid, unless a text is too long or memory runs out
pub record IsPlanOf (map scen plan : List ℕ) (agents : ℕ) (ended : Result ℕ Fault) : Type 0 where
  pub valid : IfOk ended (SpellsCost map scen plan agents)
  pub due : (problem : Instance) (paths : List (List ℕ))
      → IsDuePlan (Some map) (Some scen) (Some plan) agents problem paths → IfErr ended IsOfInput
  pub fault : IfErr ended (IsPlanning (Some map) (Some scen) (Some plan) agents)
  pub inner : IfErr ended HasNoInnerMemory
  pub readable : IfErr ended (IsReadable map scen plan [])

-- an answer tells how such a judge ended
pub record IsAnswerOfPlan (map scen plan : List ℕ) (agents : ℕ) (answer : Answer) : Type 0 where
  pub ended : Result ℕ Fault
  pub told : answer ≡ plan_answer ended
  pub holds : IsPlanOf map scen plan agents ended
