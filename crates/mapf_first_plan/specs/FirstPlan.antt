-- What is promised of a first plan. Whether it is valid is for a checker to judge.
use Rattle.std.specs.Prelude.{◌≡◌, length}
use Rattle.mapf_model.specs.Plan.{Instance}
use Rattle.mapf_first_plan.specs.declared.outcome.FirstPlan.{FirstPlan}
use Rattle.mapf_first_plan.specs.declared.outcome.FirstPlan.TheVariants.{Found, Impossible, Stopped}

-- a plan that was found has a path for each agent of the problem (own)
abbrev pub HasShape : Instance → FirstPlan → Type 0
HasShape problem (Found plan) = length plan ≡ length problem.agents
HasShape problem Impossible = Unit
HasShape problem Stopped = Unit
