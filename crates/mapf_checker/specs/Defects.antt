-- What makes a plan invalid.
use Rattle.std.specs.Prelude.{◌≡◌, ℕ, ◌<◌, List, Some, slice_get}
use Rattle.mapf_model.specs.declared.problem.Agent.{Agent}
use Rattle.mapf_model.specs.Path.{IsLawful}
use Rattle.mapf_model.specs.Plan.{Instance}
use Rattle.mapf_checker.specs.declared.lawful.PathFault.{PathFault}
use Rattle.mapf_checker.specs.declared.lawful.PathFault.TheVariants.{WrongStart, BadStep, WrongGoal}
use Rattle.mapf_checker.specs.declared.plan_fault.PlanFault.{PlanFault}
use Rattle.mapf_checker.specs.declared.plan_fault.PlanFault.TheVariants.{V1, V2, V3, V4, V5}
use Rattle.mapf_checker.specs.PathDefects.{HasPathDefect}
use Rattle.mapf_checker.specs.Conflicts.{AreInOneCell, ExchangeCells}

-- the agent's path has this defect
abbrev pub IsUnlawful : Instance → List (List ℕ) → ℕ → PathFault → Type 0
IsUnlawful problem plan i fault =
    (agent : Agent) × (path : List ℕ) × (slice_get problem.agents i ≡ Some agent) × (slice_get plan i ≡ Some path)
    × HasPathDefect problem.grid agent path fault

-- what each error says of the plan
abbrev pub HasDefect : Instance → List (List ℕ) → PlanFault → Type 0
HasDefect problem plan (V1 i) = IsUnlawful problem plan i WrongStart
HasDefect problem plan (V2 i tick) = IsUnlawful problem plan i (BadStep tick)
HasDefect problem plan (V3 i) = IsUnlawful problem plan i WrongGoal
HasDefect problem plan (V4 i j tick) = (i < j) × AreInOneCell plan tick i j
HasDefect problem plan (V5 i j tick) = (i < j) × ExchangeCells plan tick i j

-- the paths of the first agents are lawful
abbrev pub AreLawful : Instance → List (List ℕ) → ℕ → Type 0
AreLawful problem paths count =
    (i : ℕ) (agent : Agent) (path : List ℕ) → i < count → slice_get problem.agents i ≡ Some agent →
    slice_get paths i ≡ Some path → IsLawful problem.grid agent path

-- the error of a plan that an error of one agent's path is
abbrev pub path_fault_of : ℕ → PathFault → PlanFault
path_fault_of agent WrongStart = V1 agent
path_fault_of agent (BadStep tick) = V2 agent tick
path_fault_of agent WrongGoal = V3 agent
