-- What is wrong with one agent's path.
use Rattle.std.specs.Prelude.{◌≢◌, ℕ, ◌+◌, ◌-◌, ◌<◌, List, length, slice_index}
use Rattle.mapf_model.specs.declared.problem.Agent.{Agent}
use Rattle.mapf_model.specs.Grid.{GridMap, Step}
use Rattle.mapf_model.specs.Path.{at}
use Rattle.mapf_checker.specs.declared.lawful.PathFault.{PathFault}
use Rattle.mapf_checker.specs.declared.lawful.PathFault.TheVariants.{WrongStart, BadStep, WrongGoal}

-- the path doesn't begin at the agent's start, makes no step from its cell at this tick, or doesn't end at the goal
abbrev pub HasPathDefect : GridMap → Agent → List ℕ → PathFault → Type 0
HasPathDefect grid agent path WrongStart = at path 0 ≢ agent.start
HasPathDefect grid agent path (BadStep tick) =
    (tick + 1 < length path) × (Step grid (slice_index path tick) (slice_index path (tick + 1)) → ⊥)
HasPathDefect grid agent path WrongGoal = at path (length path - 1) ≢ agent.goal
