-- How far the open states of a cost were taken.
use Rattle.std.specs.Prelude.{[]}
use Rattle.mapf_spacetime.specs.declared.frontier.Expansion.{Expansion}
use Rattle.mapf_spacetime.specs.declared.frontier.Expansion.TheVariants.{Arrives, Done, Paused}
use Rattle.mapf_spacetime.specs.Frontiers.{States, IsAtGoal, IsFrontier, IsLevelDone}
use Rattle.mapf_spacetime.specs.Task.{Task}

-- the agent arrives at the cost; or all states up to it were reached, and none is an arrival; or some are yet to be
-- taken
abbrev pub IsExpanded : Task → States → Expansion → Type 0
IsExpanded task states Arrives = IsAtGoal task states
IsExpanded task states Done = IsLevelDone task states
IsExpanded task states Paused = IsFrontier task [] states
