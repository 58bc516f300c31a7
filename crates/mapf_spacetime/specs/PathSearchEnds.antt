-- How a search for a walk ends.
use Rattle.std.specs.Prelude.{ℕ}
use Rattle.mapf_spacetime.specs.declared.path_search.SearchEnd.{SearchEnd}
use Rattle.mapf_spacetime.specs.declared.path_search.SearchEnd.TheVariants.{AtGoal, Paused, NoWay}
use Rattle.mapf_spacetime.specs.PathSearch.{Walked, CanArrive, IsSearching, IsWholeWalk}
use Rattle.mapf_spacetime.specs.Task.{Task, start_of}

-- the walk ends at the goal at the cost; or the search can go on; or no walk of the cost ends at the goal
abbrev pub IsEnd : Task → ℕ → Walked → SearchEnd → Type 0
IsEnd task cost way AtGoal = IsWholeWalk task cost way.cells
IsEnd task cost way Paused = IsSearching task cost way
IsEnd task cost way NoWay = IsSearching task cost way × (CanArrive task cost (start_of task) → ⊥)
