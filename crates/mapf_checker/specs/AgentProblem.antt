-- What the entries of one agent are judged by: its distances, and its constraints at a node of the tree.
use Rattle.std.specs.Prelude.{◌≡◌, ◌+◌, ℕ, List, Option}
use Rattle.mapf_distance.specs.Distances.{GoalMap}
use Rattle.mapf_distance.specs.Tables.{HasTable}
use Rattle.mapf_model.specs.declared.bar.Bar.{Bar}
use Rattle.mapf_model.specs.declared.label.Entry.{Entry}
use Rattle.mapf_model.specs.Blocks.{LabelBlock}
use Rattle.mapf_model.specs.Labels.{entries_of, IsSoundEntry, IsWithinOne, MayGo}
use Rattle.mapf_checker.specs.declared.judge.AgentProblem.{AgentProblem}
use Rattle.mapf_checker.specs.Branch.{Route, IsIndexed, place_of}

-- the constraints of the agent
abbrev pub bars_on : AgentProblem → List Bar
bars_on own = (place_of own.branch.now).here.bars own.agent

-- the distances are those to the agent's goal on the grid
pub record HasGoalDistances (own : AgentProblem) : Type 0 where
  pub grid : own.distances.now.grid ≡ own.grid.now
  pub goal : own.distances.now.goal ≡ own.goal

-- the entry is sound under the agent's constraints, in a block of these entries
abbrev pub IsSoundAmong : AgentProblem → List Entry → Entry → Type 0
IsSoundAmong own entries entry =
    IsSoundEntry own.grid.now own.goal (bars_on own) (entries_of entries) entry.cell entry.tick entry.label

-- if the constraints allow the step to this cell, the entry's label is at most one more than the label after it
abbrev pub IsConsistentStep : AgentProblem → List Entry → Entry → ℕ → Type 0
IsConsistentStep own entries entry next =
    MayGo own.grid.now (bars_on own) entry.cell next entry.tick →
    IsWithinOne own.grid.now own.goal (entries_of entries) entry.label next (entry.tick + 1)

-- this holds for each cell
abbrev pub IsConsistent : AgentProblem → List Entry → Entry → Type 0
IsConsistent own entries entry = (next : ℕ) → IsConsistentStep own entries entry next

-- what a block is judged by is made: the table of its agent's distances, and the index of the constraints along the
-- path
pub record CanJudge (tables : List (Option GoalMap)) (route : Route) (block : LabelBlock) : Type 0 where
  pub table : HasTable tables block.agent
  pub indexed : IsIndexed route
