-- Cheapest paths of agents under their constraints.
use Rattle.std.specs.Prelude.{ℕ, ◌+◌, ◌<◌, ◌≤◌, List}
use Rattle.mapf_model.specs.declared.bar.Bar.{Bar}
use Rattle.mapf_model.specs.declared.label.Label.TheVariants.{Ticks, Never}
use Rattle.mapf_model.specs.declared.problem.Agent.{Agent}
use Rattle.mapf_model.specs.Bars.{Satisfies, IsBar}
use Rattle.mapf_model.specs.Grid.{GridMap, free_cell_count}
use Rattle.mapf_model.specs.Limits.{split_ticks}
use Rattle.mapf_model.specs.Labels.{Entries, IsLabel}
use Rattle.mapf_model.specs.Path.{IsLawful, IsCost, IsTight}
use Rattle.mapf_constraints.specs.BarSets.{bar_tick, AreBefore}
use Rattle.mapf_spacetime.specs.Answer.{IsFirstOfCost}
use Rattle.mapf_spacetime.specs.Task.{task_of}

-- a constraint that a table can hold
abbrev pub IsTableBar : Bar → Type 0
IsTableBar bar = (bar_tick bar < split_ticks) × IsBar bar

-- no lawful path of the agent that satisfies the constraints costs less than this
abbrev pub CostsLeast : GridMap → Agent → List Bar → ℕ → Type 0
CostsLeast grid agent bars cost =
    (other : List ℕ) (other_cost : ℕ) → IsLawful grid agent other → Satisfies bars other →
    IsCost agent.goal other other_cost → cost ≤ other_cost

-- a cheapest path of an agent under its constraints, the first of them by cell numbers, with its cost, which is the
-- label of its start by these entries
pub record IsCheapestPath (grid : GridMap) (agent : Agent) (bars : List Bar) (path : List ℕ) (cost : ℕ)
    (entries : Entries) : Type 0 where
  pub lawful : IsLawful grid agent path
  pub satisfies : Satisfies bars path
  pub tight : IsTight path
  pub is_cost : IsCost agent.goal path cost
  pub least : CostsLeast grid agent bars cost
  pub first : IsFirstOfCost (task_of grid agent bars) cost path
  pub start : IsLabel grid agent.goal entries agent.start 0 (Ticks cost)
  pub below : (horizon : ℕ) → AreBefore horizon bars → cost < horizon + free_cell_count grid

-- no path of an agent satisfies its constraints, and the label of its start by these entries is infinite
pub record HasNoPath (grid : GridMap) (agent : Agent) (bars : List Bar) (entries : Entries) : Type 0 where
  pub none : (path : List ℕ) → IsLawful grid agent path → Satisfies bars path → ⊥
  pub start : IsLabel grid agent.goal entries agent.start 0 Never
