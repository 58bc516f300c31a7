-- The path that the search for one agent found, and a shortest path, are cheapest under the agent's constraints.
use Rattle.std.proofs.Common.{ℕ, ◌-◌, ◌≤◌, List, [], None, length, arith}
use Rattle.mapf_model.specs.declared.bar.Bar.{Bar}
use Rattle.mapf_model.specs.declared.label.Entry.{Entry}
use Rattle.mapf_model.specs.declared.label.Label.{Label}
use Rattle.mapf_model.specs.declared.label.Label.TheVariants.{Ticks, Never}
use Rattle.mapf_model.specs.declared.problem.Agent.{Agent}
use Rattle.mapf_model.specs.Grid.{GridMap}
use Rattle.mapf_model.specs.Bars.{Satisfies}
use Rattle.mapf_model.specs.Path.{IsLawful, IsCost}
use Rattle.mapf_model.specs.Labels.{Entries, entries_of, AreSound, IsLabel, IsAtMost}
use Rattle.mapf_model.proofs.LabelLemmas.{lawful_bound, lawful_rests}
use Rattle.mapf_model.proofs.PathLemmas.{IsCost-tight}
use Rattle.mapf_spacetime.specs.Answer.{IsArrival, IsDeath}
use Rattle.mapf_spacetime.specs.Task.{task_of}
use Rattle.mapf_spacetime.proofs.WayLemmas.{descent_first}
use Rattle.mapf_cbs.specs.CheapestPath.{IsCheapestPath, HasNoPath}
use Rattle.mapf_cbs.specs.Start.{IsShortest}

module _ (grid : GridMap) (agent : Agent) (bars : List Bar) where
  pub cheapest_of : (path : List ℕ) (entries : List Entry) (arrival : IsArrival (task_of grid agent bars) path entries) → IsCheapestPath grid agent bars path arrival.cost (entries_of entries)
  cheapest_of path entries arrival = record {
    lawful = arrival.lawful;
    satisfies = arrival.satisfies;
    tight = arrival.tight;
    is_cost = arrival.is_cost;
    least = λ other other_cost lawful satisfies is. lawful_bound grid agent bars (entries_of entries) other other_cost arrival.labels.sound lawful satisfies is.rests (Ticks arrival.cost) arrival.start;
    first = arrival.first;
    start = arrival.start;
    below = arrival.limit;
  }

  pub none_of : (entries : List Entry) → IsDeath (task_of grid agent bars) entries → HasNoPath grid agent bars (entries_of entries)
  none_of entries death = record {
    none = λ path lawful satisfies. lawful_bound grid agent bars (entries_of entries) path (length path) death.labels.sound lawful satisfies (lawful_rests grid agent path lawful) Never death.start;
    start = death.start;
  }

none_sound : (grid : GridMap) (goal : ℕ) (bars : List Bar) → AreSound grid goal bars (entries_of [])
none_sound grid goal bars cell tick label is = absurd cc

-- if no state is listed, the label of the start is at most the cost of a path
pub distance_bound : (grid : GridMap) (agent : Agent) (bars : List Bar) (path : List ℕ) (cost : ℕ) (label : Label) → IsLawful grid agent path → Satisfies bars path → IsCost agent.goal path cost →
    IsLabel grid agent.goal (entries_of []) agent.start 0 label → IsAtMost label (Ticks cost)
distance_bound grid agent bars path cost label lawful satisfies is at_start = lawful_bound grid agent bars (entries_of []) path cost (none_sound grid agent.goal bars) lawful satisfies is.rests label at_start

-- a cheapest path is one by any entries with the same label of the start
pub cheapest_with : (grid : GridMap) (agent : Agent) (bars : List Bar) (path : List ℕ) (cost : ℕ) (entries others : Entries) → IsCheapestPath grid agent bars path cost entries → IsLabel grid agent.goal others agent.start 0 (Ticks cost) → IsCheapestPath grid agent bars path cost others
cheapest_with grid agent bars path cost entries others cheapest start = record {
  lawful = cheapest.lawful;
  satisfies = cheapest.satisfies;
  tight = cheapest.tight;
  is_cost = cheapest.is_cost;
  least = cheapest.least;
  first = cheapest.first;
  start = start;
  below = cheapest.below;
}

-- no state has an entry
abbrev pub no_entry : Entries
no_entry cell tick = None

-- without constraints a shortest path is a cheapest one
pub cheapest_of_shortest : (grid : GridMap) (agent : Agent) (path : List ℕ) → IsShortest grid agent path → 1 ≤ length path → IsCheapestPath grid agent [] path (length path - 1) no_entry
cheapest_of_shortest grid agent path short some = record {
  lawful = short.lawful;
  satisfies = λ bar (k, within, at). absurd (omega arith);
  tight = short.tight;
  is_cost = IsCost-tight grid agent path short.lawful short.tight;
  least = λ other other_cost lawful satisfies is. lawful_bound grid agent [] (entries_of []) other other_cost (none_sound grid agent.goal []) lawful satisfies is.rests (Ticks (length path - 1)) short.short;
  first = descent_first (task_of grid agent []) path short.lawful.start short.short (IsCost-tight grid agent path short.lawful short.tight) short.least;
  start = short.short;
  below = λ horizon before. let few = short.few in omega arith;
}
