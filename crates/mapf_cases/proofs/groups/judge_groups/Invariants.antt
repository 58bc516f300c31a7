use Rattle.std.proofs.Common.{◌≡◌, ◌≤◌, ◌*◌, length, take}
use Rattle.mapf_cases.specs.Floors.{labels_of}
use Rattle.mapf_cases.specs.Leaves.{group_worth}
use Rattle.mapf_cases.specs.Loads.{AreLoads, HaveLoads}
use Rattle.mapf_cases.specs.Places.{AreGroups, place_of, weight_at}
use Rattle.mapf_cases.specs.Ranges.{greatest_counted}
use Rattle.mapf_lemmas.specs.Groups.{ticks_of}
use Rattle.mapf_model.specs.Limits.{most_agents}
use Rattle.mapf_cases.specs.Totals.{label_total}
use Rattle.mapf_cases.proofs.groups.judge_groups.Given as goal

abbrev pub invariant-loop-number : goal.invariant-loop-number
invariant-loop-number l = record {
  have : HaveLoads (length l.leaf.start_distances.now) l.loads;
  groups : AreGroups (place_of l.leaf) l.counting.list.list_number (take l.number l.groups);
  loads : AreLoads l.leaf.agents.now (weight_at l.leaf.known.now l.groups) l.number (λ agent. 0) 0 l.loads;
  sum : l.sum ≡ label_total (group_worth (labels_of l.leaf.known.now l.counting.list.unit l.counting.floors.now.amounts.items)) (take l.number l.groups);
  small : ticks_of l.sum ≤ l.number * (most_agents * greatest_counted);
}
