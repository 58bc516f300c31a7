use Rattle.std.proofs.Common.{◌≡◌, length, take, All}
use Rattle.mapf_cases.specs.Floors.{labels_of}
use Rattle.mapf_cases.specs.Leaves.{use_worth}
use Rattle.mapf_cases.specs.Loads.{AreLoads, HaveLoads}
use Rattle.mapf_cases.specs.Places.{MayUse, cut_group, place_of, weight_at, weight_on}
use Rattle.mapf_cases.specs.Totals.{label_total}
use Rattle.mapf_cases.proofs.groups.judge_group.Given as goal

abbrev pub invariant-loop-k : goal.invariant-loop-k
invariant-loop-k l = record {
  have : HaveLoads (length l.leaf.start_distances.now) l.loads;
  usable : All (λ used. MayUse (place_of l.leaf) l.counting.list.list_number used.lemma) (take l.k l.group-inside.uses.items);
  loads : AreLoads l.leaf.agents.now (weight_at l.leaf.known.now l.groups) l.number (weight_on l.leaf.known.now (cut_group l.k (record { divisor = l.group-inside.divisor; uses = l.group-inside.uses.items }))) l.group-inside.divisor l.loads;
  sum : l.sum ≡ label_total (use_worth (labels_of l.leaf.known.now l.counting.list.unit l.counting.floors.now.amounts.items)) (take l.k l.group-inside.uses.items);
}
