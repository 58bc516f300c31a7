use Rattle.std.proofs.Common.{◌≡◌, ◌<◌, List, All, length, reverse}
use Rattle.mapf_cbs.specs.Search.{View, AreBlockLists}
use Rattle.mapf_cbs.proofs.ItemLemmas.{Leads, AreOwed, weights}
use Rattle.mapf_cbs.proofs.written.tree_nodes.Given as goal

abbrev pub invariant-loop-k : goal.invariant-loop-k
invariant-loop-k l = record {
  within : All (λ k. k < length l.statuses) l.pending.items;
  count : length l.lists.items ≡ length l.statuses;
  still : AreOwed l.statuses l.fn.lists.items l.lists.items (reverse l.pending.items);
  leads : (views : List View) → AreBlockLists views l.fn.lists.items → Leads views l.statuses l.nodes.items (reverse l.pending.items);
}

abbrev pub decreases-loop-k : goal.decreases-loop-k
decreases-loop-k l = weights (length l.statuses) l.pending.items
