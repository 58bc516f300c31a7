use Rattle.std.proofs.Common.{◌≡◌, ◌<◌, ℕ, List, Option, Some, length, slice_get}
use Rattle.mapf_cbs.specs.Nodes.{AreViews}
use Rattle.mapf_cbs.specs.PathOwners.{AreInside}
use Rattle.mapf_cbs.specs.Search.{View}
use Rattle.mapf_cbs.proofs.OwnerLemmas.{IsFoundSoFar}
use Rattle.mapf_cbs.proofs.path_owners.owners_at.Given as goal

abbrev pub invariant-loop-at : goal.invariant-loop-at
invariant-loop-at l = record {
  inside : l.at < length l.nodes;
  count : length l.nearest.items ≡ l.agents;
  nearest : AreInside l.nodes l.nearest.items;
  same : (views : List View) (view here : View) → AreViews l.nodes views → slice_get views l.k ≡ Some view → slice_get views l.at ≡ Some here →
      (i : ℕ) (owner : Option ℕ) → slice_get l.nearest.items i ≡ Some owner → IsFoundSoFar views view here i owner;
}

abbrev pub decreases-loop-at : goal.decreases-loop-at
decreases-loop-at l = l.at
