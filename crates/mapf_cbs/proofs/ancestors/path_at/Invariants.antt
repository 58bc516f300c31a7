use Rattle.std.proofs.Common.{◌≡◌, ◌<◌, List, Some, length, slice_get}
use Rattle.mapf_cbs.specs.Search.{View}
use Rattle.mapf_cbs.specs.Nodes.{AreViews}
use Rattle.mapf_cbs.proofs.ancestors.path_at.Given as goal

abbrev pub invariant-loop-at : goal.invariant-loop-at
invariant-loop-at l = record {
  inside : l.at < length l.nodes;
  same : (views : List View) (view here : View) → AreViews l.nodes views → slice_get views l.k ≡ Some view → slice_get views l.at ≡ Some here → slice_get view.paths l.agent ≡ slice_get here.paths l.agent;
}

abbrev pub decreases-loop-at : goal.decreases-loop-at
decreases-loop-at l = l.at
