use Rattle.std.proofs.Common.{◌≡◌, ◌<◌, List, Some, length, slice_get}
use Rattle.mapf_cbs.specs.Search.{View}
use Rattle.mapf_cbs.specs.Nodes.{AreViews, AreJoined}
use Rattle.mapf_cbs.proofs.ancestors.gather_bars.Given as goal

abbrev pub invariant-loop-at : goal.invariant-loop-at
invariant-loop-at g l = record {
  inside : l.at < length l.nodes;
  same : (views : List View) (view here : View) → AreViews l.nodes views → slice_get views l.k ≡ Some view → slice_get views l.at ≡ Some here → AreJoined (view.context.bars l.agent) (g.B.BarTable.bars l.table) (here.context.bars l.agent);
}

abbrev pub decreases-loop-at : goal.decreases-loop-at
decreases-loop-at g l = l.at
