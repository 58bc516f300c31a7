use Rattle.std.proofs.Common.{◌≡◌, ℕ, ◌<◌, ◌≤◌, All, List, Some, length, slice_get}
use Rattle.mapf_conflicts.specs.Pairs.{paths_behind}
use Rattle.mapf_cbs.specs.Search.{View}
use Rattle.mapf_cbs.specs.Nodes.{AreViews}
use Rattle.mapf_cbs.proofs.ancestors.paths_at.Given as goal

abbrev pub invariant-loop-agent : goal.invariant-loop-agent
invariant-loop-agent l = record {
  count : length l.paths.items ≡ l.agent;
  same : (views : List View) (view : View) → AreViews l.nodes views → slice_get views l.owners.node ≡ Some view → (i : ℕ) → i < l.agent → slice_get (paths_behind l.paths.items) i ≡ slice_get view.paths i;
  short : All (λ path. length path ≤ 10000000) (paths_behind l.paths.items);
}
