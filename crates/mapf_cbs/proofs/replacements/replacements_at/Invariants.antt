use Rattle.std.proofs.Common.{◌≡◌, ℕ, ◌<◌, ◌≤◌, List, All, Some, length, slice_get}
use Rattle.mapf_conflicts.specs.Replacements.{with_replacements}
use Rattle.mapf_cbs.specs.Search.{View}
use Rattle.mapf_cbs.specs.Nodes.{AreViews}
use Rattle.mapf_cbs.proofs.replacements.replacements_at.Given as goal

abbrev pub invariant-loop-agent : goal.invariant-loop-agent
invariant-loop-agent l = record {
  known : All (λ one. one.agent < length l.root) l.replacements.items;
  same : (views : List View) (view : View) → AreViews l.nodes views → slice_get views l.owners.node ≡ Some view → (i : ℕ) → i < l.agent → slice_get (with_replacements l.root l.replacements.items) i ≡ slice_get view.paths i;
  later : (i : ℕ) → l.agent ≤ i → slice_get (with_replacements l.root l.replacements.items) i ≡ slice_get l.root i;
  short : All (λ path. length path ≤ 10000000) (with_replacements l.root l.replacements.items);
}
