use Rattle.std.proofs.Common.{◌≡◌, ◌≤◌, ℕ, All, List, Some, length, slice_get}
use Rattle.mapf_cbs.specs.Search.{View}
use Rattle.mapf_cbs.specs.Whole.{IsWhole}
use Rattle.mapf_cbs.proofs.whole_node.WholeNode.plan.Given as goal

abbrev pub invariant-loop-i : goal.invariant-loop-i
invariant-loop-i l = record {
  so_many : length l.paths.items ≡ l.i;
  each : (j : ℕ) (path : List ℕ) → slice_get l.paths.items j ≡ Some path → (view : View) → IsWhole l.self view → slice_get view.paths j ≡ Some path;
  short : All (λ path. length path ≤ 10000000) l.paths.items;
}
