use Rattle.std.proofs.Common.{◌≡◌, ℕ, ◌+◌, ◌-◌, ◌≤◌, length, slice_index, slice_index_or, sym, ap, subst, ◌∙◌, arith}
use Rattle.std.proofs.lemmas.List.{get_or_default}
use Rattle.mapf_model.specs.Distance.{IsDistance}
use Rattle.mapf_model.specs.Grid.{Step}
use Rattle.mapf_constraints.specs.BarSets.{AreBefore}
use Rattle.mapf_spacetime.specs.PathSearch.{IsSearching, state_of}
use Rattle.mapf_spacetime.specs.Task.{IsValue}
use Rattle.mapf_spacetime.proofs.DirectLemmas.{only_cells, without_failures, step_direct, level_direct, free_direct}
use Rattle.mapf_spacetime.proofs.path_search.PathSearch.go_straight.Goals as goal

pub loop-self-init : goal.loop-self-init
loop-self-init g c =
    let task = c.args.task.now in
    let cost = c.args.cost in
    let same = ap (λ w. w.cells) (sym c.self.view_is) in
    record {
      searching = subst (λ cells. IsSearching task cost (only_cells cells)) same (without_failures task cost c.args.self.now c.requires.searching);
      free = subst (λ cells. AreBefore (length cells - 1) task.bars) same c.requires.free;
      level = subst (λ cells. IsValue task (state_of cells (length cells - 1)) cost) same c.requires.level;
    }

pub loop-self-preserved : goal.loop-self-preserved
loop-self-preserved g c =
    let task = c.args.task.now in
    let cost = c.args.cost in
    let cells = c.loop-self.self-inside.cells.items in
    let to = c.nearer.result in
    let i = c.loop-self.invariant in
    let some = i.searching.from.some in
    let ok = c.loop-self.self-inside.cells.ok.0 in
    let size : c.len-tick.result ≡ length cells = (let n = c.len-tick.ensures in omega (arith, n, ok)) in
    let unfinished : length cells ≤ cost = (let n = c.len.ensures in let t = c.loop-self-test.true in omega (arith, n, t, ok)) in
    let distance : ℕ = cost - (c.len-tick.result - 1) - 1 in
    let left : (length cells - 1) + (distance + 1) ≡ cost = omega (arith, size, some, unfinished) in
    let here : c.index-here.result.now ≡ slice_index cells (length cells - 1) =
    c.index-here.ensures ∙ ap (λ n. slice_index_or cells (n - 1) c.index-here.result.now) size ∙ get_or_default cells (length cells - 1) c.index-here.result.now 0 (omega (arith, some)) in
    let step = subst (λ from. Step task.grid from to) here c.nearer.ensures.step in
    let least : (other : ℕ) → Step task.grid (slice_index cells (length cells - 1)) other → IsDistance task.grid task.goal other distance → to ≤ other = λ other beside near.
    c.nearer.ensures.least other (subst (λ from. Step task.grid from other) (sym here) beside) near in
    rw c.in_ok-push.ensures.items (record {
      searching = step_direct task cost cells i.searching unfinished i.free i.level to distance left step c.nearer.ensures.nearer least;
      free = free_direct task cost cells i.searching unfinished i.free i.level to distance left step c.nearer.ensures.nearer least;
      level = level_direct task cost cells i.searching unfinished i.free i.level to distance left step c.nearer.ensures.nearer least;
    })
