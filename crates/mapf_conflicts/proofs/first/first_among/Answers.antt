use Rattle.std.proofs.Common.{◌≡◌, ◌≤◌, ◌+◌, ℕ, List, ◌++◌, length, take, drop, subst, sym, ap, ◌∙◌, length-append, length-drop, arith}
use Rattle.std.proofs.lemmas.List.{length-map}
use Rattle.std.proofs.lemmas.Option.{IfSome_then}
use Rattle.mapf_model.specs.Conflicts.{AreConflictFreeBefore}
use Rattle.mapf_model.specs.Path.{at}
use Rattle.mapf_conflicts.specs.Pairs.{cells_at, AreOthersApart}
use Rattle.mapf_conflicts.proofs.ConflictLemmas.{written, apart, has_conflict, first_of_its_tick, conflict_tick, others_apart}
use Rattle.mapf_model.proofs.ConflictLemmas.{free_one_more, none_after}
use Rattle.mapf_conflicts.proofs.first.first_among.Goals as goal

still : (paths : List (List ℕ)) (n m tick : ℕ) (new old : List ℕ) → n ≡ length paths → new ≡ cells_at paths tick → n ≤ m → length old ≡ m → length (new ++ drop n old) ≡ m
still paths n m tick new old size are few whole =
    let joined = length-append new (drop n old) in
    let rest = length-drop n old in
    let all = ap length are ∙ length-map paths (λ path. at path tick) in
    omega (arith, joined, rest, size, all, few, whole)

pub returns-in-Some-clause-some : goal.returns-in-Some-clause-some
returns-in-Some-clause-some g c =
    let paths = g.P.PathsByTick.paths c.args.paths.now in
    let count = c.count-count.result in
    let next = written paths count (c.loop-tick.tick + 1) c.write_cells-in-loop-tick.new.cells (drop count c.loop-tick.next) c.count-count.ensures c.write_cells-in-loop-tick.ensures in
    has_conflict paths c.loop-tick.tick c.in-Some.conflict
    (rw (c.loop-tick.invariant.cells, next) at c.in-Some.ensures.some)

pub returns-in-Some-clause-first : goal.returns-in-Some-clause-first
returns-in-Some-clause-first g c =
    let paths = g.P.PathsByTick.paths c.args.paths.now in
    let count = c.count-count.result in
    let tick = conflict_tick (take count c.loop-tick.here) (take count (c.write_cells-in-loop-tick.new.cells ++ drop count c.loop-tick.next)) c.loop-tick.tick c.in-Some.conflict c.in-Some.ensures.some in
    subst (λ n. AreConflictFreeBefore paths n) (sym tick) c.loop-tick.invariant.free

pub returns-in-Some-clause-least : goal.returns-in-Some-clause-least
returns-in-Some-clause-least g c =
    let paths = g.P.PathsByTick.paths c.args.paths.now in
    let count = c.count-count.result in
    let next = written paths count (c.loop-tick.tick + 1) c.write_cells-in-loop-tick.new.cells (drop count c.loop-tick.next) c.count-count.ensures c.write_cells-in-loop-tick.ensures in
    let tick = conflict_tick (take count c.loop-tick.here) (take count (c.write_cells-in-loop-tick.new.cells ++ drop count c.loop-tick.next)) c.loop-tick.tick c.in-Some.conflict c.in-Some.ensures.some in
    first_of_its_tick paths c.loop-tick.tick c.in-Some.conflict tick
    (rw (c.loop-tick.invariant.cells, next) at c.in-Some.ensures.first)

pub loop-tick-preserved : goal.loop-tick-preserved
loop-tick-preserved g c =
    let paths = g.P.PathsByTick.paths c.args.paths.now in
    let count = c.count-count.result in
    let size = c.count-count.ensures in
    let few = subst (λ n. n ≤ 200) (sym size) c.requires.few in
    let tick = c.loop-tick.tick in
    let cells = c.loop-tick.invariant.cells in
    let new = c.write_cells-in-loop-tick.ensures in
    let next = written paths count (tick + 1) c.write_cells-in-loop-tick.new.cells (drop count c.loop-tick.next) size new in
    let copied = c.copy_from_slice.ensures.after ∙ next in
    record {
      here_size = still paths count 200 (tick + 1) c.copy_from_slice.new.self c.loop-tick.here size copied few c.loop-tick.invariant.here_size;
      next_size = still paths count 200 (tick + 1) c.write_cells-in-loop-tick.new.cells c.loop-tick.next size new few c.loop-tick.invariant.next_size;
      cells = written paths count (tick + 1) c.copy_from_slice.new.self (drop count c.loop-tick.here) size copied;
      free = free_one_more paths tick c.loop-tick.invariant.free
          (apart paths tick
          (rw cells at c.in_default.ensures.share)
          (rw (cells, next) at c.in_default.ensures.exchange));
    }

pub returns-clause-none : goal.returns-clause-none
returns-clause-none g c =
    let paths = g.P.PathsByTick.paths c.args.paths.now in
    let end = c.length_bound-tick-end.result in
    let all : c.loop-tick.tick ≡ end = omega arith in
    let free = subst (λ n. AreConflictFreeBefore paths n) all c.loop-tick.invariant.free in
    none_after paths end c.length_bound-tick-end.ensures.positive c.length_bound-tick-end.ensures.longest free

pub conflict_of-requires-clause-others : goal.conflict_of-requires-clause-others
conflict_of-requires-clause-others g c =
    let paths = g.P.PathsByTick.paths c.args.paths.now in
    let count = c.count-count.result in
    let next = written paths count (c.loop-tick.tick + 1) c.write_cells-in-loop-tick.new.cells (drop count c.loop-tick.next) c.count-count.ensures c.write_cells-in-loop-tick.ensures in
    rw (c.loop-tick.invariant.cells, next) (IfSome_then c.agent_before-only.result c.agent_before-only.ensures (λ only is. subst (AreOthersApart (cells_at paths c.loop-tick.tick) (cells_at paths (c.loop-tick.tick + 1))) (sym is.0)
    (others_apart paths c.args.agent c.args.free c.loop-tick.tick c.requires.others is.1)))
