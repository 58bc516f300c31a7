use Rattle.std.proofs.Common.{◌≡◌, ℕ, ◌+◌, ◌<◌, ◌≤◌, length, sym, ◌∙◌, ap, subst, slice_index_or, ⊎_elim, arith}
use Rattle.std.proofs.lemmas.Bool.{cases_lt, iff_false}
use Rattle.std.proofs.lemmas.List.{get_or_default}
use Rattle.mapf_model.specs.declared.label.Entry.{Entry}
use Rattle.mapf_single_labels.proofs.MarkLemmas.{near_next, marked_more, at_place}
use Rattle.mapf_single_labels.proofs.marks.mark_from.Goals as goal

pub overflow_cast-offsets : goal.overflow_cast-offsets
overflow_cast-offsets c =
    let here = c.is_of_tick.ensures.0 c.loop-cell-test.true in
    let near = c.loop-cell.invariant.near c.index-entries-place.result here.0 (here.1 c.index-entries-place.result) in
    let cell = c.requires.cells c.loop-cell.place c.index-entries-place.result here.0 in
    let few = c.requires.few in
    omega (arith, near, cell, few)

pub loop-cell-preserved : goal.loop-cell-preserved
loop-cell-preserved c =
    let entries = c.args.entries.now in
    let place = c.loop-cell.place in
    let here = c.is_of_tick.ensures.0 c.loop-cell-test.true in
    let low = c.loop-cell.invariant.low in
    let same : (k : ℕ) (d : Entry) → c.args.first ≤ k → k < place + 1 → (slice_index_or entries k d).tick ≡ c.args.tick = λ k d from below. ⊎_elim
    (λ (before : k < place). c.loop-cell.invariant.same k d from before)
    (λ (past : place ≤ k). let at : k ≡ place = omega (arith, past, below) in subst (λ n. (slice_index_or entries n d).tick ≡ c.args.tick) (sym at) (here.1 d))
    (cases_lt k place) in
    record {
      low = omega (arith, low);
      high = let h = here.0 in omega (arith, h);
      same = same;
      near = λ d within next. near_next entries c.requires.rising place c.args.first c.args.tick d within (here.1 d) next (c.loop-cell.invariant.near d here.0 (here.1 d));
      marked = marked_more c.loop-cell.offsets entries c.requires.rising c.args.first place c.args.tick c.cell.inside.0 low here.0 same
          (λ d. c.cell.view_is ∙ c.cell_of-cell.ensures ∙ ap (λ (e : Entry). e.cell) (c.index-entries-place.is ∙ get_or_default entries place c.index-entries-place.result d here.0))
          (let cell = c.requires.cells place c.index-entries-place.result here.0 in let size = c.loop-cell.auto.offsets in let e = c.cell.view_is ∙ c.cell_of-cell.ensures ∙ ap (λ (x : Entry). x.cell) c.index-entries-place.is in omega (arith, cell, size, e))
          c.loop-cell.invariant.marked;
    }

pub returns : goal.returns
returns c = λ k d within is. ⊎_elim
    (λ (before : k < c.args.first). let h = c.requires.earlier k d before within in omega (arith, h, is))
    (λ (from : c.args.first ≤ k). ⊎_elim
    (λ (early : k < c.loop-cell.place). c.loop-cell.invariant.marked k d from early)
    (λ (late : c.loop-cell.place ≤ k).
    let entries = c.args.entries.now in
    let place = c.loop-cell.place in
    let inside : place < length entries = omega (arith, late, within) in
    absurd (iff_false c.is_of_tick.ensures c.loop-cell-test.false (
      inside,
      λ e.
          at_place entries c.requires.rising place k c.args.tick e late within (c.requires.others place e c.loop-cell.invariant.low inside)
          (subst (λ (x : Entry). x.tick ≡ c.args.tick) (get_or_default entries k d e within) is),
    )))
    (cases_lt k c.loop-cell.place))
    (cases_lt k c.args.first)
