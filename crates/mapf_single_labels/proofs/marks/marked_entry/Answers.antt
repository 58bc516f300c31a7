use Rattle.std.proofs.Common.{◌≡◌, ◌+◌, ◌≤◌, Some, length, sym, ◌∙◌, ap, subst, slice_index, slice_index_or, arith}
use Rattle.std.proofs.lemmas.Bool.{iff_false}
use Rattle.mapf_single_labels.specs.Marks.{IsOf}
use Rattle.mapf_single_labels.proofs.EntryLemmas.{entries_of-some}
use Rattle.mapf_single_labels.proofs.MarkLemmas.{none_by_mark}
use Rattle.mapf_single_labels.proofs.marks.marked_entry.Goals as goal

pub returns-then-place-offsets : goal.returns-then-place-offsets
returns-then-place-offsets c = sym (none_by_mark c.args.offsets.now c.args.entries.now c.args.first c.args.cell c.args.tick c.requires.marked c.requires.cells
    (λ k d inside at within is. let h = c.if-place-offsets.true in let e = c.cell.view_is in omega (arith, inside, h, e)))

pub returns-then-is_of : goal.returns-then-is_of
returns-then-is_of c =
    let lookup = c.in-Some.ensures.lookup in
    let place = c.args.first + slice_index c.args.offsets.now c.cell.inside.0 in
    ap Some c.label_of.ensures ∙ sym (entries_of-some c.args.entries.now c.args.cell c.args.tick place c.in-Some.entry.now c.requires.rising lookup.3.0 (λ d. sym (lookup.3.1 d)) (c.is_of.ensures.0 c.if-is_of.true))

pub returns-else-is_of : goal.returns-else-is_of
returns-else-is_of c =
    let entries = c.args.entries.now in
    let lookup = c.in-Some.ensures.lookup in
    sym (none_by_mark c.args.offsets.now entries c.args.first c.args.cell c.args.tick c.requires.marked c.requires.cells
    (λ k d inside at within is.
    let place : k ≡ c.args.first + slice_index c.args.offsets.now c.cell.inside.0 = at ∙ ap (λ n. c.args.first + slice_index c.args.offsets.now n) (sym c.cell.view_is) in
    let entry = ap (λ n. slice_index_or entries n d) place ∙ sym (lookup.3.1 d) in
    iff_false c.is_of.ensures c.if-is_of.false (subst (IsOf c.args.cell c.args.tick) entry is)))

pub returns-in-None : goal.returns-in-None
returns-in-None c =
    let none : length c.args.entries.now ≤ c.args.first + slice_index c.args.offsets.now c.cell.inside.0 = rw c.in-None.is at c.get.ensures.lookup.3 in
    sym (none_by_mark c.args.offsets.now c.args.entries.now c.args.first c.args.cell c.args.tick c.requires.marked c.requires.cells
    (λ k d inside at within is.
    let place : k ≡ c.args.first + slice_index c.args.offsets.now c.cell.inside.0 = at ∙ ap (λ n. c.args.first + slice_index c.args.offsets.now n) (sym c.cell.view_is) in
    omega (arith, none, place, within)))
