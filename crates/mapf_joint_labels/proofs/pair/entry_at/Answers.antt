use Rattle.std.proofs.Common.{◌<◌, Some, length, slice_index_or, sym, ap, ◌∙◌, rules}
use Rattle.std.proofs.lemmas.List.Sorted.{answers_always}
use Rattle.std.proofs.lemmas.List.{get_or_default}
use Rattle.mapf_model.specs.declared.label.Entry.{Entry}
use Rattle.mapf_model.specs.States.{state_of}
use Rattle.mapf_single_labels.proofs.EntryLemmas.{found_by, none_by}
use Rattle.mapf_joint_labels.proofs.pair.entry_at.Goals as goal

pub returns-in-Ok : goal.returns-in-Ok
returns-in-Ok c =
    let entries = c.args.entries.now in
    let equal = c.in-Ok.ensures.position state_of (answers_always _ _ _ (λ f a r g called. search rules)) in
    let inside : c.in-Ok.place < length entries = c.in-Ok.ensures.bound in
    ap Some c.label_of.ensures ∙ ap (λ (e : Entry). Some e.label) c.index-entries-place.is ∙ sym (found_by entries c.requires c.args.cell c.args.tick c.in-Ok.place (slice_index_or entries c.in-Ok.place c.index-entries-place.result) inside (λ d. get_or_default entries c.in-Ok.place d c.index-entries-place.result inside) (equal c.index-entries-place.result))

pub returns-in-Err : goal.returns-in-Err
returns-in-Err c =
    let by_key = c.in-Err.ensures.position state_of (answers_always _ _ _ (λ f a r g called. search rules)) in
    sym (none_by c.args.entries.now c.requires c.args.cell c.args.tick c.in-Err.field-0 by_key)
