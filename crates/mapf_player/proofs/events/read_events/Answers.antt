use Rattle.std.proofs.Common.{◌≡◌, ◌++◌, Err, IfErr, [], codes, sym, ap, subst, ◌∙◌, inl, inr, ⊎_elim}
use Rattle.std.proofs.lemmas.Result.{err_from_is_err_and}
use Rattle.std.specs.Cmp.Lexicographic.{other_text, same_text}
use Rattle.mapf_player.proofs.EventLemmas.{fault_passed, more_fault, no_fault, title_before, something_left, told_other, text_has_line, title_of, text_read, text_again, nothing_left, not_other}
use Rattle.mapf_player.specs.Events.{HasEventFault}
use Rattle.mapf_player.specs.declared.events.EventFault.TheVariants.{Memory}
use Rattle.mapf_player.proofs.events.read_events.Goals as goal

title_is : (c : goal.Then-is_empty) → c.in_ok-title.title.now ≡ codes "mapf-events 1"
title_is c = same_text c.in_ok-title.title.now c.as_slice.result.now (not_other _ c.if-ne.ensures) ∙ c.as_slice.ensures

pub returns-then-is_empty-clause-found : goal.returns-then-is_empty-clause-found
returns-then-is_empty-clause-found c = record {
  in_range = c.in_ok-events.ensures.found.0;
  spelled = text_read c.args.bytes.now c.in_ok-title.title.now c.in_ok-title.rest.now c.in_ok-events.rest.now c.in_ok-events.events.items c.in_ok-title.ensures.found (title_is c) c.in_ok-events.ensures.found.1 (nothing_left c.in_ok-events.rest.now c.if-is_empty.ensures);
}

pub returns-then-is_empty-clause-only : goal.returns-then-is_empty-clause-only
returns-then-is_empty-clause-only c = λ events spelled. ⊎_elim
    (λ read. inl read.0)
    (λ e. cc)
    (c.in_ok-events.ensures.only events [] spelled.in_range (text_again c.args.bytes.now c.in_ok-title.title.now c.in_ok-title.rest.now events c.in_ok-title.ensures.found spelled.spelled))

pub returns-in_err-title-clause-only : goal.returns-in_err-title-clause-only
returns-in_err-title-clause-only c = λ events spelled.
    let is_ok = c.line_at.ensures.only (text_has_line c.args.bytes.now events spelled.spelled) in
    absurd (no_fault c.line_at.result c.in_err-title.field-0.0 c.in_err-title.was is_ok)

pub returns-then-ne-clause-only : goal.returns-then-ne-clause-only
returns-then-ne-clause-only c = λ events spelled.
    let title = title_of c.args.bytes.now c.in_ok-title.title.now c.in_ok-title.rest.now events c.in_ok-title.ensures.found spelled.spelled in
    absurd (other_text c.in_ok-title.title.now c.as_slice.result.now (told_other _ c.if-ne.ensures) (title ∙ sym c.as_slice.ensures))

pub returns-in_err-events-clause-only : goal.returns-in_err-events-clause-only
returns-in_err-events-clause-only c = λ events spelled. ⊎_elim
    (λ read. absurd read)
    (λ e.
    let (given, is, handed) = err_from_is_err_and c.from_residual-in_err-events.result c.from_residual-in_err-events.ensures.1 in
    let memory : c.in_err-events.field-0.0 ≡ Memory = cc in
    inr (is ∙ ap Err (handed ∙ memory)))
    (c.in_err-events.ensures.only events [] spelled.in_range (text_again c.args.bytes.now c.in_ok-title.title.now c.in_ok-title.rest.now events c.in_ok-title.ensures.found spelled.spelled))

pub returns-else-is_empty-clause-only : goal.returns-else-is_empty-clause-only
returns-else-is_empty-clause-only c = λ events spelled. ⊎_elim
    (λ read. absurd (something_left c.in_ok-events.rest.now read.1 c.if-is_empty.ensures))
    (λ e. cc)
    (c.in_ok-events.ensures.only events [] spelled.in_range (text_again c.args.bytes.now c.in_ok-title.title.now c.in_ok-title.rest.now events c.in_ok-title.ensures.found spelled.spelled))

pub returns-in_err-events-clause-fault : goal.returns-in_err-events-clause-fault
returns-in_err-events-clause-fault c =
    let is_title = same_text c.in_ok-title.title.now c.as_slice.result.now (not_other _ c.if-ne.ensures) ∙ c.as_slice.ensures in
    let begins = title_before c.args.bytes.now c.in_ok-title.title.now c.in_ok-title.rest.now c.in_ok-title.ensures.found is_title in
    subst (λ bytes. IfErr c.from_residual-in_err-events.result (HasEventFault bytes c.args.agents)) (sym begins)
    (fault_passed (HasEventFault (codes "mapf-events 1\n" ++ c.in_ok-title.rest.now) c.args.agents) c.from_residual-in_err-events.result c.in_err-events.field-0.0 c.from_residual-in_err-events.ensures.1 c.in_err-events.ensures.fault)

pub returns-else-is_empty-clause-fault : goal.returns-else-is_empty-clause-fault
returns-else-is_empty-clause-fault c =
    let is_title = same_text c.in_ok-title.title.now c.as_slice.result.now (not_other _ c.if-ne.ensures) ∙ c.as_slice.ensures in
    let begins = title_before c.args.bytes.now c.in_ok-title.title.now c.in_ok-title.rest.now c.in_ok-title.ensures.found is_title in
    more_fault c.args.bytes.now c.in_ok-title.rest.now c.in_ok-events.rest.now c.in_ok-events.events.items c.args.agents c.in_ok-events.number begins c.in_ok-events.ensures.found.0 c.in_ok-events.ensures.found.1 c.in_ok-events.ensures.number
    (λ none. something_left c.in_ok-events.rest.now none c.if-is_empty.ensures)
