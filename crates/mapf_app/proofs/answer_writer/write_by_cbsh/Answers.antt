use Rattle.std.proofs.Common.{◌≡◌, Some, None, subst, sym}
use Rattle.std.proofs.lemmas.Bool.{true≢false}
use Rattle.mapf_app.specs.Checked.{HasNoCheckMemory, HasNoRefusedMemory}
use Rattle.mapf_app.specs.declared.checked.Unaccepted.TheVariants.{Refused}
use Rattle.mapf_app.proofs.SolveLemmas.{answered_fault, answered_limit, answered_sinks, answered_texts, none_refused, some_refused}
use Rattle.mapf_app.proofs.answer_writer.write_by_cbsh.Goals as goal

pub returns-in-Ok-clause-texts : goal.returns-in-Ok-clause-texts
returns-in-Ok-clause-texts g c =
    rw c.with_refusal.ensures (answered_texts c.write_checked.result None _ _ _ _ _ _ (λ kind plan cert same. (rw (same.0, same.1, same.2) c.in-Ok.ensures.prints, λ refused. absurd (true≢false (sym refused)))) c.write_checked.ensures.texts)

pub returns-in-Ok-clause-refused : goal.returns-in-Ok-clause-refused
returns-in-Ok-clause-refused g c = rw c.with_refusal.ensures (none_refused c.write_checked.result _)

pub returns-in-Err-Refused : goal.returns-in-Err-Refused
returns-in-Err-Refused g c =
    let same : c.in-Err-Refused.field-0 ≡ Refused c.in-Err-Refused.refusal = cc in
    record {
      texts = rw c.with_refusal-in-Err-Refused.ensures (answered_texts c.write_plain.result (Some c.in-Err-Refused.refusal) _ _ _ _ _ _ (λ kind plan cert is. (is.0, λ refused. is.1)) c.write_plain.ensures.texts);
      sinks = rw c.with_refusal-in-Err-Refused.ensures (answered_sinks c.write_plain.result (Some c.in-Err-Refused.refusal) _ _ _ _ c.write_plain.ensures.sinks);
      limit = rw c.with_refusal-in-Err-Refused.ensures (answered_limit c.write_plain.result (Some c.in-Err-Refused.refusal) c.args.effort.limit c.write_plain.ensures.limit);
      refused = rw c.with_refusal-in-Err-Refused.ensures (some_refused c.write_plain.result c.in-Err-Refused.refusal HasNoCheckMemory (subst HasNoRefusedMemory same c.in-Err-Refused.ensures.inner));
      fault = rw c.with_refusal-in-Err-Refused.ensures (answered_fault c.write_plain.result (Some c.in-Err-Refused.refusal) _ c.write_plain.ensures.fault);
    }
