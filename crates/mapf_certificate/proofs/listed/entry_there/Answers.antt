use Rattle.std.proofs.Common.{ℕ, List, ◌-◌, length, subst}
use Rattle.mapf_certificate.specs.Certificates.{entry_text}
use Rattle.mapf_certificate.specs.EntryReading.{BeginsWithText}
use Rattle.mapf_certificate.proofs.EntryFronts.{entry_begins, front_shorter}
use Rattle.mapf_certificate.proofs.listed.entry_there.Goals as goal

pub overflow_sub-result : goal.overflow_sub-result
overflow_sub-result c = front_shorter c.args.sizes.now c.all-bytes.result.now c.in-Ok.rest.now c.in-Ok.entry c.in-Ok.ensures

pub returns-in-Ok-clause-next : goal.returns-in-Ok-clause-next
returns-in-Ok-clause-next c = (
  (entry_begins c.args.sizes.now c.all-bytes.result.now c.in-Ok.rest.now c.in-Ok.entry c.in-Ok.ensures).0,
  c.follows_entries.ensures.0 c.if-follows_entries.true,
)

pub returns-in-Ok-clause-text : goal.returns-in-Ok-clause-text
returns-in-Ok-clause-text c =
    let bytes = c.all-bytes.result.now in
    let rest = c.in-Ok.rest.now in
    let entry = c.in-Ok.entry in
    subst (λ (b : List ℕ). BeginsWithText b (entry_text c.args.sizes.now.width entry) (length bytes - length rest)) c.all-bytes.ensures (entry_begins c.args.sizes.now bytes rest entry c.in-Ok.ensures).1
