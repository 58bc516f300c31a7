use Rattle.std.proofs.Common.{List, Option, ℕ, inr, subst}
use Rattle.mapf_checker.specs.Refusals.{HasRefusal}
use Rattle.mapf_checker.proofs.acceptance.check.Goals as goal

pub returns-in-Ok-clause-only : goal.returns-in-Ok-clause-only
returns-in-Ok-clause-only c verdict accepted = c.in-Ok.ensures.only c.args.cert_text.now verdict c.of-source.ensures.bytes accepted

pub returns-in-Err-Refused-clause-only : goal.returns-in-Err-Refused-clause-only
returns-in-Err-Refused-clause-only c verdict accepted = absurd (rw c.in-Err-Refused.field-0-is at (c.in-Err-Refused.ensures.only c.args.cert_text.now verdict c.of-source.ensures.bytes accepted))

pub returns-in-Err-Refused-clause-refused : goal.returns-in-Err-Refused-clause-refused
returns-in-Err-Refused-clause-refused c =
    let P : Option (List ℕ) → Type 0 = λ had. HasRefusal c.args.problem.now c.args.plan_text.now had c.in-Err-Refused.fault in
    inr (subst P c.of-source.ensures.bytes (rw c.in-Err-Refused.field-0-is at c.in-Err-Refused.ensures.refused))
