use Rattle.std.proofs.Common.{◌≡◌, ◌++◌, ⊎_elim, codes, refl, subst}
use Rattle.mapf_app.specs.FaultLines.{cert_fault_line, plan_text_fault_line, refusal_line}
use Rattle.mapf_certificate.specs.declared.cert.CertFault.{CertFault}
use Rattle.mapf_certificate.specs.declared.plan_text.PlanTextFault.{PlanTextFault}
use Rattle.mapf_checker.specs.declared.fault.CheckFault.{CheckFault}
use Rattle.mapf_app.proofs.LineLemmas.{memory_not_refused}
use Rattle.mapf_app.proofs.line.refusal_line.Goals as goal

pub returns-in-C1-clause-words : goal.returns-in-C1-clause-words
returns-in-C1-clause-words c rest is =
    ⊎_elim (λ memory. absurd (memory_not_refused rest (subst (λ (fault : PlanTextFault). plan_text_fault_line (codes "refused C1") fault ≡ codes "refused " ++ rest) memory (subst (λ (refusal : CheckFault). refusal_line refusal ≡ codes "refused " ++ rest) c.in-C1.is is))))
    (λ same. rw same refl) c.plan_text_line.ensures.words

pub returns-in-C2-clause-words : goal.returns-in-C2-clause-words
returns-in-C2-clause-words c rest is =
    ⊎_elim (λ memory. absurd (memory_not_refused rest (subst (λ (fault : CertFault). cert_fault_line fault ≡ codes "refused " ++ rest) memory (subst (λ (refusal : CheckFault). refusal_line refusal ≡ codes "refused " ++ rest) c.in-C2.is is))))
    (λ begins. begins) c.certificate_line.ensures.words

pub returns-in-Memory-clause-words : goal.returns-in-Memory-clause-words
returns-in-Memory-clause-words c rest is = absurd (memory_not_refused rest (subst (λ (refusal : CheckFault). refusal_line refusal ≡ codes "refused " ++ rest) c.in-Memory.is is))
