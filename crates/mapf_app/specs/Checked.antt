-- What a run that checks two texts refuses, and when it reads the certificate; and answers that are checked before they
-- are written.
use Rattle.std.specs.Prelude.{◌≡◌, ◌≢◌, ◌≤◌, ⊤, ℕ, List, Option, IfSome}
use Rattle.mapf_app.specs.Problems.{SpellsProblem}
use Rattle.mapf_app.specs.declared.checked.Unaccepted.{Unaccepted}
use Rattle.mapf_app.specs.declared.checked.Unaccepted.TheVariants as unaccepted
use Rattle.mapf_app.specs.declared.kind.Kind.{Kind}
use Rattle.mapf_app.specs.declared.kind.Kind.TheVariants.{Found, Impossible, Limit, Within}
use Rattle.mapf_certificate.specs.Plans.{IsCauseInRange}
use Rattle.mapf_certificate.specs.declared.cert.CertFault.TheVariants as certs
use Rattle.mapf_certificate.specs.declared.plan_text.PlanAnswer.{PlanAnswer}
use Rattle.mapf_certificate.specs.declared.plan_text.PlanAnswer.TheVariants as answers
use Rattle.mapf_checker.specs.Faults.{HasNoTextMemory}
use Rattle.mapf_checker.specs.Refusals.{HasRefusal}
use Rattle.mapf_checker.specs.Verdict.{IsGoodPlan}
use Rattle.mapf_checker.specs.declared.fault.CheckFault.{CheckFault}
use Rattle.mapf_checker.specs.declared.fault.CheckFault.TheVariants as refusals
use Rattle.mapf_checker.specs.declared.fault.Verdict.{Verdict}
use Rattle.mapf_checker.specs.declared.fault.Verdict.TheVariants as verdicts
use Rattle.mapf_lemma_texts.specs.declared.cert_writer.WriteFault.{WriteFault}
use Rattle.mapf_lemma_texts.specs.declared.cert_writer.WriteFault.TheVariants as unwritten
use Rattle.mapf_model.specs.Limits.{greatest_sum}
use Rattle.mapf_model.specs.Plan.{Instance}
use Rattle.mapf_model.specs.declared.item.Claim.{Claim}
use Rattle.mapf_model.specs.declared.item.Claim.TheVariants as claims

-- a text has the defect that the refusal names, for the problem that the map and the scenario spell
pub record IsRefusalOf (map scen plan cert : Option (List ℕ)) (count : ℕ) (refusal : CheckFault) : Type 0 where
  pub problem : Instance
  pub read : SpellsProblem map scen count problem
  pub defect : IfSome plan (λ plan_text. HasRefusal problem plan_text cert refusal)

-- the bytes spell a plan text for the problem that the map and the scenario spell, and this is the claim of its answer
pub record HasGoodPlan (map scen plan : Option (List ℕ)) (count : ℕ) : Type 0 where
  pub problem : Instance
  pub read : SpellsProblem map scen count problem
  pub answer : Claim
  pub good : IfSome plan (λ plan_text. IsGoodPlan problem plan_text answer)

-- if the answer is a limit, it has a bound, and the cause and the bound are in their ranges
abbrev pub IsBoundInRange : PlanAnswer → Type 0
IsBoundInRange (answers.Found plan) = ⊤
IsBoundInRange answers.Impossible = ⊤
IsBoundInRange (answers.Limit cause) = ⊥
IsBoundInRange (answers.Bounded cause bound) = IsCauseInRange cause × (bound ≤ greatest_sum)

-- the verdict, the plan text's answer and the certificate's claim are those of this answer of a run, with the same
-- numbers
abbrev pub IsKindOf : Verdict → PlanAnswer → Claim → Kind → Type 0
IsKindOf verdict answer claim (Found cost) = (verdict ≡ verdicts.Optimal cost)
    × ((plan : List (List ℕ)) × (answer ≡ answers.Found plan)) × (claim ≡ claims.Cost cost)
IsKindOf verdict answer claim Impossible =
    (verdict ≡ verdicts.Impossible) × (answer ≡ answers.Impossible) × (claim ≡ claims.Impossible)
IsKindOf verdict answer claim (Limit cause bound) =
    (verdict ≡ verdicts.Bound bound) × (answer ≡ answers.Bounded cause bound) × (claim ≡ claims.Bound bound)
IsKindOf verdict answer claim (Within bound cost) = (verdict ≡ verdicts.Within bound cost)
    × ((plan : List (List ℕ)) × (answer ≡ answers.Found plan)) × (claim ≡ claims.Bound bound)

-- why the check didn't accept an answer: it refused it, or memory ran out, which is no refusal
abbrev pub of_check : CheckFault → Unaccepted
of_check refusals.Memory = unaccepted.Memory
of_check fault = unaccepted.Refused fault

-- why no certificate was written: it lists more than a text can count, which is refused as a number out of its range is
-- (the line is that of the first part), or memory ran out
abbrev pub of_write : WriteFault → Unaccepted
of_write unwritten.TooMany = unaccepted.Refused (refusals.C2 (certs.K3 4))
of_write unwritten.Memory = unaccepted.Memory

-- the refusal isn't out of memory, also not inside an error of a text
abbrev pub HasNoCheckMemory : CheckFault → Type 0
HasNoCheckMemory refusal = (refusal ≢ refusals.Memory) × HasNoTextMemory refusal

-- the same, if an answer was refused
abbrev pub HasNoRefusedMemory : Unaccepted → Type 0
HasNoRefusedMemory (unaccepted.Refused refusal) = HasNoCheckMemory refusal
HasNoRefusedMemory unaccepted.Memory = ⊤
