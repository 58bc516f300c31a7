-- Which error of a check an error of reading is, and what errors say.
use Rattle.std.specs.Prelude.{◌≡◌, ◌≢◌, ⊤, ℕ, Bool, true, false, List, Option}
use Rattle.mapf_certificate.specs.declared.cert.LinesFault.{LinesFault}
use Rattle.mapf_certificate.specs.declared.cert.LinesFault.TheVariants as lines
use Rattle.mapf_certificate.specs.declared.cert.CertFault.TheVariants as certs
use Rattle.mapf_certificate.specs.declared.plan_text.PlanTextFault.{PlanTextFault}
use Rattle.mapf_certificate.specs.declared.plan_text.PlanTextFault.TheVariants as plans
use Rattle.mapf_certificate.specs.Buffered.{Buffered}
use Rattle.mapf_certificate.specs.Window.{ComesWithin, Exceeds}
use Rattle.mapf_checker.specs.declared.fault.CheckFault.{CheckFault}
use Rattle.mapf_checker.specs.declared.fault.CheckFault.TheVariants.{C1, C2, C3, C4, C5, C6, C7, C8, C9, C10}
use Rattle.mapf_checker.specs.declared.fault.CheckFault.TheVariants as refusals
use Rattle.mapf_checker.specs.declared.fault.FromFault.{FromFault}
use Rattle.mapf_lemma_checker.specs.declared.fault.LemmaFault.{LemmaFault}
use Rattle.mapf_lemma_checker.specs.declared.fault.LemmaFault.TheVariants as lemmas
use Rattle.mapf_lemma_checker.specs.declared.fault.LemmaRefusal.{LemmaRefusal}
use Rattle.mapf_lemma_checker.specs.declared.fault.LemmaRefusal.TheVariants as lemma_refusals
use Rattle.mapf_checker.specs.declared.fault.FromFault.TheVariants.{Refused, Device, TooLong, Memory}

-- the error of a check that an error of a plan text is
abbrev pub of_plan : PlanTextFault → FromFault
of_plan plans.Memory = Memory
of_plan fault = Refused (C1 fault)

-- the error of a check that an error of a certificate is
abbrev pub of_cert : LinesFault → FromFault
of_cert (lines.Text certs.Memory) = Memory
of_cert (lines.Text fault) = Refused (C2 fault)
of_cert lines.Device = Device
of_cert lines.TooLong = TooLong
of_cert lines.Memory = Memory

-- the refusal of a check that a refusal of a certificate of version 3 is
abbrev pub of_lemma_refusal : LemmaRefusal → CheckFault
of_lemma_refusal (lemma_refusals.C2 fault) = C2 fault
of_lemma_refusal lemma_refusals.C3 = C3
of_lemma_refusal lemma_refusals.C4 = C4
of_lemma_refusal (lemma_refusals.C6 line) = C6 line
of_lemma_refusal (lemma_refusals.C7 line) = C7 line
of_lemma_refusal (lemma_refusals.C8 line) = C8 line
of_lemma_refusal (lemma_refusals.C9 line) = C9 line
of_lemma_refusal (lemma_refusals.C10 line) = C10 line

-- the error of a check that an error of judging a certificate of version 3 is
abbrev pub of_lemmas : LemmaFault → FromFault
of_lemmas (lemmas.Refused refusal) = Refused (of_lemma_refusal refusal)
of_lemmas lemmas.Device = Device
of_lemmas lemmas.TooLong = TooLong
of_lemmas lemmas.Memory = Memory

-- an error of judging: a refusal that says this, or out of memory
abbrev pub IsOfJudging : (CheckFault → Type 0) → FromFault → Type 0
IsOfJudging Says (Refused fault) = Says fault
IsOfJudging Says Device = ⊥
IsOfJudging Says TooLong = ⊥
IsOfJudging Says Memory = ⊤

-- an error of reading and judging: a refusal that says this, or the source failed, or it gave more bytes than allowed,
-- or out of memory. The source failed in the second case and in no other
abbrev pub IsOfChecking : Option (List ℕ) → Option (List ℕ) → Bool → Buffered → (CheckFault → Type 0) → FromFault →
    Type 0
IsOfChecking had left failed buffer Says (Refused fault) = (failed ≡ false) × ComesWithin had left buffer × Says fault
IsOfChecking had left failed buffer Says Device = (failed ≡ true) × ComesWithin had left buffer
IsOfChecking had left failed buffer Says TooLong = (failed ≡ false) × Exceeds had left buffer
IsOfChecking had left failed buffer Says Memory = (failed ≡ false) × ComesWithin had left buffer

-- what a refusal says
abbrev pub IfRefused : (CheckFault → Type 0) → FromFault → Type 0
IfRefused Says (Refused fault) = Says fault
IfRefused Says Device = ⊤
IfRefused Says TooLong = ⊤
IfRefused Says Memory = ⊤

-- the error isn't a refusal
abbrev pub IsNoRefusal : FromFault → Type 0
IsNoRefusal (Refused fault) = ⊥
IsNoRefusal Device = ⊤
IsNoRefusal TooLong = ⊤
IsNoRefusal Memory = ⊤

-- the refusal isn't an error of one of the texts that means out of memory
abbrev pub HasNoTextMemory : CheckFault → Type 0
HasNoTextMemory (C1 fault) = fault ≢ plans.Memory
HasNoTextMemory (C2 fault) = fault ≢ certs.Memory
HasNoTextMemory C3 = ⊤
HasNoTextMemory C4 = ⊤
HasNoTextMemory (C5 fault) = ⊤
HasNoTextMemory (C6 line) = ⊤
HasNoTextMemory (C7 line) = ⊤
HasNoTextMemory (C8 line) = ⊤
HasNoTextMemory (C9 line) = ⊤
HasNoTextMemory (C10 line) = ⊤
HasNoTextMemory refusals.Memory = ⊤

-- the error isn't a refusal that means out of memory
abbrev pub IsNoMemoryRefusal : FromFault → Type 0
IsNoMemoryRefusal (Refused fault) = (fault ≢ refusals.Memory) × HasNoTextMemory fault
IsNoMemoryRefusal Device = ⊤
IsNoMemoryRefusal TooLong = ⊤
IsNoMemoryRefusal Memory = ⊤
