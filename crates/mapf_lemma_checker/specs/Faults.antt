-- Which error of a check an error of reading is, and what errors say.
use Rattle.std.specs.Prelude.{◌≡◌, ⊤, ℕ, Bool, true, false, List, Option}
use Rattle.mapf_certificate.specs.declared.cert.LinesFault.{LinesFault}
use Rattle.mapf_certificate.specs.declared.cert.LinesFault.TheVariants as lines
use Rattle.mapf_certificate.specs.declared.cert.CertFault.TheVariants as certs
use Rattle.mapf_certificate.specs.Buffered.{Buffered}
use Rattle.mapf_certificate.specs.Window.{ComesWithin, Exceeds}
use Rattle.mapf_lemma_checker.specs.declared.fault.LemmaRefusal.{LemmaRefusal}
use Rattle.mapf_lemma_checker.specs.declared.fault.LemmaRefusal.TheVariants.{C2, C3, C4, C6, C7, C8, C9, C10}
use Rattle.mapf_lemma_checker.specs.declared.fault.LemmaFault.{LemmaFault}
use Rattle.mapf_lemma_checker.specs.declared.fault.LemmaFault.TheVariants.{Refused, Device, TooLong, Memory}

-- the error of a check that an error of a certificate is
abbrev pub of_lines : LinesFault → LemmaFault
of_lines (lines.Text certs.Memory) = Memory
of_lines (lines.Text fault) = Refused (C2 fault)
of_lines lines.Device = Device
of_lines lines.TooLong = TooLong
of_lines lines.Memory = Memory

-- an error of judging a part: a refusal of what a part says, because of this, or out of memory
abbrev pub IsRefusedFor : Type 0 → LemmaFault → Type 0
IsRefusedFor Because (Refused (C2 fault)) = ⊥
IsRefusedFor Because (Refused C3) = ⊥
IsRefusedFor Because (Refused C4) = ⊥
IsRefusedFor Because (Refused (C6 line)) = Because
IsRefusedFor Because (Refused (C7 line)) = Because
IsRefusedFor Because (Refused (C8 line)) = Because
IsRefusedFor Because (Refused (C9 line)) = Because
IsRefusedFor Because (Refused (C10 line)) = Because
IsRefusedFor Because Device = ⊥
IsRefusedFor Because TooLong = ⊥
IsRefusedFor Because Memory = ⊤

-- an error of reading and judging: a refusal that says this, or the source failed, or it gave more bytes than allowed,
-- or out of memory. The source failed in the second case and in no other
abbrev pub IsOfChecking : Option (List ℕ) → Option (List ℕ) → Bool → Buffered → (LemmaRefusal → Type 0) →
    LemmaFault → Type 0
IsOfChecking had left failed buffer Says (Refused refusal) =
    (failed ≡ false) × ComesWithin had left buffer × Says refusal
IsOfChecking had left failed buffer Says Device = (failed ≡ true) × ComesWithin had left buffer
IsOfChecking had left failed buffer Says TooLong = (failed ≡ false) × Exceeds had left buffer
IsOfChecking had left failed buffer Says Memory = (failed ≡ false) × ComesWithin had left buffer

-- the error isn't a refusal
abbrev pub IsNoRefusal : LemmaFault → Type 0
IsNoRefusal (Refused refusal) = ⊥
IsNoRefusal Device = ⊤
IsNoRefusal TooLong = ⊤
IsNoRefusal Memory = ⊤
