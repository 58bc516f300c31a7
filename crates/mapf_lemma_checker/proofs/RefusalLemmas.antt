-- Why a judge refuses a part.
use Rattle.std.proofs.Common.{◌≡◌, Result, Ok, Err, IfErr, sym, subst}
use Rattle.std.specs.Prelude.{IsErrAnd}
use Rattle.mapf_lemma_checker.specs.declared.fault.LemmaFault.{LemmaFault}
use Rattle.mapf_lemma_checker.specs.declared.fault.LemmaFault.TheVariants.{Refused, Device, TooLong, Memory}
use Rattle.mapf_lemma_checker.specs.declared.fault.LemmaRefusal.TheVariants.{C2, C3, C4, C6, C7, C8, C9, C10}
use Rattle.mapf_lemma_checker.specs.Faults.{IsRefusedFor}

-- what is refused for one reason is refused for each that follows from it
pub refused_more : (P Q : Type 0) → (P → Q) → (fault : LemmaFault) → IsRefusedFor P fault → IsRefusedFor Q fault
refused_more P Q more (Refused (C2 fault)) is = is
refused_more P Q more (Refused C3) is = is
refused_more P Q more (Refused C4) is = is
refused_more P Q more (Refused (C6 line)) is = more is
refused_more P Q more (Refused (C7 line)) is = more is
refused_more P Q more (Refused (C8 line)) is = more is
refused_more P Q more (Refused (C9 line)) is = more is
refused_more P Q more (Refused (C10 line)) is = more is
refused_more P Q more Device is = is
refused_more P Q more TooLong is = is
refused_more P Q more Memory is = is

-- the same of an error that a call passes on
pub refused_through : {T : Type 0} (P Q : Type 0) → (P → Q) → (result : Result T LemmaFault) (fault : LemmaFault) →
    IsErrAnd result (λ given. given ≡ fault) → IsRefusedFor P fault → IfErr result (IsRefusedFor Q)
refused_through P Q more (Ok value) fault is because = tt
refused_through P Q more (Err given) fault is because =
    subst (IsRefusedFor Q) (sym is) (refused_more P Q more fault because)
