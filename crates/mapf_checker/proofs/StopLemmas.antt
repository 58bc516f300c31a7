-- How many bytes a source gave before a check stopped.
use Rattle.std.proofs.Common.{◌≡◌, ◌≢◌, ℕ, Bool, List, Option, Result, Ok, Err, IsErrOf, IsErrAnd, refl, ap, arith}
use Rattle.mapf_certificate.specs.Buffered.{Buffered}
use Rattle.mapf_certificate.specs.Window.{ComesWithin, Pulls}
use Rattle.mapf_checker.specs.declared.fault.CheckFault.{CheckFault}
use Rattle.mapf_checker.specs.declared.fault.FromFault.{FromFault}
use Rattle.mapf_checker.specs.declared.fault.FromFault.TheVariants.{Refused, Device, TooLong, Memory}
use Rattle.mapf_checker.specs.Faults.{IfRefused, IsOfChecking}

-- an error that is passed on is this one
pub passed : {A E : Type 0} (r : Result A E) (e : E) → IsErrAnd r (λ y. y ≡ e) → r ≡ Err e
passed (Ok x) e is = absurd is
passed (Err y) e is = ap Err is

pulls_within : {A : Type 0} (had left : Option (List ℕ)) (x : Buffered) (fault : FromFault) → fault ≢ TooLong → ComesWithin had left x → Pulls had left x.left (IsErrOf {T = A} (Err fault) TooLong)
pulls_within had left x fault other comes = record { came = comes.pulled; source = comes.source; few = omega (arith, comes.within); beyond = (λ e. let same : fault ≡ TooLong = cc in absurd (other same), λ h. absurd (omega (arith, comes.within))) }

-- `TooLong` if and only if the source gave too many bytes
pub pulls_if_stops : {A : Type 0} (had left : Option (List ℕ)) (failed : Bool) (x : Buffered) (Says : CheckFault → Type 0) (fault : FromFault) → IsOfChecking had left failed x Says fault → Pulls had left x.left (IsErrOf {T = A} (Err fault) TooLong)
pulls_if_stops had left failed x Says (Refused refusal) stops = pulls_within had left x (Refused refusal) (λ e. cc) stops.1
pulls_if_stops had left failed x Says Device stops = pulls_within had left x Device (λ e. cc) stops.1
pulls_if_stops had left failed x Says TooLong stops = record { came = stops.1.pulled; source = stops.1.source; few = stops.1.few; beyond = (λ e. stops.1.beyond, λ h. refl) }
pulls_if_stops had left failed x Says Memory stops = pulls_within had left x Memory (λ e. cc) stops.1

-- a weaker statement about a refusal
pub refused_if_stops : {P Q : CheckFault → Type 0} (had left : Option (List ℕ)) (failed : Bool) (x : Buffered) (fault : FromFault) → ((refusal : CheckFault) → P refusal → Q refusal) → IsOfChecking had left failed x P fault → IfRefused Q fault
refused_if_stops had left failed x (Refused refusal) f stops = f refusal stops.2
refused_if_stops had left failed x Device f stops = tt
refused_if_stops had left failed x TooLong f stops = tt
refused_if_stops had left failed x Memory f stops = tt
