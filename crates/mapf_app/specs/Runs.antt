-- What a run tells of the sources that it reads and of the sinks that it writes to.
use Rattle.std.specs.Prelude.{◌≡◌, ◌⊎◌, ◌<◌, ◌≤◌, ◌↔◌, ℕ, List, Bool, true, Option, length, take}
use Rattle.std.specs.Prelude.{Result, IfErr, IfOk, IfSome, IsErrOf, OnOk}
use Rattle.std.specs.Io.KnownBytes.{Appends, Consumes}
use Rattle.mapf_app.specs.Faults.{IsBeforeWriting}
use Rattle.mapf_app.specs.declared.fault.Fault.{Fault}
use Rattle.mapf_app.specs.declared.fault.Fault.TheVariants.{F4, F5}
use Rattle.mapf_app.specs.declared.fault.Input.{Input}
use Rattle.mapf_app.specs.declared.fault.Output.TheVariants.{Plan, Cert, Out}

-- the source has failed, or it gave more bytes than the limit
abbrev pub IsUnreadable : Bool → Option (List ℕ) → Option (List ℕ) → ℕ → Type 0
IsUnreadable failed before after limit =
    (failed ≡ true) ⊎ ((came : List ℕ) × Consumes before after came × (limit < length came))

-- the source gives at most so many bytes
abbrev pub IsWithin : Option (List ℕ) → ℕ → Type 0
IsWithin known limit = IfSome known (λ bytes. length bytes ≤ limit)

-- the run reports an error of a source only if the source failed or gave more bytes than the limit, and always if the
-- source failed; if the run succeeds, the source had no more bytes than the limit
pub record ReportsSource {T : Type 0} (result : Result T Fault) (input : Input) (limit : ℕ) (failed : Bool)
    (old new : Option (List ℕ)) : Type 0 where
  pub justified : IsErrOf result (F4 input) → IsUnreadable failed old new limit
  pub reported : failed ≡ true → IsErrOf result (F4 input)
  pub within : OnOk result (IsWithin old limit)

-- the same of a source that is read after others: if the error is one of theirs, or they weren't all read whole and
-- accepted, it stays as it was
pub record ReportsLaterSource {T : Type 0} (result : Result T Fault) (input : Input) (limit : ℕ) (failed : Bool)
    (old new : Option (List ℕ)) (stays : Type 0) (IsEarlier : Fault → Type 0) (accepted : Type 0) : Type 0 where
  pub source : ReportsSource result input limit failed old new
  pub unpulled : IfErr result (λ fault. IsEarlier fault → stays)
  pub order : (accepted → ⊥) → stays

-- if the run succeeds, the sink got such a text; an error of the sink is reported if and only if it failed, and it then
-- got a prefix of such a text; after an error that comes before writing it is as it was
pub record WritesText {T : Type 0} (result : Result T Fault) (IsText : List ℕ → Type 0) (failed : Bool)
    (old new : Option (List ℕ)) (stays : Type 0) : Type 0 where
  pub text : OnOk result ((text : List ℕ) × IsText text × Appends old new text)
  pub reported : IsErrOf result (F5 Out) ↔ (failed ≡ true)
  pub front : IsErrOf result (F5 Out) → (text : List ℕ) × (n : ℕ) × IsText text × Appends old new (take n text)
  pub unwritten : IfErr result (λ fault. IsBeforeWriting fault → stays)

-- if the run succeeds, the sinks of the plan text and of the certificate got two such texts; after an error of the
-- first it got a prefix of such a plan text; after an error of the second the first got such a plan text, and the
-- second a prefix of the certificate
pub record WritesTexts {T : Type 0} (result : Result T Fault) (AreTexts : T → List ℕ → List ℕ → Type 0)
    (plan_old plan_new cert_old cert_new : Option (List ℕ)) : Type 0 where
  pub texts : IfOk result (λ answer. (plan : List ℕ) × (cert : List ℕ) × AreTexts answer plan cert
      × Appends plan_old plan_new plan × Appends cert_old cert_new cert)
  pub plan_front : IsErrOf result (F5 Plan) → (answer : T) × (plan : List ℕ) × (cert : List ℕ) × (n : ℕ)
      × AreTexts answer plan cert × Appends plan_old plan_new (take n plan)
  pub cert_front : IsErrOf result (F5 Cert) → (answer : T) × (plan : List ℕ) × (cert : List ℕ) × (n : ℕ)
      × AreTexts answer plan cert × Appends plan_old plan_new plan × Appends cert_old cert_new (take n cert)

-- an error of the plan text's or the certificate's sink is reported if and only if the sink failed; after an error of
-- the plan text's sink the certificate's is as it was, and both are after an error that comes before writing
pub record ReportsSinks {T : Type 0} (result : Result T Fault) (plan_failed cert_failed : Bool)
    (plan_stays cert_stays : Type 0) : Type 0 where
  pub plan : IsErrOf result (F5 Plan) ↔ (plan_failed ≡ true)
  pub cert : IsErrOf result (F5 Cert) ↔ (cert_failed ≡ true)
  pub cert_later : IsErrOf result (F5 Plan) → cert_stays
  pub unwritten : IfErr result (λ fault. IsBeforeWriting fault → plan_stays × cert_stays)
