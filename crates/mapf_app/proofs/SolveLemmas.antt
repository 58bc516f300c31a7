-- What is known of the bytes that calls wrote.
use Rattle.std.proofs.Common.{◌≡◌, ◌≢◌, ◌≤◌, ℕ, true, false, List, ◌++◌, length, length-append, take, Option, Result, Ok, Err, OnOk, OnErr, IfErr, IfOk, IfSome, Some, None, IsErrOf, MatchResult, Bool, ◌↔◌, refl, sym, ap, ◌∙◌, subst, arith}
use Rattle.std.proofs.KnownBytes.{Appends-trans}
use Rattle.std.specs.Io.KnownBytes.{Appends}
use Rattle.std.specs.Result.{is_err}
use Rattle.std.proofs.lemmas.List.{take_at}
use Rattle.mapf_app.specs.Answered.{IsLimitedBy, with_refusal}
use Rattle.mapf_app.specs.Faults.{HasNoInnerMemory, IsOfDevices, IsOfMap, IsOfWriting, IsSolving}
use Rattle.mapf_app.specs.Runs.{ReportsLaterSource, ReportsSinks, ReportsSource, WritesTexts}
use Rattle.mapf_app.specs.declared.answer_writer.Answered.{Answered}
use Rattle.mapf_app.specs.declared.fault.Fault.{Fault}
use Rattle.mapf_app.specs.declared.fault.Fault.TheVariants.{F1, F2, F3, F4, F5, F6, Refused}
use Rattle.mapf_app.specs.declared.fault.Input.{Input}
use Rattle.mapf_app.specs.declared.fault.Output.{Output}
use Rattle.mapf_app.specs.declared.fault.Output.TheVariants as outputs
use Rattle.mapf_app.specs.declared.fault.Input.TheVariants.{Scen}
use Rattle.mapf_app.specs.declared.kind.Kind.{Kind}
use Rattle.mapf_checker.specs.declared.fault.CheckFault.{CheckFault}
use Rattle.mapf_words.specs.declared.job.Search.{Search}
use Rattle.mapf_words.specs.declared.job.Search.TheVariants.{Cbs, Cbsh}
use Rattle.mapf_fields.specs.Pages.{WritesOrFails, WritesPrefix}
use Rattle.mapf_fields.proofs.Prefixes.{from_take, prefix_before, prefix_next}

-- bytes were written, and then those that a call writes if it returns Ok
pub then_written : {T E : Type 0} (r : Result T E) (old mid new : Option (List ℕ)) (front rest : List ℕ) → Appends old mid front → OnOk r (Appends mid new rest) → OnOk r (Appends old new (front ++ rest))
then_written (Ok x) old mid new front rest before after = Appends-trans old mid new front rest before after
then_written (Err e) old mid new front rest before after = tt

-- the first so many bytes of a text were written
abbrev pub WritesFront : Option (List ℕ) → Option (List ℕ) → List ℕ → Type 0
WritesFront a b text = (n : ℕ) × (n ≤ length text) × Appends a b (take n text)

front_of : (a b : Option (List ℕ)) (text : List ℕ) → WritesPrefix a b text → WritesFront a b text
front_of a b text w =
    (length w.prefix, omega (arith, ap length w.same, length-append w.prefix w.rest), subst (Appends a b) (sym (ap (take (length w.prefix)) w.same ∙ take_at w.prefix w.rest (length w.prefix) refl)) w.wrote)

-- they are the first bytes of a longer text too
pub front_before : (a b : Option (List ℕ)) (part rest : List ℕ) → WritesFront a b part → WritesFront a b (part ++ rest)
front_before a b part rest (n, few, w) = front_of a b (part ++ rest) (prefix_before a b part rest (from_take a b part n w))

-- the same after a text that was written whole
pub front_next : (a b c : Option (List ℕ)) (done part : List ℕ) → Appends a b done → WritesFront b c part → WritesFront a c (done ++ part)
front_next a b c done part w (n, few, v) = front_of a c (done ++ part) (prefix_next a b c done part w (from_take b c part n v))

-- the same of the last of several calls
pub last_front : {T E : Type 0} (r : Result T E) (a b c : Option (List ℕ)) (done part : List ℕ) → Appends a b done → OnErr r (WritesFront b c part) → OnErr r (WritesFront a c (done ++ part))
last_front (Ok x) a b c done part w v = tt
last_front (Err e) a b c done part w v = front_next a b c done part w v

-- what holds anyway holds if a call fails
pub failing : {T E : Type 0} {P : Type 0} (r : Result T E) → P → OnErr r P
failing (Ok x) p = tt
failing (Err e) p = p

-- the text of a writer that returned Ok was written
pub text_written : {T E : Type 0} (r : Result T E) (a b : Option (List ℕ)) (text same_text : List ℕ) → text ≡ same_text → is_err r ≡ false → WritesOrFails a b text r → Appends a b same_text
text_written (Ok x) a b text same_text same went w = subst (Appends a b) same w
text_written (Err e) a b text same_text same went w = absurd cc

-- of the text of a writer that failed a prefix was written
pub text_front : {T E : Type 0} (r : Result T E) (a b : Option (List ℕ)) (text same_text : List ℕ) → text ≡ same_text → is_err r ≡ true → WritesOrFails a b text r → (n : ℕ) × Appends a b (take n same_text)
text_front (Ok x) a b text same_text same failed w = absurd cc
text_front (Err e) a b text same_text same failed w = let (n, few, wrote) = front_of a b text w in (n, subst (λ t. Appends a b (take n t)) same wrote)

-- where each two texts that are such are others too
pub weaker : {T : Type 0} (result : Result T Fault) (P Q : T → List ℕ → List ℕ → Type 0) (a b c d : Option (List ℕ)) → ((answer : T) (plan cert : List ℕ) → P answer plan cert → Q answer plan cert) → WritesTexts result P a b c d → WritesTexts result Q a b c d
weaker (Ok answer) P Q a b c d also w = record {
  texts = (let (plan, cert, is, wrote, wrote_too) = w.texts in (plan, cert, also answer plan cert is, wrote, wrote_too));
  plan_front = λ is. cc;
  cert_front = λ is. cc;
}
weaker (Err fault) P Q a b c d also w = record {
  texts = tt;
  plan_front = λ of. let (answer, plan, cert, n, is, wrote) = w.plan_front of in (answer, plan, cert, n, also answer plan cert is, wrote);
  cert_front = λ of. let (answer, plan, cert, n, is, wrote, wrote_too) = w.cert_front of in (answer, plan, cert, n, also answer plan cert is, wrote, wrote_too);
}

-- an error of writing is one of a device
devices : (fault : Fault) → IsOfWriting fault → IsOfDevices fault
devices (F1 fault) of = absurd of
devices (F2 fault) of = absurd of
devices (F3 fault) of = absurd of
devices (F4 input) of = absurd of
devices (F5 output) of = tt
devices F6 of = tt
devices (Refused refusal) of = absurd of

-- what was written is there, unless a device or memory prevented it
pub due_of : {T : Type 0} (result : Result T Fault) (Q : T → List ℕ → List ℕ → Type 0) (a b c d : Option (List ℕ)) → WritesTexts result Q a b c d → IfErr result IsOfWriting → MatchResult result (λ answer. (plan : List ℕ) × (cert : List ℕ) × Q answer plan cert × Appends a b plan × Appends c d cert) IsOfDevices
due_of (Ok answer) Q a b c d w of = w.texts
due_of (Err fault) Q a b c d w of = devices fault of

-- a result with a value has no error
Ok_not_Err : {T : Type 0} {x : T} {fault : Fault} → ◌≡◌ {A = Result T Fault} (Ok x) (Err fault) → ⊥
Ok_not_Err {T} {x} {fault} is = subst (λ (r : Result T Fault). OnErr r ⊥) is tt

-- the same of the answer with what was refused before it
pub answered_texts : (result : Result Kind Fault) (refused : Option CheckFault) (P : Kind → List ℕ → List ℕ → Type 0) (Q : Answered → List ℕ → List ℕ → Type 0) (a b c d : Option (List ℕ)) → ((kind : Kind) (plan cert : List ℕ) → P kind plan cert → Q (record { kind = kind; refused = refused }) plan cert) → WritesTexts result P a b c d → WritesTexts (with_refusal result refused) Q a b c d
answered_texts (Ok kind) refused P Q a b c d also w = record {
  texts = (let (plan, cert, is, wrote, wrote_too) = w.texts in (plan, cert, also kind plan cert is, wrote, wrote_too));
  plan_front = λ is. cc;
  cert_front = λ is. cc;
}
answered_texts (Err fault) refused P Q a b c d also w = record {
  texts = tt;
  plan_front = λ of. let same : IsErrOf {T = Kind} (Err fault) (F5 outputs.Plan) = as_kind fault outputs.Plan of in let (kind, plan, cert, n, is, wrote) = w.plan_front same in (record { kind = kind; refused = refused }, plan, cert, n, also kind plan cert is, wrote);
  cert_front = λ of. let same : IsErrOf {T = Kind} (Err fault) (F5 outputs.Cert) = as_kind fault outputs.Cert of in let (kind, plan, cert, n, is, wrote, wrote_too) = w.cert_front same in (record { kind = kind; refused = refused }, plan, cert, n, also kind plan cert is, wrote, wrote_too);
}
  where
    as_kind : (fault : Fault) (output : Output) → IsErrOf {T = Answered} (Err fault) (F5 output) → IsErrOf {T = Kind} (Err fault) (F5 output)
    as_kind fault output is = cc

-- an error of a sink that a result has is one that it has with what was refused before it, and the other way round
sink_error : (result : Result Kind Fault) (refused : Option CheckFault) (output : Output) (failed : Bool) → IsErrOf result (F5 output) ↔ (failed ≡ true) → IsErrOf (with_refusal result refused) (F5 output) ↔ (failed ≡ true)
sink_error (Ok kind) refused output failed both = (λ is. absurd (no_error kind refused output is), λ f. let is : IsErrOf {T = Kind} (Ok kind) (F5 output) = both.1 f in absurd (no_kind kind output is))
  where
    no_error : (kind : Kind) (refused : Option CheckFault) (output : Output) → IsErrOf {T = Answered} (Ok (record { kind = kind; refused = refused })) (F5 output) → ⊥
    no_error kind refused output is = Ok_not_Err is

    no_kind : (kind : Kind) (output : Output) → IsErrOf {T = Kind} (Ok kind) (F5 output) → ⊥
    no_kind kind output is = Ok_not_Err is
sink_error (Err fault) refused output failed both = (λ is. both.0 (to_kind fault output is), λ f. to_answer fault output (both.1 f))
  where
    to_kind : (fault : Fault) (output : Output) → IsErrOf {T = Answered} (Err fault) (F5 output) → IsErrOf {T = Kind} (Err fault) (F5 output)
    to_kind fault output is = cc

    to_answer : (fault : Fault) (output : Output) → IsErrOf {T = Kind} (Err fault) (F5 output) → IsErrOf {T = Answered} (Err fault) (F5 output)
    to_answer fault output is = cc

pub answered_sinks : (result : Result Kind Fault) (refused : Option CheckFault) (plan_failed cert_failed : Bool) (plan_stays cert_stays : Type 0) → ReportsSinks result plan_failed cert_failed plan_stays cert_stays → ReportsSinks (with_refusal result refused) plan_failed cert_failed plan_stays cert_stays
answered_sinks (Ok kind) refused plan_failed cert_failed plan_stays cert_stays r = record {
  plan = sink_error (Ok kind) refused outputs.Plan plan_failed r.plan;
  cert = sink_error (Ok kind) refused outputs.Cert cert_failed r.cert;
  cert_later = λ is. absurd (Ok_not_Err is);
  unwritten = tt;
}
answered_sinks (Err fault) refused plan_failed cert_failed plan_stays cert_stays r = record {
  plan = sink_error (Err fault) refused outputs.Plan plan_failed r.plan;
  cert = sink_error (Err fault) refused outputs.Cert cert_failed r.cert;
  cert_later = λ is. r.cert_later (as_kind fault is);
  unwritten = r.unwritten;
}
  where
    as_kind : (fault : Fault) → IsErrOf {T = Answered} (Err fault) (F5 outputs.Plan) → IsErrOf {T = Kind} (Err fault) (F5 outputs.Plan)
    as_kind fault is = cc

pub answered_fault : (result : Result Kind Fault) (refused : Option CheckFault) (P : Fault → Type 0) → IfErr result P → IfErr (with_refusal result refused) P
answered_fault (Ok kind) refused P of = tt
answered_fault (Err fault) refused P of = of

-- an error of writing is one of solving, isn't inside another error, and isn't one of reading
pub solving : (map scen : Option (List ℕ)) (count : ℕ) (fault : Fault) → IsOfWriting fault → IsSolving map scen count fault
solving map scen count (F1 fault) of = absurd of
solving map scen count (F2 fault) of = absurd of
solving map scen count (F3 fault) of = absurd of
solving map scen count (F4 input) of = absurd of
solving map scen count (F5 output) of = of
solving map scen count F6 of = tt
solving map scen count (Refused refusal) of = absurd of

pub no_inner : (fault : Fault) → IsOfWriting fault → HasNoInnerMemory fault
no_inner (F1 fault) of = absurd of
no_inner (F2 fault) of = absurd of
no_inner (F3 fault) of = absurd of
no_inner (F4 input) of = absurd of
no_inner (F5 output) of = tt
no_inner F6 of = tt
no_inner (Refused refusal) of = absurd of

not_map : (fault : Fault) → IsOfWriting fault → IsOfMap fault → ⊥
not_map (F1 fault) of early = of
not_map (F2 fault) of early = of
not_map (F3 fault) of early = of
not_map (F4 input) of early = of
not_map (F5 output) of early = early
not_map F6 of early = early
not_map (Refused refusal) of early = of

not_read : (fault : Fault) (input : Input) → IsOfWriting fault → fault ≡ F4 input → ⊥
not_read fault input of is = subst IsOfWriting is of

-- a run that has read its inputs, and of which all other errors are those of writing, tells of a source what reading
-- told
module _ {A T : Type 0} (x : A) where
  pub source_told : (result : Result T Fault) (input : Input) (limit : ℕ) (failed : Bool) (old new : Option (List ℕ)) → ReportsSource {T = A} (Ok x) input limit failed old new → IfErr result IsOfWriting → ReportsSource result input limit failed old new
  source_told (Ok y) input limit failed old new read of =
      record { justified = λ is. cc; reported = λ f. absurd (Ok_not_Err (read.reported f)); within = read.within }
  source_told (Err fault) input limit failed old new read of =
      record { justified = λ is. absurd (not_read fault input of (same_err fault (F4 input) is)); reported = λ f. absurd (Ok_not_Err (read.reported f)); within = tt }
    where
      same_err : (a b : Fault) → ◌≡◌ {A = Result T Fault} (Err a) (Err b) → a ≡ b
      same_err a b e = cc

  pub scenario_told : (result : Result T Fault) (limit : ℕ) (failed : Bool) (old new : Option (List ℕ)) (stays accepted : Type 0) → ReportsLaterSource {T = A} (Ok x) Scen limit failed old new stays IsOfMap accepted → IfErr result IsOfWriting → ReportsLaterSource result Scen limit failed old new stays IsOfMap accepted
  scenario_told (Ok y) limit failed old new stays accepted read of = record { source = source_told (Ok y) Scen limit failed old new read.source of; unpulled = tt; order = read.order }
  scenario_told (Err fault) limit failed old new stays accepted read of = record { source = source_told (Err fault) Scen limit failed old new read.source of; unpulled = λ early. absurd (not_map fault of early); order = read.order }

-- what holds of each error holds of one
pub each_error : {T : Type 0} (result : Result T Fault) (P Q : Fault → Type 0) → ((fault : Fault) → P fault → Q fault) → IfErr result P → IfErr result Q
each_error (Ok y) P Q also is = tt
each_error (Err fault) P Q also is = also fault is

-- the same of the limit that an answer names
pub answered_limit : (result : Result Kind Fault) (refused : Option CheckFault) (limit : ℕ) → IfOk result (IsLimitedBy limit) → IfOk (with_refusal result refused) (λ answer. IsLimitedBy limit answer.kind)
answered_limit (Ok kind) refused limit is = is
answered_limit (Err fault) refused limit is = tt

-- what holds of each refusal before an answer holds if nothing was refused
pub none_refused : (result : Result Kind Fault) (P : CheckFault → Type 0) → IfOk (with_refusal result None) (λ answer. IfSome answer.refused P)
none_refused (Ok kind) P = tt
none_refused (Err fault) P = tt

-- and if it holds of what was refused
pub some_refused : (result : Result Kind Fault) (refusal : CheckFault) (P : CheckFault → Type 0) → P refusal → IfOk (with_refusal result (Some refusal)) (λ answer. IfSome answer.refused P)
some_refused (Ok kind) refusal P is = is
some_refused (Err fault) refusal P is = tt

-- what holds of each refusal before an answer holds beside what holds anyway
pub refused_besides : (result : Result Answered Fault) (P : CheckFault → Type 0) (Q : Type 0) → Q → IfOk result (λ answer. IfSome answer.refused P) → IfOk result (λ answer. IfSome answer.refused (λ refusal. P refusal × Q))
refused_besides (Ok answer) P Q besides is = on answer.refused is
  where
    on : (refused : Option CheckFault) → IfSome refused P → IfSome refused (λ refusal. P refusal × Q)
    on (Some refusal) is = (is, besides)
    on None is = tt
refused_besides (Err fault) P Q besides is = tt

-- another search isn't plain search
abbrev IsOther : Search → Type 0
IsOther Cbs = ⊥
IsOther search = Unit {0}

pub not_plain : (search : Search) → search ≡ Cbsh → search ≢ Cbs
not_plain search other plain = subst IsOther (sym other ∙ plain) tt
