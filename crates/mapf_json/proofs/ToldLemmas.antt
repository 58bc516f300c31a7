-- What is told of an answer and of an error.
use Rattle.std.proofs.Common.{◌≡◌, ℕ, Bool, true, false, List, Option, Result, Ok, Err, OnErr, OnOk, if◌then◌else◌, sym, subst, take}
use Rattle.std.specs.Io.KnownBytes.{Appends}
use Rattle.std.specs.Result.{is_err}
use Rattle.mapf_app.proofs.SolveLemmas.{WritesFront}
use Rattle.mapf_app.specs.Told.{Gets, Tells}

-- whether its sink failed or not, the status is that of an error
pub error_told : (failed : Bool) (old new : Option (List ℕ)) (text : List ℕ) (status : ℕ) → Tells failed old new text 2 status → (status ≡ 2) × Gets failed old new text
error_told true old new text status told = told
error_told false old new text status told = told

-- a text was written, or a prefix of it before the sink failed, and the status says so
pub answer_told : {T E : Type 0} (r : Result T E) (failed : Bool) (old new : Option (List ℕ)) (text same_text : List ℕ) (wanted status : ℕ) → text ≡ same_text → failed ≡ is_err r → OnOk r (Appends old new text) → OnErr r (WritesFront old new text) → status ≡ if is_err r then 2 else wanted → Tells failed old new same_text wanted status
answer_told (Ok x) failed old new text same_text wanted status same is wrote front told = subst (λ (b : Bool). Tells b old new same_text wanted status) (sym is) (told, subst (λ t. Appends old new t) same wrote)
answer_told (Err e) failed old new text same_text wanted status same is wrote (n, few, w) told = subst (λ (b : Bool). Tells b old new same_text wanted status) (sym is) (told, (n, subst (λ t. Appends old new (take n t)) same w))
