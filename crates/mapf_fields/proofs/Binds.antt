-- What a bind of results went through, and what a test let through.
use Rattle.std.proofs.Common.{◌≡◌, ◌⊎◌, Bool, true, false, cond, is_ok, is_err, List, [], ◌∷◌, ◌++◌, Some, None, Result, Ok, Err, refl, ap, ◌∙◌, inl, inr}
use Rattle.std.proofs.lemmas.Option.{some_pair_parts}
use Rattle.mapf_fields.specs.Numbers.{◌>>=◌}

-- what a test let through
pub guarded : {X E : Type 0} (b : Bool) (err : E) (r : Result X E) (x : X) → cond b r (Err err) ≡ Ok x → (b ≡ true) × (r ≡ Ok x)
guarded true err r x e = (refl, e)
guarded false err r x e = cc

-- what a bind that succeeds went through, to a goal: the values are variables there
pub through : {A B E : Type 0} {P : Type 0} (r : Result A E) (f : A → Result B E) (y : B) → (r >>= f) ≡ Ok y → ((x : A) → r ≡ Ok x → f x ≡ Ok y → P) → P
through (Ok x) f y e more = more x refl e
through (Err d) f y e more = cc

pub same_ok : {A E : Type 0} (x y : A) → ◌≡◌ {A = Result A E} (Ok x) (Ok y) → x ≡ y
same_ok x y e = cc

-- the error of another type's result is one
pub same_err : {A E : Type 0} (x y : E) → ◌≡◌ {A = Result A E} (Err x) (Err y) → x ≡ y
same_err x y e = cc

pub ok_pair_parts : {A B E : Type 0} (a x : A) (b y : B) → ◌≡◌ {A = Result (A × B) E} (Ok (a, b)) (Ok (x, y)) → (a ≡ x) × (b ≡ y)
ok_pair_parts a x b y e = some_pair_parts a x b y (ap (λ r. elim r [ Ok p ↦ Some p | Err f ↦ None ]) e)

pub ok_triple_parts : {A B C E : Type 0} (a x : A) (b y : B) (c z : C) → ◌≡◌ {A = Result (A × B × C) E} (Ok (a, b, c)) (Ok (x, y, z)) → (a ≡ x) × (b ≡ y) × (c ≡ z)
ok_triple_parts a x b y c z e = let same = same_ok (a, b, c) (x, y, z) e in (ap (λ p. p.0) same, ap (λ p. p.1) same, ap (λ p. p.2) same)

pub ok_four_parts : {A B C D E : Type 0} (a x : A) (b y : B) (c z : C) (d w : D) → ◌≡◌ {A = Result (A × B × C × D) E} (Ok (a, b, c, d)) (Ok (x, y, z, w)) → (a ≡ x) × (b ≡ y) × (c ≡ z) × (d ≡ w)
ok_four_parts a x b y c z d w e = let same = same_ok (a, b, c, d) (x, y, z, w) e in (ap (λ p. p.0) same, ap (λ p. p.1) same, ap (λ p. p.2) same, ap (λ p. p.3) same)

-- an error that a `?` passed on
pub passed_on : {A E : Type 0} (r : Result A E) (e m : E) → (y : E) × (r ≡ Err y) × (y ≡ e) → e ≡ m → r ≡ Err m
passed_on r e m p is = p.1 ∙ ap Err (p.2 ∙ is)

-- which way a test went
pub chosen : {X : Type 0} (b : Bool) (x y z : X) → cond b x y ≡ z → ((b ≡ true) × (x ≡ z)) ⊎ (y ≡ z)
chosen true x y z e = inl (refl, e)
chosen false x y z e = inr e

pub then_ok : {A B E : Type 0} (r : Result A E) (f : A → Result B E) (x : A) (y : B) → r ≡ Ok x → f x ≡ Ok y → (r >>= f) ≡ Ok y
then_ok r f x y e more = ap (λ s. s >>= f) e ∙ more

-- what a push that didn't fail left
pub pushed : {A E X : Type 0} (r : Result A E) (old new : List X) (x : X) → new ≡ cond (is_ok r) (old ++ (x ∷ [])) old → false ≡ is_err r → new ≡ old ++ (x ∷ [])
pushed (Ok u) old new x items fine = items
pushed (Err e) old new x items fine = cc
