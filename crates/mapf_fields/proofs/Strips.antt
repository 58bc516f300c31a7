-- What follows a prefix.
use Rattle.std.proofs.Common.{◌≡◌, ◌≢◌, ℕ, Bool, true, false, cond, List, [], ◌∷◌, ◌++◌, Option, Some, None, MatchOption, option_map, Bor, Result, Ok, refl, sym, ap, subst, ◌∙◌}
use Rattle.std.specs.Prelude.{◌==◌}
use Rattle.std.specs.Option.{option_map_or}
use Rattle.std.proofs.lemmas.Bool.{eqb-true, eq-eqb}
use Rattle.mapf_fields.specs.Numbers.{strip}

pub strip-append : (p xs : List ℕ) → strip p (p ++ xs) ≡ Some xs
strip-append [] xs = refl
strip-append (c ∷ p) xs = ap (λ b. cond b (strip p (p ++ xs)) None) (eq-eqb c c refl) ∙ strip-append p xs

if_some : {A : Type 0} (b : Bool) (o : Option A) (y : A) → cond b o None ≡ Some y → (b ≡ true) × (o ≡ Some y)
if_some true o y e = (refl, e)
if_some false o y e = cc

-- what is stripped was there
pub strip-some : (p xs rest : List ℕ) → strip p xs ≡ Some rest → xs ≡ p ++ rest
strip-some [] xs rest e = cc
strip-some (c ∷ p) [] rest e = cc
strip-some (c ∷ p) (x ∷ xs) rest e =
    let (t, more) = if_some (c == x) (strip p xs) rest e in
    let same = eqb-true c x t in
    let tail = strip-some p xs rest more in
    cc

pub strip-none : (p xs : List ℕ) → ((rest : List ℕ) → xs ≢ p ++ rest) → strip p xs ≡ None
strip-none p xs none = by (strip p xs) refl
  where
    by : (o : Option (List ℕ)) → strip p xs ≡ o → strip p xs ≡ None
    by None e = e
    by (Some rest) e = absurd (none rest (strip-some p xs rest e))

pub strip_is : (p xs : List ℕ) (r : Option (Bor (List ℕ))) → MatchOption r ((rest : List ℕ) → xs ≢ p ++ rest) (λ x. xs ≡ p ++ x.now) → option_map (λ x. x.now) r ≡ strip p xs
strip_is p xs None h = sym (strip-none p xs h)
strip_is p xs (Some x) h = sym (ap (strip p) h ∙ strip-append p x.now)

-- what was read after a prefix, or otherwise
pub front_takes : {A E : Type 0} (P : List ℕ → Type 0) (front bs : List ℕ) (f : List ℕ → Result A E) (other : Result A E) (line : A)
    → ((rest : List ℕ) → f rest ≡ Ok line → P (front ++ rest)) → (other ≡ Ok line → P bs)
    → option_map_or f (strip front bs) other ≡ Ok line → P bs
front_takes P front bs f other line takes more e = by (strip front bs) refl e
  where
    by : (o : Option (List ℕ)) → strip front bs ≡ o → option_map_or f o other ≡ Ok line → P bs
    by (Some rest) is made = subst P (sym (strip-some front bs rest is)) (takes rest made)
    by None is made = more made
