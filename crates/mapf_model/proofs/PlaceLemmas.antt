-- Items of lists by their place.
use Rattle.std.proofs.Common.{◌≡◌, ◌≢◌, ℕ, zero, suc, ◌<◌, List, [], ◌∷◌, ◌++◌, Some, All, length, take, slice_get, slice_set, refl, ap, arith}
use Rattle.std.proofs.lemmas.List.Elements.{All-tail}
use Rattle.std.proofs.lemmas.Option.{same_Some}

pub slice_get-set_same : {X : Type 0} (xs : List X) (i : ℕ) (x : X) → i < length xs → slice_get (slice_set xs i x) i ≡ Some x
slice_get-set_same [] i x within = absurd (omega arith)
slice_get-set_same (y ∷ xs) zero x within = refl
slice_get-set_same (y ∷ xs) (suc i) x within = slice_get-set_same xs i x (omega arith)

pub slice_get-set_other : {X : Type 0} (xs : List X) (i k : ℕ) (x : X) → k ≢ i → slice_get (slice_set xs i x) k ≡ slice_get xs k
slice_get-set_other [] i k x other = refl
slice_get-set_other (y ∷ xs) zero zero x other = absurd (other refl)
slice_get-set_other (y ∷ xs) zero (suc k) x other = refl
slice_get-set_other (y ∷ xs) (suc i) zero x other = refl
slice_get-set_other (y ∷ xs) (suc i) (suc k) x other = slice_get-set_other xs i k x (λ e. other (ap suc e))

pub length-slice_set : {X : Type 0} (xs : List X) (i : ℕ) (x : X) → length (slice_set xs i x) ≡ length xs
length-slice_set [] i x = refl
length-slice_set (y ∷ xs) zero x = refl
length-slice_set (y ∷ xs) (suc i) x = ap suc (length-slice_set xs i x)

-- the first items and the next one
pub take-next : {X : Type 0} (xs : List X) (n : ℕ) (x : X) → slice_get xs n ≡ Some x → take (suc n) xs ≡ take n xs ++ x ∷ []
take-next [] n x is = absurd cc
take-next (y ∷ xs) zero x is = grind arith
take-next (y ∷ xs) (suc n) x is = ap (λ zs. y ∷ zs) (take-next xs n x is)

-- lists with the same item at each place are one
pub same_places : {X : Type 0} (xs ys : List X) → ((n : ℕ) → slice_get xs n ≡ slice_get ys n) → xs ≡ ys
same_places [] [] same = refl
same_places [] (y ∷ ys) same = absurd (let e = same 0 in cc)
same_places (x ∷ xs) [] same = absurd (let e = same 0 in cc)
same_places (x ∷ xs) (y ∷ ys) same = let first = same_Some x y (same 0) in let rest = same_places xs ys (λ n. same (suc n)) in cc

pub slice_get-front : {X : Type 0} (xs ys : List X) (k : ℕ) → k < length xs → slice_get (xs ++ ys) k ≡ slice_get xs k
slice_get-front [] ys k within = absurd (omega arith)
slice_get-front (x ∷ xs) ys zero within = refl
slice_get-front (x ∷ xs) ys (suc k) within = slice_get-front xs ys k (omega arith)

pub slice_get-here : {X : Type 0} (xs ys : List X) (x : X) → slice_get (xs ++ x ∷ ys) (length xs) ≡ Some x
slice_get-here [] ys x = refl
slice_get-here (y ∷ xs) ys x = slice_get-here xs ys x

-- what holds of each item holds of each of the later ones
pub All-later : {X : Type 0} (P : X → Type 0) (xs ys : List X) → All P (xs ++ ys) → All P ys
All-later P [] ys all = all
All-later P (x ∷ xs) ys all = All-later P xs ys (All-tail P x (xs ++ ys) all)
