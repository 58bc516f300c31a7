-- The elements of a list with one more at its beginning.
use Rattle.std.proofs.Common.{◌≡◌, ◌⊎◌, zero, suc, List, [], ◌∷◌, Contains, refl, inl, inr, arith}

pub Contains-none : {X : Type 0} (x : X) → Contains [] x → ⊥
Contains-none x (k, within, is) = omega arith

pub Contains-cons_new : {X : Type 0} (x : X) (xs : List X) → Contains (x ∷ xs) x
Contains-cons_new x xs = (0, omega arith, refl)

pub Contains-cons_old : {X : Type 0} (x y : X) (xs : List X) → Contains xs y → Contains (x ∷ xs) y
Contains-cons_old x y xs (k, within, is) = (suc k, omega arith, is)

pub Contains-cons_cases : {X : Type 0} (x y : X) (xs : List X) → Contains (x ∷ xs) y → (x ≡ y) ⊎ Contains xs y
Contains-cons_cases x y xs (zero, within, is) = inl is
Contains-cons_cases x y xs (suc k, within, is) = inr (k, omega arith, is)
