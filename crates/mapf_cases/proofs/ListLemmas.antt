-- The first elements of a list, and one more.
use Rattle.std.proofs.Common.{◌≡◌, ◌⊎◌, ℕ, ◌+◌, ◌<◌, List, [], ◌∷◌, ◌++◌, All, AllPairs, Contains, length, take, get_or, refl, sym, ◌∙◌, subst, arith}
use Rattle.std.proofs.lemmas.List.{get_or-take, get_or_default, get_or_push, get_or_append_left, length-take, length_push, take_more}
use Rattle.std.proofs.lemmas.List.Elements.{Contains-push, Contains-push_cases, Contains-append_left, Contains-get_or}
use Rattle.std.proofs.lemmas.List.Quantifiers.{all_pairs_push}

module _ {X : Type 0} (xs : List X) (i : ℕ) (d : X) (within : i < length xs) where
  pub contains_more : (x : X) → Contains (take (i + 1) xs) x → Contains (take i xs) x ⊎ (get_or xs i d ≡ x)
  contains_more x held = Contains-push_cases (take i xs) (get_or xs i d) x (subst (λ l. Contains l x) (take_more xs i d within) held)

  pub contains_kept : (x : X) → Contains (take i xs) x → Contains (take (i + 1) xs) x
  contains_kept x held = subst (λ l. Contains l x) (sym (take_more xs i d within)) (Contains-append_left (take i xs) (get_or xs i d ∷ []) x held)

  pub contains_new : Contains (take (i + 1) xs) (get_or xs i d)
  contains_new = subst (λ l. Contains l (get_or xs i d)) (sym (take_more xs i d within)) (Contains-push (take i xs) (get_or xs i d))

  pub pairs_more : (R : X → X → Type 0) → AllPairs R (take i xs) → ((x : X) → Contains (take i xs) x → R x (get_or xs i d)) → AllPairs R (take (i + 1) xs)
  pairs_more R old new = subst (AllPairs R) (sym (take_more xs i d within)) (all_pairs_push R (take i xs) (get_or xs i d) old (λ k e inside. new (get_or (take i xs) k e) (Contains-get_or (take i xs) k e inside)))

  -- what holds of each of the first elements and one more holds of the last of these
  pub last_of : (P : X → Type 0) → All P (take (i + 1) xs) → P (get_or xs i d)
  last_of P all =
      let long = length-take (i + 1) xs in
      subst P (get_or-take (i + 1) xs i d (omega arith)) (all i d (omega (arith, long)))

  -- and of each of the others with it
  pub last_with : (R : X → X → Type 0) → AllPairs R (take (i + 1) xs) → (x : X) → Contains (take i xs) x → R x (get_or xs i d)
  last_with R all x (j, inside, is) =
      let long = length-take (i + 1) xs in
      let short = length-take i xs in
      let before : j < i = omega (arith, short, inside) in
      let first : get_or (take (i + 1) xs) j d ≡ x = get_or-take (i + 1) xs j d (omega arith) ∙ get_or_default xs j d x (omega arith) ∙ sym (get_or-take i xs j x before) ∙ is in
      subst (λ y. R y (get_or xs i d)) first (subst (λ y. R (get_or (take (i + 1) xs) j d) y) (get_or-take (i + 1) xs i d (omega arith)) (all j i d before (omega (arith, long))))

-- the first elements in pairs
pub pairs_first : {X : Type 0} (R : X → X → Type 0) (xs : List X) (n : ℕ) → AllPairs R xs → AllPairs R (take n xs)
pairs_first R xs n all i j d before inside =
    let short = length-take n xs in
    let low : j < n = omega (arith, short, inside) in
    subst (λ y. R y (get_or (take n xs) j d)) (sym (get_or-take n xs i d (omega arith)))
    (subst (λ y. R (get_or xs i d) y) (sym (get_or-take n xs j d low)) (all i j d before (omega (arith, short, inside))))

-- the last of a list in pairs with the others
pub pairs_last : {X : Type 0} (R : X → X → Type 0) (xs : List X) (y : X) → AllPairs R (xs ++ y ∷ []) → (k : ℕ) (d : X) → k < length xs → R (get_or xs k d) y
pairs_last R xs y all k d inside =
    let long = length_push xs y in
    subst (λ z. R (get_or xs k d) z) (get_or_push xs y d (length xs) refl)
    (subst (λ z. R z (get_or (xs ++ y ∷ []) (length xs) d)) (get_or_append_left xs (y ∷ []) d k inside) (all k (length xs) d inside (omega (arith, long))))
