-- Lists that are mapped, filtered or joined.
use Rattle.std.proofs.Common.{◌≡◌, ℕ, zero, suc, ◌+◌, Bool, true, List, [], ◌∷◌, ◌++◌, Some, All, AllPairs, Contains, length, map, filter, slice_get, slice_index_or, ◌∙◌, ap, subst, ⊎_elim, zero-add, suc-add, arith}
use Rattle.std.proofs.lemmas.Bool.{cond_both}
use Rattle.std.proofs.lemmas.List.Elements.{All-append, All-contains, All-map, Contains-append_left, Contains-append_right, Contains-get_or}
use Rattle.std.proofs.lemmas.List.Kept.{AllPairs-cons}
use Rattle.mapf_model.proofs.ContainsLemmas.{Contains-none, Contains-cons_new, Contains-cons_old, Contains-cons_cases}

pub all_of_contained : {X : Type 0} (P : X → Type 0) (xs : List X) → ((x : X) → Contains xs x → P x) → All P xs
all_of_contained P xs each k d within = each (slice_index_or xs k d) (Contains-get_or xs k d within)

module _ {X Y : Type 0} (f : X → Y) where
  pub contains_map : (xs : List X) (x : X) → Contains xs x → Contains (map f xs) (f x)
  contains_map [] x held = absurd (Contains-none x held)
  contains_map (other ∷ xs) x held = ⊎_elim
      (λ (same : other ≡ x). subst (λ y. Contains (map f (other ∷ xs)) (f y)) same (Contains-cons_new (f other) (map f xs)))
      (λ (later : Contains xs x). Contains-cons_old (f other) (f x) (map f xs) (contains_map xs x later))
      (Contains-cons_cases other x xs held)

  pub contained_of_map : (xs : List X) (y : Y) → Contains (map f xs) y → (x : X) × Contains xs x × (f x ≡ y)
  contained_of_map [] y held = absurd (Contains-none y held)
  contained_of_map (other ∷ xs) y held = ⊎_elim
      (λ (same : f other ≡ y). (other, Contains-cons_new other xs, same))
      (λ (later : Contains (map f xs) y). let (x, inside, same) = contained_of_map xs y later in (x, Contains-cons_old other x xs inside, same))
      (Contains-cons_cases (f other) y (map f xs) held)

module _ {X : Type 0} (p : X → Bool) where
  pub contains_filter : (xs : List X) (x : X) → Contains xs x → p x ≡ true → Contains (filter p xs) x
  contains_filter [] x held passes = held
  contains_filter (other ∷ xs) x held passes = cond_both (p other) (other ∷ filter p xs) (filter p xs) (λ l. Contains l x)
      (λ kept. ⊎_elim
      (λ (same : other ≡ x). subst (Contains (other ∷ filter p xs)) same (Contains-cons_new other (filter p xs)))
      (λ (later : Contains xs x). Contains-cons_old other x (filter p xs) (contains_filter xs x later passes))
      (Contains-cons_cases other x xs held))
      (λ dropped. ⊎_elim
      (λ (same : other ≡ x). absurd (let also : p other ≡ true = ap p same ∙ passes in cc))
      (λ (later : Contains xs x). contains_filter xs x later passes)
      (Contains-cons_cases other x xs held))

  pub contained_of_filter : (xs : List X) (x : X) → Contains (filter p xs) x → Contains xs x × (p x ≡ true)
  contained_of_filter [] x = λ held. absurd (Contains-none x held)
  contained_of_filter (other ∷ xs) x = cond_both (p other) (other ∷ filter p xs) (filter p xs) (λ l. Contains l x → Contains (other ∷ xs) x × (p x ≡ true))
      (λ kept found. ⊎_elim
      (λ (same : other ≡ x). (subst (Contains (other ∷ xs)) same (Contains-cons_new other xs), subst (λ y. p y ≡ true) same kept))
      (λ (later : Contains (filter p xs) x). let (inside, passes) = contained_of_filter xs x later in (Contains-cons_old other x xs inside, passes))
      (Contains-cons_cases other x (filter p xs) found))
      (λ dropped found. let (inside, passes) = contained_of_filter xs x found in (Contains-cons_old other x xs inside, passes))

module _ {X : Type 0} (R : X → X → Type 0) where
  pub pairs_tail : (x : X) (xs : List X) → AllPairs R (x ∷ xs) → AllPairs R xs
  pairs_tail x xs pairs i j d before within = pairs (suc i) (suc j) d (omega arith) (omega arith)

  pub pairs_head : (x : X) (xs : List X) → AllPairs R (x ∷ xs) → All (R x) xs
  pairs_head x xs pairs k d within = pairs 0 (suc k) d (omega arith) (omega arith)

  pub pairs_append : (xs ys : List X) → AllPairs R xs → AllPairs R ys → ((x y : X) → Contains xs x → Contains ys y → R x y) → AllPairs R (xs ++ ys)
  pairs_append [] ys first second across = second
  pairs_append (x ∷ xs) ys first second across = AllPairs-cons R x (xs ++ ys)
      (All-append (R x) xs ys (pairs_head x xs first) (all_of_contained (R x) ys (λ y held. across x y (Contains-cons_new x xs) held)))
      (pairs_append xs ys (pairs_tail x xs first) second (λ a b held. across a b (Contains-cons_old x a xs held)))

-- a part of a list in its place in the whole
module _ {X : Type 0} where
  pub get_left : (xs ys : List X) (k : ℕ) (x : X) → slice_get xs k ≡ Some x → slice_get (xs ++ ys) k ≡ Some x
  get_left [] ys k x found = absurd cc
  get_left (other ∷ xs) ys zero x found = found
  get_left (other ∷ xs) ys (suc k) x found = get_left xs ys k x found

  pub get_right : (xs ys : List X) (k : ℕ) (x : X) → slice_get ys k ≡ Some x → slice_get (xs ++ ys) (length xs + k) ≡ Some x
  get_right [] ys k x found = rw (zero-add k) found
  get_right (other ∷ xs) ys k x found = rw (suc-add (length xs) k) (get_right xs ys k x found)

pub pairs_map : {X Y : Type 0} (f : X → Y) (R : Y → Y → Type 0) (S : X → X → Type 0) (xs : List X) → AllPairs S xs → ((x y : X) → Contains xs x → Contains xs y → S x y → R (f x) (f y)) → AllPairs R (map f xs)
pairs_map f R S [] pairs on = λ i j d before within. absurd (omega arith)
pairs_map f R S (x ∷ xs) pairs on = AllPairs-cons R (f x) (map f xs)
    (All-map (R (f x)) f xs (λ k d within. on x (slice_index_or xs k d) (Contains-cons_new x xs) (Contains-cons_old x (slice_index_or xs k d) xs (Contains-get_or xs k d within)) (pairs_head S x xs pairs k d within)))
    (pairs_map f R S xs (pairs_tail S x xs pairs) (λ a b first second. on a b (Contains-cons_old x a xs first) (Contains-cons_old x b xs second)))

-- what holds of each element of a joined list holds of each of both parts
pub all_parts : {X : Type 0} (P : X → Type 0) (xs ys : List X) → All P (xs ++ ys) → All P xs × All P ys
all_parts P xs ys all = (
  all_of_contained P xs (λ x held. All-contains P (xs ++ ys) x all (Contains-append_left xs ys x held)),
  all_of_contained P ys (λ y held. All-contains P (xs ++ ys) y all (Contains-append_right xs ys y held)),
)
