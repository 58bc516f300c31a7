-- Sums of labels over a list.
use Rattle.std.proofs.Common.{◌≡◌, ◌≢◌, ℕ, ◌+◌, ◌*◌, ◌-◌, ◌^◌, ◌<◌, ◌≤◌, List, [], ◌∷◌, All, Contains, length, take, get_or, sum_by, refl, sym, ◌∙◌, ap, subst, ⊎_elim, arith}
use Rattle.std.specs.Prelude.{fold}
use Rattle.std.proofs.lemmas.List.Sums.{fold_more, sum_by-cons, sum_by-le}
use Rattle.mapf_cases.specs.Totals.{label_total}
use Rattle.mapf_lemmas.specs.Amounts.{SumFits}
use Rattle.mapf_lemmas.specs.Groups.{ticks_of}
use Rattle.mapf_model.specs.declared.label.Label.{Label}
use Rattle.mapf_model.specs.declared.label.Label.TheVariants.{Ticks, Never}
use Rattle.mapf_model.specs.Labels.{label_plus}
use Rattle.mapf_model.proofs.ContainsLemmas.{Contains-none, Contains-cons_cases, Contains-cons_new, Contains-cons_old}

-- the sum fits if that of the finite parts does
pub sum_fits : (a b : Label) → ticks_of a + ticks_of b < 2 ^ 64 - 1 → SumFits a b
sum_fits (Ticks m) (Ticks n) small = small
sum_fits (Ticks m) Never small = tt
sum_fits Never b small = tt

pub plus_small : (a b : Label) → ticks_of (label_plus a b) ≤ ticks_of a + ticks_of b
plus_small (Ticks m) (Ticks n) = omega arith
plus_small (Ticks m) Never = omega arith
plus_small Never b = omega arith

-- an infinite label isn't finite
pub never_ticks : (n : ℕ) → Never ≡ Ticks n → ⊥
never_ticks n is = cc

module _ {X : Type 0} (label : X → Label) where
  abbrev total_from : Label → List X → Label
  total_from start xs = fold (λ total x. label_plus total (label x)) start xs

  pub total_more : (xs : List X) (i : ℕ) (d : X) → i < length xs → label_total label (take (i + 1) xs) ≡ label_plus (label_total label (take i xs)) (label (get_or xs i d))
  total_more xs i d within = fold_more (λ total x. label_plus total (label x)) (Ticks 0) xs i d within

  never_stays : (xs : List X) → total_from Never xs ≡ Never
  never_stays [] = refl
  never_stays (x ∷ xs) = never_stays xs

  -- the first label, and the sum after it
  first_never : (m n : ℕ) (x : X) (xs : List X) → label x ≡ Never → total_from (Ticks m) (x ∷ xs) ≡ Ticks n → ⊥
  first_never m n x xs here is = never_ticks n (sym (never_stays xs) ∙ subst (λ l. total_from (label_plus (Ticks m) l) xs ≡ Ticks n) here is)

  after_first : (m k : ℕ) (x : X) (xs : List X) (total : Label) → label x ≡ Ticks k → total_from (Ticks m) (x ∷ xs) ≡ total → total_from (Ticks (m + k)) xs ≡ total
  after_first m k x xs total here is = subst (λ l. total_from (label_plus (Ticks m) l) xs ≡ total) here is

  ticks_by : (m n : ℕ) (x : X) (xs : List X) → total_from (Ticks m) (x ∷ xs) ≡ Ticks n →
      ((k : ℕ) → total_from (Ticks (m + k)) xs ≡ Ticks n → n ≡ m + k + sum_by (λ y. ticks_of (label y)) xs) → (l : Label) → label x ≡ l → n ≡ m + sum_by (λ y. ticks_of (label y)) (x ∷ xs)
  ticks_by m n x xs is rest (Ticks k) here =
      let more = rest k (after_first m k x xs (Ticks n) here is) in
      let first = ap ticks_of here in
      rw (sum_by-cons (λ y. ticks_of (label y)) x xs) (omega (arith, more, first))
  ticks_by m n x xs is rest Never here = absurd (first_never m n x xs here is)

  ticks_from : (m n : ℕ) (xs : List X) → total_from (Ticks m) xs ≡ Ticks n → n ≡ m + sum_by (λ x. ticks_of (label x)) xs
  ticks_from m n [] is = let same = ap ticks_of is in omega (arith, same)
  ticks_from m n (x ∷ xs) is = ticks_by m n x xs is (λ k later. ticks_from (m + k) n xs later) (label x) refl

  finite_by : (m n : ℕ) (y x : X) (xs : List X) → total_from (Ticks m) (y ∷ xs) ≡ Ticks n → Contains (y ∷ xs) x →
      ((k : ℕ) → total_from (Ticks (m + k)) xs ≡ Ticks n → Contains xs x → label x ≢ Never) → (l : Label) → label y ≡ l → label x ≢ Never
  finite_by m n y x xs is held rest (Ticks k) here = ⊎_elim
      (λ (same : y ≡ x). λ never. never_ticks k (sym never ∙ ap label (sym same) ∙ here))
      (λ (old : Contains xs x). rest k (after_first m k y xs (Ticks n) here is) old)
      (Contains-cons_cases y x xs held)
  finite_by m n y x xs is held rest Never here = absurd (first_never m n y xs here is)

  finite_from : (m n : ℕ) (xs : List X) → total_from (Ticks m) xs ≡ Ticks n → (x : X) → Contains xs x → label x ≢ Never
  finite_from m n [] is x held = absurd (Contains-none x held)
  finite_from m n (y ∷ xs) is x held = finite_by m n y x xs is held (λ k later old. finite_from (m + k) n xs later x old) (label y) refl

  never_by : (m : ℕ) (y : X) (xs : List X) → total_from (Ticks m) (y ∷ xs) ≡ Never →
      ((k : ℕ) → total_from (Ticks (m + k)) xs ≡ Never → (x : X) × Contains xs x × (label x ≡ Never)) → (l : Label) → label y ≡ l → (x : X) × Contains (y ∷ xs) x × (label x ≡ Never)
  never_by m y xs is rest (Ticks k) here =
      let found = rest k (after_first m k y xs Never here is) in
      (found.0, Contains-cons_old y found.0 xs found.1, found.2)
  never_by m y xs is rest Never here = (y, Contains-cons_new y xs, here)

  never_from : (m : ℕ) (xs : List X) → total_from (Ticks m) xs ≡ Never → (x : X) × Contains xs x × (label x ≡ Never)
  never_from m [] is = absurd (never_ticks m (sym is))
  never_from m (y ∷ xs) is = never_by m y xs is (λ k later. never_from (m + k) xs later) (label y) refl

  pub total_ticks : (xs : List X) (n : ℕ) → label_total label xs ≡ Ticks n → n ≡ sum_by (λ x. ticks_of (label x)) xs
  total_ticks xs n is = let from = ticks_from 0 n xs is in omega (arith, from)

  pub total_finite : (xs : List X) (n : ℕ) → label_total label xs ≡ Ticks n → (x : X) → Contains xs x → label x ≢ Never
  total_finite xs n is = finite_from 0 n xs is

  pub total_never : (xs : List X) → label_total label xs ≡ Never → (x : X) × Contains xs x × (label x ≡ Never)
  total_never xs is = never_from 0 xs is

  within_by : (xs : List X) (l : Label) → label_total label xs ≡ l → ticks_of (label_total label xs) ≤ sum_by (λ x. ticks_of (label x)) xs
  within_by xs (Ticks n) here = let same = total_ticks xs n here in let is = ap ticks_of here in omega (arith, same, is)
  within_by xs Never here = let is = ap ticks_of here in omega (arith, is)

  pub total_within : (xs : List X) → ticks_of (label_total label xs) ≤ sum_by (λ x. ticks_of (label x)) xs
  total_within xs = within_by xs (label_total label xs) refl

  pub total_small : (most : ℕ) (xs : List X) → All (λ x. ticks_of (label x) ≤ most) xs → ticks_of (label_total label xs) ≤ length xs * most
  total_small most xs small =
      let sum = sum_by-le (λ x. ticks_of (label x)) most xs small in
      let within = total_within xs in
      omega (arith, sum, within)
