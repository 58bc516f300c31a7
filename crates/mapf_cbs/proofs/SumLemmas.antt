-- Elements of lists by their indices, and sums of costs and labels.
use Rattle.std.proofs.Common.{◌≡◌, ℕ, zero, suc, ◌+◌, ◌≤◌, List, [], ◌∷◌, ◌++◌, Some, length, sum, map, slice_get, slice_set, refl, sym, ◌∙◌, ap, subst, arith}
use Rattle.std.proofs.lemmas.Option.{same_Some}
use Rattle.std.proofs.lemmas.List.Sums.{sum_by-cons}
use Rattle.mapf_model.specs.declared.label.Label.{Label}
use Rattle.mapf_model.specs.declared.label.Label.TheVariants.{Ticks, Never}
use Rattle.mapf_model.specs.Labels.{label_sum, label_plus}

pub slice_get-second : {X : Type 0} (xs : List X) (x y : X) → slice_get (xs ++ x ∷ y ∷ []) (length xs + 1) ≡ Some y
slice_get-second [] x y = refl
slice_get-second (z ∷ xs) x y = let e : suc (length xs) + 1 ≡ suc (length xs + 1) = omega arith in rw e (slice_get-second xs x y)

-- what holds of the only item of a list
pub of_one : {X : Type 0} (P : ℕ → X → Type 0) (x : X) → P 0 x → (k : ℕ) (y : X) → slice_get (x ∷ []) k ≡ Some y → P k y
of_one P x p zero y is = subst (λ z. P 0 z) (same_Some x y is) p
of_one P x p (suc k) y is = absurd cc

-- what holds of each item of a list and of two more holds of each item of the longer list
pub each_two : {X : Type 0} (P : ℕ → X → Type 0) (xs : List X) (x y : X) → ((k : ℕ) (z : X) → slice_get xs k ≡ Some z → P k z) → P (length xs) x → P (length xs + 1) y → (k : ℕ) (z : X) → slice_get (xs ++ x ∷ y ∷ []) k ≡ Some z → P k z
each_two P [] x y old first second zero z is = subst (λ w. P 0 w) (same_Some x z is) first
each_two P [] x y old first second (suc k) z is = of_one (λ j w. P (suc j) w) y second k z is
each_two P (w ∷ xs) x y old first second zero z is = old 0 z is
each_two P (w ∷ xs) x y old first second (suc k) z is =
    let next : suc (length xs) + 1 ≡ suc (length xs + 1) = omega arith in
    each_two (λ j v. P (suc j) v) xs x y (λ j. old (suc j)) first (subst (λ n. P n y) next second) k z is

pub length-two_more : {X : Type 0} (xs : List X) (x y : X) → length (xs ++ x ∷ y ∷ []) ≡ length xs + 2
length-two_more [] x y = omega arith
length-two_more (z ∷ xs) x y = let rest = length-two_more xs x y in omega arith

pub sum-set : (xs : List ℕ) (i x y : ℕ) → slice_get xs i ≡ Some x → sum (slice_set xs i y) + x ≡ sum xs + y
sum-set [] i x y is = absurd cc
sum-set (z ∷ xs) zero x y is = let same : z ≡ x = same_Some z x is in rw sum_by-cons (rw sum_by-cons (omega arith))
sum-set (z ∷ xs) (suc i) x y is = let rest = sum-set xs i x y is in rw sum_by-cons (rw sum_by-cons (omega arith))

-- with an infinite part the sum is infinite
pub label_sum-never : (labels : List Label) (i : ℕ) → slice_get labels i ≡ Some Never → label_sum labels ≡ Never
label_sum-never [] i is = absurd cc
label_sum-never (Ticks n ∷ labels) zero is = absurd cc
label_sum-never (Never ∷ labels) zero is = refl
label_sum-never (Ticks n ∷ labels) (suc i) is = ap (label_plus (Ticks n)) (label_sum-never labels i is)
label_sum-never (Never ∷ labels) (suc i) is = refl

pub label_sum-ticks : (costs : List ℕ) → label_sum (map Ticks costs) ≡ Ticks (sum costs)
label_sum-ticks [] = refl
label_sum-ticks (cost ∷ costs) = ap (label_plus (Ticks cost)) (label_sum-ticks costs) ∙ ap Ticks (sym (sum_by-cons (λ x. x) cost costs))

-- sums of lists whose elements are in order
pub sum-le : (xs ys : List ℕ) → length xs ≡ length ys → ((i x y : ℕ) → slice_get xs i ≡ Some x → slice_get ys i ≡ Some y → x ≤ y) → sum xs ≤ sum ys
sum-le [] [] same each = omega arith
sum-le [] (y ∷ ys) same each = absurd (omega arith)
sum-le (x ∷ xs) [] same each = absurd (omega arith)
sum-le (x ∷ xs) (y ∷ ys) same each =
    let first = each 0 x y refl refl in
    let rest = sum-le xs ys (omega arith) (λ i. each (suc i)) in
    rw sum_by-cons (rw sum_by-cons (omega arith))

pub length-ticks : (costs : List ℕ) → length (map Ticks costs) ≡ length costs
length-ticks [] = refl
length-ticks (cost ∷ costs) = ap suc (length-ticks costs)
