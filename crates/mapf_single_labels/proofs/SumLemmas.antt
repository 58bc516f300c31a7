-- Sums over a part of a list.
use Rattle.std.proofs.Common.{◌≡◌, ℕ, zero, suc, ◌+◌, ◌-◌, ◌<◌, ◌≤◌, List, [], ◌∷◌, length, take, sum_by, slice_index_or, refl, sym, ap, subst, arith}
use Rattle.std.proofs.lemmas.List.Sums.{sum_by-cons, sum_by_more}
use Rattle.std.proofs.lemmas.List.{take_all}

-- terms that are equal have equal sums
pub same_sums : {X : Type 0} (f g : X → ℕ) → ((x : X) → f x ≡ g x) → (xs : List X) → sum_by f xs ≡ sum_by g xs
same_sums f g same [] = refl
same_sums f g same (x ∷ xs) =
    let here = same x in
    let there = same_sums f g same xs in
    let one = sum_by-cons f x xs in
    let other = sum_by-cons g x xs in
    omega arith

module _ {X : Type 0} (f g : X → ℕ) (xs : List X) (d : X) where
  -- the sum of the first terms, which are all 0
  pub none_first : (n : ℕ) → n ≤ length xs → ((k : ℕ) → k < n → g (slice_index_or xs k d) ≡ 0) → sum_by g (take n xs) ≡ 0
  none_first zero within none = refl
  none_first (suc n) within none =
      let before = none_first n (omega arith) (λ k less. none k (omega arith)) in
      let here = none n (omega arith) in
      let more : sum_by g (take (n + 1) xs) ≡ sum_by g (take n xs) + g (slice_index_or xs n d) = sum_by_more g xs n d (omega arith) in
      let same : n + 1 ≡ suc n = omega arith in
      subst (λ m. sum_by g (take m xs) ≡ 0) same (omega arith)

  -- further terms that are all 0
  pub none_later : (low n : ℕ) → low + n ≤ length xs → ((k : ℕ) → low ≤ k → k < low + n → g (slice_index_or xs k d) ≡ 0) → sum_by g (take (low + n) xs) ≡ sum_by g (take low xs)
  none_later low zero within none = let same : low + 0 ≡ low = omega arith in ap (λ m. sum_by g (take m xs)) same
  none_later low (suc n) within none =
      let before = none_later low n (omega arith) (λ k from less. none k from (omega arith)) in
      let here = none (low + n) (omega arith) (omega arith) in
      let more : sum_by g (take (low + n + 1) xs) ≡ sum_by g (take (low + n) xs) + g (slice_index_or xs (low + n) d) = sum_by_more g xs (low + n) d (omega arith) in
      let same : low + n + 1 ≡ low + suc n = omega arith in
      subst (λ m. sum_by g (take m xs) ≡ sum_by g (take low xs)) same (omega arith)

  -- further terms that are equal
  pub same_later : (low n : ℕ) → low + n ≤ length xs → ((k : ℕ) → low ≤ k → k < low + n → g (slice_index_or xs k d) ≡ f (slice_index_or xs k d)) → sum_by g (take (low + n) xs) + sum_by f (take low xs) ≡ sum_by f (take (low + n) xs) + sum_by g (take low xs)
  same_later low zero within same = let e : low + 0 ≡ low = omega arith in subst (λ m. sum_by g (take m xs) + sum_by f (take low xs) ≡ sum_by f (take m xs) + sum_by g (take low xs)) (sym e) (omega arith)
  same_later low (suc n) within same =
      let before = same_later low n (omega arith) (λ k from less. same k from (omega arith)) in
      let here = same (low + n) (omega arith) (omega arith) in
      let one : sum_by g (take (low + n + 1) xs) ≡ sum_by g (take (low + n) xs) + g (slice_index_or xs (low + n) d) = sum_by_more g xs (low + n) d (omega arith) in
      let other : sum_by f (take (low + n + 1) xs) ≡ sum_by f (take (low + n) xs) + f (slice_index_or xs (low + n) d) = sum_by_more f xs (low + n) d (omega arith) in
      let e : low + n + 1 ≡ low + suc n = omega arith in
      subst (λ m. sum_by g (take m xs) + sum_by f (take low xs) ≡ sum_by f (take m xs) + sum_by g (take low xs)) e (omega arith)

  -- the sum of the terms that aren't 0, which stand together
  pub range_sum : (low high : ℕ) → low ≤ high → high ≤ length xs → ((k : ℕ) → k < low → g (slice_index_or xs k d) ≡ 0) → ((k : ℕ) → low ≤ k → k < high → g (slice_index_or xs k d) ≡ f (slice_index_or xs k d))
      → ((k : ℕ) → high ≤ k → k < length xs → g (slice_index_or xs k d) ≡ 0) → sum_by g xs + sum_by f (take low xs) ≡ sum_by f (take high xs)
  range_sum low high order within none same past =
      let a : low + (high - low) ≡ high = omega arith in
      let b : high + (length xs - high) ≡ length xs = omega arith in
      let first = none_first low (omega arith) none in
      let middle = subst (λ m. sum_by g (take m xs) + sum_by f (take low xs) ≡ sum_by f (take m xs) + sum_by g (take low xs)) a (same_later low (high - low) (omega arith) (λ k from less. same k from (omega arith))) in
      let last = subst (λ m. sum_by g (take m xs) ≡ sum_by g (take high xs)) b (none_later high (length xs - high) (omega arith) (λ k from less. past k from (omega arith))) in
      let whole : sum_by g (take (length xs) xs) ≡ sum_by g xs = ap (sum_by g) (take_all (length xs) xs (omega arith)) in
      omega arith
