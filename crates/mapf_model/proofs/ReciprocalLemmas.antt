-- Quotients by a width, from products with its reciprocal. (Granlund and Montgomery 1994)
use Rattle.std.proofs.Common.{◌≡◌, ℕ, ◌+◌, ◌-◌, ◌*◌, ◌/◌, ◌%◌, ◌<◌, ◌≤◌, sym, ◌∙◌, ap, ⊎_elim, arith}
use Rattle.std.proofs.Math.Nat.{mul-le-mul}
use Rattle.std.proofs.lemmas.Bool.{cases_lt}
use Rattle.std.proofs.lemmas.Nat.{div-mul-add, div-add-mod', mod_below}

-- of the quotient q and the remainder k of a number, and the rounded reciprocal r, which is too large by e
module _ (q k r e w n : ℕ) (is_n : n ≡ q * w + k) (small : k < w) (is_r : r * w ≡ 8589934592 + e) (near : e ≤ w) (narrow : w ≤ 2048) (few : n ≤ 4194303) where
  product : n * r ≡ q * 8589934592 + (q * e + k * r)
  product =
      let a : n * r ≡ (q * w + k) * r = ap (λ x. x * r) is_n in
      let b : q * (r * w) ≡ q * (8589934592 + e) = ap (λ x. q * x) is_r in
      omega arith

  rest_small : q * e + k * r < 8589934592
  rest_small = ⊎_elim
      (λ (below : q * e + k * r < 8589934592). below)
      (λ (above : 8589934592 ≤ q * e + k * r).
      let high : 8589934592 * w ≤ (q * e + k * r) * w = mul-le-mul above (le_refl w) in
      let b : k * (r * w) ≡ k * (8589934592 + e) = ap (λ x. k * x) is_r in
      let c : n * e ≡ (q * w + k) * e = ap (λ x. x * e) is_n in
      let e_small : e ≤ 2048 = omega arith in
      let low : n * e ≤ 4194303 * 2048 = mul-le-mul few e_small in
      absurd (omega arith))
      (cases_lt (q * e + k * r) 8589934592)
    where
      le_refl : (x : ℕ) → x ≤ x
      le_refl x = omega arith

  pub quotient_is : n * r / 8589934592 ≡ q
  quotient_is = ap (λ x. x / 8589934592) product ∙ div-mul-add q 8589934592 (q * e + k * r) rest_small

-- the row of a cell, and its column
module _ (n w r : ℕ) (wide : 0 < w) (narrow : w ≤ 2048) (is : r ≡ 8589934592 / w + 1) (few : n < 4194304) where
  pub row_is : n * r / 8589934592 ≡ n / w
  row_is =
      let scale = div-add-mod' 8589934592 w in
      let remainder = mod_below 8589934592 w wide in
      let over : r * w ≡ (8589934592 / w + 1) * w = ap (λ x. x * w) is in
      quotient_is (n / w) (n % w) r (w - 8589934592 % w) w n (sym (div-add-mod' n w)) (mod_below n w wide) (omega arith) (omega arith) narrow (omega arith)

  first_of_row : n * r / 8589934592 * w ≡ n / w * w
  first_of_row = ap (λ x. x * w) row_is

  pub row_within : n * r / 8589934592 * w ≤ n
  row_within = let first = first_of_row in let whole = div-add-mod' n w in omega arith

  pub column_is : n - n * r / 8589934592 * w ≡ n % w
  column_is = let first = first_of_row in let whole = div-add-mod' n w in omega arith
