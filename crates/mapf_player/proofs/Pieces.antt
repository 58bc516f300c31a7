-- Texts of pieces, one for each number from 0 on.
use Rattle.std.proofs.Common.{◌≡◌, ℕ, zero, suc, ◌+◌, ◌-◌, ◌<◌, List, ◌++◌, Option, append_assoc, append-nil, sym, ap, ◌∙◌, subst, arith}
use Rattle.std.specs.List.{range_with_len, flat_map}
use Rattle.mapf_fields.specs.Pages.{Passes, WritesPrefix}
use Rattle.mapf_fields.proofs.Prefixes.{passes_trans, prefix_after, prefix_held}

split : (f : ℕ → List ℕ) (a k m : ℕ) → flat_map f (range_with_len a (k + suc m)) ≡ flat_map f (range_with_len a k) ++ (f (a + k) ++ flat_map f (range_with_len (a + k + 1) m))
split f a zero m =
    let count : zero + suc m ≡ suc m = omega arith in
    let here : a ≡ a + zero = omega arith in
    ap (λ n. flat_map f (range_with_len a n)) count ∙ ap (λ b. f b ++ flat_map f (range_with_len (b + 1) m)) here
split f a (suc k) m =
    let count : suc k + suc m ≡ suc (k + suc m) = omega arith in
    let there : a + 1 + k ≡ a + suc k = omega arith in
    ap (λ n. flat_map f (range_with_len a n)) count ∙ ap (λ t. f a ++ t) (split f (a + 1) k m ∙ ap (λ b. flat_map f (range_with_len (a + 1) k) ++ (f b ++ flat_map f (range_with_len (b + 1) m))) there)
    ∙ sym (append_assoc (f a) (flat_map f (range_with_len (a + 1) k)) (f (a + suc k) ++ flat_map f (range_with_len (a + suc k + 1) m)))

-- all pieces are those before this one, this one and the others
around : (f : ℕ → List ℕ) (n k : ℕ) → k < n → flat_map f (range_with_len 0 n) ≡ flat_map f (range_with_len 0 k) ++ (f k ++ flat_map f (range_with_len (k + 1) (n - (k + 1))))
around f n k within =
    let count : n ≡ k + suc (n - (k + 1)) = omega arith in
    let here : 0 + k ≡ k = omega arith in
    ap (λ m. flat_map f (range_with_len 0 m)) count ∙ split f 0 k (n - (k + 1)) ∙ ap (λ b. flat_map f (range_with_len 0 k) ++ (f b ++ flat_map f (range_with_len (b + 1) (n - (k + 1))))) here

one_more : (f : ℕ → List ℕ) (k : ℕ) → flat_map f (range_with_len 0 (k + 1)) ≡ flat_map f (range_with_len 0 k) ++ f k
one_more f k =
    let none : k + 1 - (k + 1) ≡ 0 = omega arith in
    around f (k + 1) k (omega arith) ∙ ap (λ m. flat_map f (range_with_len 0 k) ++ (f k ++ flat_map f (range_with_len (k + 1) m))) none ∙ ap (λ t. flat_map f (range_with_len 0 k) ++ t) (append-nil (f k))

-- after one more piece
pub pieces_more : (f : ℕ → List ℕ) (k : ℕ) (a b c : Option (List ℕ)) (h i j : List ℕ) → Passes a b h i (flat_map f (range_with_len 0 k)) → Passes b c i j (f k) → Passes a c h j (flat_map f (range_with_len 0 (k + 1)))
pieces_more f k a b c h i j far this = subst (Passes a c h j) (sym (one_more f k)) (passes_trans a b c h i j (flat_map f (range_with_len 0 k)) (f k) far this)

-- after a prefix of this piece
pub pieces_prefix : (f : ℕ → List ℕ) (n k : ℕ) (a b c : Option (List ℕ)) (h i : List ℕ) → k < n → Passes a b h i (flat_map f (range_with_len 0 k)) → WritesPrefix b c (i ++ f k) → WritesPrefix a c (h ++ flat_map f (range_with_len 0 n))
pieces_prefix f n k a b c h i within far this =
    subst (λ t. WritesPrefix a c (h ++ t)) (sym (around f n k within))
    (prefix_after a b c h i (flat_map f (range_with_len 0 k)) (f k ++ flat_map f (range_with_len (k + 1) (n - (k + 1)))) far (prefix_held b c i (f k) (flat_map f (range_with_len (k + 1) (n - (k + 1)))) this))
