-- Sets of cells as bits of words: one bit is set or cleared.
use Rattle.std.proofs.Common.{◌≡◌, ◌≢◌, ◌⊎◌, inl, inr, ⊎_elim, ℕ, ◌+◌, ◌-◌, ◌*◌, ◌/◌, ◌%◌, ◌^◌, ◌<◌, ◌≤◌, List, length, slice_index, slice_index_or, slice_set, bit_and, bit_or, min, zero, suc, refl, sym, ap, ap₂, subst, ◌∙◌, arith}
use Rattle.std.specs.Int.{bit_at, trailing_zeros}
use Rattle.std.proofs.lemmas.Bool.{cases_lt, cases_eq}
use Rattle.std.proofs.lemmas.List.{get_or-set_same, get_or-set_other, get_or_default}
use Rattle.std.proofs.lemmas.Nat.Bits.{bit_at-zero, bit_at_set_same, bit_at_set_other, bit_at-trailing_zeros, bit_at_and, bit_at_lowest, bit_at-suc}
use Rattle.mapf_spacetime.specs.CellSets.{HasNumber, HasNone, AreEmptyOutside}
use mir.Syntax.{w64}

-- words that are all 0 have no cell
pub no_cells : (words : List ℕ) → ((place : ℕ) → slice_index words place ≡ 0) → HasNone words
no_cells words zeros cell held = let zero = ap (λ n. bit_at n (cell % 64)) (zeros (cell / 64)) ∙ bit_at-zero (cell % 64) in absurd (omega arith)

-- a word is written
module _ (words : List ℕ) (place word : ℕ) (inside : place < length words) where
  pub written_same : (cell : ℕ) → cell / 64 ≡ place → slice_index (slice_set words place word) (cell / 64) ≡ word
  written_same cell same = ap (λ n. slice_index (slice_set words place word) n) same ∙ get_or-set_same words place word 0 inside

  pub written_other : (cell : ℕ) → (cell / 64 ≡ place → ⊥) → slice_index (slice_set words place word) (cell / 64) ≡ slice_index words (cell / 64)
  written_other cell other = get_or-set_other words place (cell / 64) word 0 other

-- a cell is added
module _ (words : List ℕ) (cell : ℕ) (inside : cell / 64 < length words) where
  set_word : ℕ
  set_word = bit_or (slice_index words (cell / 64)) (1 * 2 ^ (cell % 64) % 2 ^ 64)

  abbrev pub with_cell : List ℕ
  with_cell = slice_set words (cell / 64) (bit_or (slice_index words (cell / 64)) (1 * 2 ^ (cell % 64) % 2 ^ 64))

  -- another cell is in the set if and only if it was
  pub with_other : (other : ℕ) → other ≢ cell → bit_at (slice_index with_cell (other / 64)) (other % 64) ≡ bit_at (slice_index words (other / 64)) (other % 64)
  with_other other apart = ⊎_elim
      (λ (same : other / 64 ≡ cell / 64).
      let bit : other % 64 ≢ cell % 64 = λ e. apart (omega arith) in
      ap (λ n. bit_at n (other % 64)) (written_same words (cell / 64) (bit_or (slice_index words (cell / 64)) (1 * 2 ^ (cell % 64) % 2 ^ 64)) inside other same)
      ∙ bit_at_set_other w64 (slice_index words (cell / 64)) (cell % 64) (omega arith) (other % 64) bit
      ∙ ap (λ n. bit_at (slice_index words n) (other % 64)) (sym same))
      (λ away. ap (λ n. bit_at n (other % 64)) (written_other words (cell / 64) (bit_or (slice_index words (cell / 64)) (1 * 2 ^ (cell % 64) % 2 ^ 64)) inside other away))
      (cases_eq (other / 64) (cell / 64))

  pub with_here : HasNumber with_cell cell
  with_here = ap (λ n. bit_at n (cell % 64)) (get_or-set_same words (cell / 64) (bit_or (slice_index words (cell / 64)) (1 * 2 ^ (cell % 64) % 2 ^ 64)) 0 inside)
      ∙ bit_at_set_same w64 (slice_index words (cell / 64)) (cell % 64) (omega arith)

  pub with_kept : (other : ℕ) → HasNumber words other → HasNumber with_cell other
  with_kept other held = ⊎_elim
      (λ (same : other ≡ cell). subst (HasNumber with_cell) (sym same) with_here)
      (λ apart. with_other other apart ∙ held)
      (cases_eq other cell)

  pub with_only : (other : ℕ) → HasNumber with_cell other → HasNumber words other ⊎ (other ≡ cell)
  with_only other held = ⊎_elim
      (λ (same : other ≡ cell). inr same)
      (λ apart. inl (sym (with_other other apart) ∙ held))
      (cases_eq other cell)

-- the words as they are written
pub inserted : (words : List ℕ) (cell inner read : ℕ) → inner ≡ cell → (inside : cell / 64 < length words) → read ≡ slice_index_or words (inner / 64) read → slice_set words (inner / 64) (bit_or read (1 * 2 ^ (inner % 64) % 2 ^ 64)) ≡ with_cell words cell inside
inserted words cell inner read same inside is =
    let here : read ≡ slice_index words (cell / 64) = is ∙ ap (λ n. slice_index_or words (n / 64) read) same ∙ get_or_default words (cell / 64) read 0 inside in
    ap (λ n. slice_set words (n / 64) (bit_or read (1 * 2 ^ (n % 64) % 2 ^ 64))) same ∙ ap (λ w. slice_set words (cell / 64) (bit_or w (1 * 2 ^ (cell % 64) % 2 ^ 64))) here

-- the number without its lowest 1: of an even one the bits above the last are those of its half
halved : (n : ℕ) → 0 < n → n % 2 ≡ 0 → (i : ℕ) → bit_at (bit_and n (n - 1)) (suc i) ≡ bit_at (bit_and (n / 2) (n / 2 - 1)) i
halved n some even i =
    bit_at_and n (n - 1) (suc i) ∙ ap₂ min (bit_at-suc n i) (bit_at-suc (n - 1) i ∙ ap (λ m. bit_at m i) (omega arith)) ∙ sym (bit_at_and (n / 2) (n / 2 - 1) i)

-- that bit is gone
lowest_gone : (n t : ℕ) → 0 < n → bit_at n t ≡ 1 → ((i : ℕ) → i < t → bit_at n i ≡ 0) → bit_at (bit_and n (n - 1)) t ≡ 0
lowest_gone n zero some one none = omega (arith, bit_at_and n (n - 1) 0, bit_at_lowest n, bit_at_lowest (n - 1), one)
lowest_gone n (suc t) some one none =
    let even : n % 2 ≡ 0 = omega (arith, bit_at_lowest n, none 0 (omega arith)) in
    halved n some even t ∙ lowest_gone (n / 2) t (omega arith) (sym (bit_at-suc n t) ∙ one) (λ i less. sym (bit_at-suc n i) ∙ none (suc i) (omega arith))

-- and the others are as they were
others_kept : (n t : ℕ) → 0 < n → bit_at n t ≡ 1 → ((i : ℕ) → i < t → bit_at n i ≡ 0) → (i : ℕ) → i ≢ t → bit_at (bit_and n (n - 1)) i ≡ bit_at n i
others_kept n zero some one none zero apart = absurd (apart refl)
others_kept n zero some one none (suc i) apart =
    let odd : n % 2 ≡ 1 = omega (arith, bit_at_lowest n, one) in
    let same : bit_at (n - 1) (suc i) ≡ bit_at n (suc i) = bit_at-suc (n - 1) i ∙ ap (λ m. bit_at m i) (omega arith) ∙ sym (bit_at-suc n i) in
    omega (arith, bit_at_and n (n - 1) (suc i), same)
others_kept n (suc t) some one none zero apart = omega (arith, bit_at_and n (n - 1) 0, none 0 (omega arith))
others_kept n (suc t) some one none (suc i) apart =
    let even : n % 2 ≡ 0 = omega (arith, bit_at_lowest n, none 0 (omega arith)) in
    halved n some even i
    ∙ others_kept (n / 2) t (omega arith) (sym (bit_at-suc n t) ∙ one) (λ j less. sym (bit_at-suc n j) ∙ none (suc j) (omega arith)) i (λ e. apart (ap suc e))
    ∙ sym (bit_at-suc n i)

abbrev pub without_lowest : ℕ → ℕ
without_lowest n = bit_and n (n - 1)

-- the least cell is taken: the lowest bit of the first word that isn't 0
module _ (words : List ℕ) (first end : ℕ) (empty : AreEmptyOutside words first end) (inside : first < length words) (some : slice_index words first ≢ 0) (small : slice_index words first < 2 ^ 64) where
  bit : ℕ
  bit = trailing_zeros w64 (slice_index words first)

  abbrev pub least_cell : ℕ
  least_cell = first * 64 + trailing_zeros w64 (slice_index words first)

  lowest : (trailing_zeros w64 (slice_index words first) < 64) × (bit_at (slice_index words first) (trailing_zeros w64 (slice_index words first)) ≡ 1) × ((i : ℕ) → i < trailing_zeros w64 (slice_index words first) → bit_at (slice_index words first) i ≡ 0)
  lowest = bit_at-trailing_zeros w64 (slice_index words first) (omega arith) small

  least_place : least_cell / 64 ≡ first
  least_place = let l = lowest.0 in omega arith

  least_bit : least_cell % 64 ≡ trailing_zeros w64 (slice_index words first)
  least_bit = let l = lowest.0 in omega arith

  pub least_has : HasNumber words least_cell
  least_has = ap (λ n. bit_at (slice_index words n) (least_cell % 64)) least_place ∙ ap (λ n. bit_at (slice_index words first) n) least_bit ∙ lowest.1

  -- a cell that is in the set is in this word or in a later one
  pub later : (other : ℕ) → HasNumber words other → first ≤ other / 64
  later other held = ⊎_elim
      (λ (less : other / 64 < first).
      let zero = ap (λ n. bit_at n (other % 64)) (empty.zero (other / 64) (λ within. less)) ∙ bit_at-zero (other % 64) in absurd (omega arith))
      (λ (more : first ≤ other / 64). more)
      (cases_lt (other / 64) first)

  pub least_is : (other : ℕ) → HasNumber words other → least_cell ≤ other
  least_is other held =
      let after = later other held in
      let l = lowest.0 in
      ⊎_elim
      (λ (same : other / 64 ≡ first).
      ⊎_elim
      (λ (low : other % 64 < trailing_zeros w64 (slice_index words first)).
      let zero = lowest.2 (other % 64) low in
      let one = ap (λ n. bit_at (slice_index words n) (other % 64)) (sym same) ∙ held in absurd (omega arith))
      (λ (high : trailing_zeros w64 (slice_index words first) ≤ other % 64). omega arith)
      (cases_lt (other % 64) (trailing_zeros w64 (slice_index words first))))
      (λ away. let more : first < other / 64 = omega arith in omega arith)
      (cases_eq (other / 64) first)

  abbrev pub without_least : List ℕ
  without_least = slice_set words first (without_lowest (slice_index words first))

  pub without_other : (other : ℕ) → other ≢ least_cell → bit_at (slice_index without_least (other / 64)) (other % 64) ≡ bit_at (slice_index words (other / 64)) (other % 64)
  without_other other apart =
      let word = without_lowest (slice_index words first) in
      ⊎_elim
      (λ (same : other / 64 ≡ first).
      let differs : other % 64 ≢ trailing_zeros w64 (slice_index words first) = λ e. apart (omega arith) in
      ap (λ n. bit_at n (other % 64)) (written_same words first word inside other same)
      ∙ others_kept (slice_index words first) (trailing_zeros w64 (slice_index words first)) (omega arith) lowest.1 lowest.2 (other % 64) differs
      ∙ ap (λ n. bit_at (slice_index words n) (other % 64)) (sym same))
      (λ away. ap (λ n. bit_at n (other % 64)) (written_other words first word inside other away))
      (cases_eq (other / 64) first)

  pub without_gone : HasNumber without_least least_cell → ⊥
  without_gone held =
      let word = without_lowest (slice_index words first) in
      let zero = ap (λ n. bit_at n (least_cell % 64)) (written_same words first word inside least_cell least_place) ∙ ap (λ n. bit_at word n) least_bit ∙ lowest_gone (slice_index words first) (trailing_zeros w64 (slice_index words first)) (omega arith) lowest.1 lowest.2 in
      omega arith

  pub without_kept : (other : ℕ) → HasNumber words other → other ≢ least_cell → HasNumber without_least other
  without_kept other held apart = without_other other apart ∙ held

  pub without_only : (other : ℕ) → HasNumber without_least other → HasNumber words other × (other ≢ least_cell)
  without_only other held =
      let apart : other ≢ least_cell = λ same. without_gone (subst (HasNumber without_least) same held) in
      (sym (without_other other apart) ∙ held, apart)

-- the same of a word that was read
module _ (words : List ℕ) (first end : ℕ) (empty : AreEmptyOutside words first end) (inside : first < length words) (read : ℕ) (is : read ≡ slice_index words first) (some : read ≢ 0) (small : read < 2 ^ 64) where
  read_some : slice_index words first ≢ 0
  read_some = subst (λ n. n ≢ 0) is some

  read_small : slice_index words first < 2 ^ 64
  read_small = subst (λ n. n < 2 ^ 64) is small

  pub taken_has : HasNumber words (first * 64 + trailing_zeros w64 read)
  taken_has = subst (λ n. HasNumber words (first * 64 + trailing_zeros w64 n)) (sym is) (least_has words first end empty inside read_some read_small)

  pub taken_is : (other : ℕ) → HasNumber words other → first * 64 + trailing_zeros w64 read ≤ other
  taken_is other held = subst (λ n. first * 64 + trailing_zeros w64 n ≤ other) (sym is) (least_is words first end empty inside read_some read_small other held)

  pub taken_kept : (other : ℕ) → HasNumber words other → other ≢ first * 64 + trailing_zeros w64 read → HasNumber (slice_set words first (without_lowest read)) other
  taken_kept other held apart = subst (λ n. HasNumber (slice_set words first (without_lowest n)) other) (sym is)
      (without_kept words first end empty inside read_some read_small other held (subst (λ n. other ≢ first * 64 + trailing_zeros w64 n) is apart))

  pub taken_only : (other : ℕ) → HasNumber (slice_set words first (without_lowest read)) other → HasNumber words other × (other ≢ first * 64 + trailing_zeros w64 read)
  taken_only other held =
      let (there, apart) = without_only words first end empty inside read_some read_small other (subst (λ n. HasNumber (slice_set words first (without_lowest n)) other) is held) in
      (there, subst (λ n. other ≢ first * 64 + trailing_zeros w64 n) (sym is) apart)
