-- Sets of numbers, such as those of cells, as bits of words.
use Rattle.std.specs.Prelude.{◌≡◌, ℕ, ◌/◌, ◌%◌, ◌<◌, ◌≤◌, ◌≢◌, ◌*◌, List, length, slice_index}
use Rattle.std.specs.Int.{bit_at}

-- the number is in the set: its bit is 1
abbrev pub HasNumber : List ℕ → ℕ → Type 0
HasNumber words number = bit_at (slice_index words (number / 64)) (number % 64) ≡ 1

-- no number is in the set
abbrev pub HasNone : List ℕ → Type 0
HasNone words = (number : ℕ) → HasNumber words number → ⊥

-- the words outside this range are 0
pub record AreEmptyOutside (words : List ℕ) (first end : ℕ) : Type 0 where
  pub zero : (place : ℕ) → (place < end → place < first) → slice_index words place ≡ 0
  pub within : end ≤ length words

-- the words are for no more cells than a grid has
abbrev pub IsShort : List ℕ → Type 0
IsShort words = length words ≤ 65536

-- `filled` has the places of the words that aren't 0 and no others, and room for the place of each word
pub record AreFilled (words filled : List ℕ) : Type 0 where
  pub full : (place : ℕ) → slice_index words place ≢ 0 → HasNumber filled place
  pub only : (place : ℕ) → HasNumber filled place → slice_index words place ≢ 0
  pub room : length words ≤ 64 * length filled
