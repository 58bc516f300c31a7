-- Numbers below 1000, each spelled in four bytes.
use Rattle.std.specs.Prelude.{◌≡◌, ℕ, ◌≤◌, List, take, slice_index}
use Rattle.std.specs.Fmt.{decimal}

-- the digits of the number come first, and the last of the four bytes says how many they are
abbrev pub IsSpelling : ℕ → List ℕ → Type 0
IsSpelling n word = (take (slice_index word 3) word ≡ decimal n) × (slice_index word 3 ≤ 3)
