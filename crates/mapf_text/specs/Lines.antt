-- The lines of a text.
use Rattle.std.specs.Prelude.{ℕ, ◌==◌, List, [], ◌∷◌, map, if◌then◌else◌}

-- the lines after a byte is put before the first one
abbrev pub before_line : ℕ → List (List ℕ) → List (List ℕ)
before_line b [] = (b ∷ []) ∷ []
before_line b (line ∷ lines) = (b ∷ line) ∷ lines

-- the text cut after each LF, which is left out; a rest after the last LF is a line if it isn't empty
abbrev pub cut_lines : List ℕ → List (List ℕ)
cut_lines [] = []
cut_lines (b ∷ bs) = if b == 10 then [] ∷ cut_lines bs else before_line b (cut_lines bs)

-- a line without one CR at its end, which belongs to the line end
abbrev pub without_return : List ℕ → List ℕ
without_return [] = []
without_return (b ∷ []) = if b == 13 then [] else b ∷ []
without_return (b ∷ c ∷ bs) = b ∷ without_return (c ∷ bs)

-- the lines of a text without their line ends, also of the last
unfoldable pub lines_of : List ℕ → List (List ℕ)
lines_of text = map without_return (cut_lines text)
