-- The words of a line.
use Rattle.std.specs.Prelude.{ℕ, ◌==◌, ◌||◌, Bool, List, [], ◌∷◌, if◌then◌else◌}
use Rattle.std.specs.List.{list_all}
use Rattle.mapf_text.specs.Lines.{before_line}

-- a space or a tab
abbrev pub is_blank : ℕ → Bool
is_blank b = (b == 32) || (b == 9)

-- a line that has only blanks
abbrev pub is_blank_line : List ℕ → Bool
is_blank_line line = list_all is_blank line

-- the longest parts of a line without blanks: a byte that isn't a blank is a word of its own if a blank or the end
-- follows it; else it is put before the first word of what follows
unfoldable pub words_of : List ℕ → List (List ℕ)
words_of [] = []
words_of (b ∷ []) = if is_blank b then [] else (b ∷ []) ∷ []
words_of (b ∷ c ∷ bs) =
    if is_blank b then words_of (c ∷ bs)
    else (if is_blank c then (b ∷ []) ∷ words_of (c ∷ bs) else before_line b (words_of (c ∷ bs)))
