-- Where a line ends: at its LF.
use Rattle.std.specs.Prelude.{◌≡◌, ◌==◌, Bool, true, not, ℕ, List, [], ◌∷◌, ◌++◌, Option, Some, None, if◌then◌else◌}
use Rattle.std.specs.Prelude.{option_map}
use Rattle.std.specs.List.{list_all}

-- there is no LF
abbrev pub lacks_end : List ℕ → Bool
lacks_end bs = list_all (λ b. not (b == 10)) bs

-- the first line, and what follows its LF
pub record IsCut (bs line rest : List ℕ) : Type 0 where
  pub same : bs ≡ line ++ (10 ∷ rest)
  pub whole : lacks_end line ≡ true

-- the first line, and what follows its LF; None if there is no LF
abbrev pub cut : List ℕ → Option (List ℕ × List ℕ)
cut [] = None
cut (c ∷ cs) = if c == 10 then Some ([], cs) else option_map (λ p. (c ∷ p.0, p.1)) (cut cs)
