-- Objects of JSON (RFC 8259), each on a line of its own. No name and no word in them has a character that JSON escapes.
use Rattle.std.specs.Prelude.{◌++◌, ◌∷◌, [], ℕ, List, codes}
use Rattle.std.specs.Fmt.{decimal}

-- a comma, and a member whose value is a word
abbrev pub word : List ℕ → List ℕ → List ℕ
word name value = codes ",\"" ++ (name ++ (codes "\":\"" ++ (value ++ codes "\"")))

-- a comma, and a member whose value is a number
abbrev pub number : List ℕ → ℕ → List ℕ
number name value = codes ",\"" ++ (name ++ (codes "\":" ++ decimal value))

-- these members, the end of the object, and LF
abbrev pub members : List (List ℕ) → List ℕ
members [] = codes "}\n"
members (member ∷ rest) = member ++ members rest

-- the object with this verdict and these further members, and LF
abbrev pub object : List ℕ → List (List ℕ) → List ℕ
object verdict rest = codes "{\"verdict\":\"" ++ (verdict ++ (codes "\"" ++ members rest))
