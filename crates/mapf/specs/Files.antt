-- When two files are the same.
use Rattle.std.specs.Prelude.{◌≡◌, Option, Some}
use Rattle.mapf.specs.declared.outputs.Identity.{Identity}

-- the first isn't a regular file, or the second isn't, or it is another one
abbrev pub AreDistinctFiles : Option Identity → Option Identity → Type 0
AreDistinctFiles output other = (identity : Identity) → output ≡ Some identity → other ≡ Some identity → ⊥
