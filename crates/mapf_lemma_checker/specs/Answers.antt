-- Which claims fit an answer.
use Rattle.std.specs.Prelude.{◌≡◌, ◌≤◌, ⊤}
use Rattle.mapf_model.specs.declared.item.Claim.{Claim}
use Rattle.mapf_model.specs.declared.item.Claim.TheVariants.{Cost, Bound, Impossible}

-- a certificate of version 3 may make the second claim beside an answer with the first: the same, or beside a plan of
-- some cost a bound that isn't above it
abbrev pub FitsAnswer : Claim → Claim → Type 0
FitsAnswer (Cost cost) (Cost claimed) = claimed ≡ cost
FitsAnswer (Cost cost) (Bound claimed) = claimed ≤ cost
FitsAnswer (Bound bound) (Bound claimed) = claimed ≡ bound
FitsAnswer Impossible Impossible = ⊤
FitsAnswer answer claim = ⊥
