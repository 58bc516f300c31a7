use Rattle.std.proofs.Common.{◌≡◌, ℕ, List, ◌∷◌, Err, subst}
use Rattle.mapf_text.specs.Maps.{IsSizeLine, SizeIn, HasNoSize}
use Rattle.mapf_text.specs.declared.header.NotSize.{NotSize}
use Rattle.mapf_text.specs.declared.header.NotSize.TheVariants.{Absent, OutOfRange}
use Rattle.mapf_text.proofs.header.size_line.Goals as goal

no_size : (name line : List ℕ) (lines rest : List (List ℕ)) (fault : NotSize) → lines ≡ line ∷ rest → SizeIn name line (Err fault) → HasNoSize name lines fault
no_size name line lines rest Absent first none = λ size more after.
    let begins = after.first in
    let same : after.line ≡ line = cc in
    none size (subst (λ (l : List ℕ). IsSizeLine name l size) same after.is_size)
no_size name line lines rest OutOfRange first (size, is_size, out) = (size, rest, record { line = line; first = first; is_size = is_size }, out)

pub returns-in-Err : goal.returns-in-Err
returns-in-Err c = no_size c.args.name.now _ _ _ c.in-Err.fault c.in-Some.ensures.lines c.in-Err.ensures
