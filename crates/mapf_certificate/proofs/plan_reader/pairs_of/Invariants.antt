use Rattle.std.proofs.Common.{◌≡◌, ℕ, List, All, true, length}
use Rattle.mapf_model.specs.Printed.{IsOnGrid}
use Rattle.mapf_certificate.specs.Lines.{grid_of}
use Rattle.mapf_certificate.specs.Plans.{cells_text, HasCells, GoesOn}
use Rattle.mapf_certificate.proofs.plan_reader.pairs_of.Given as goal

abbrev pub invariant-loop-rest : goal.invariant-loop-rest
invariant-loop-rest l =
    let grid = grid_of l.sizes.width l.sizes.height in
    record {
      found : l.are_cells ≡ true → HasCells grid l.fn.bytes l.cells.items l.rest;
      only : (path : List ℕ) → All (IsOnGrid grid) path → l.fn.bytes ≡ cells_text l.sizes.width path → (l.are_cells ≡ true) × GoesOn l.sizes.width path l.cells.items l.rest;
    }

abbrev pub decreases-loop-rest : goal.decreases-loop-rest
decreases-loop-rest l = length l.rest
