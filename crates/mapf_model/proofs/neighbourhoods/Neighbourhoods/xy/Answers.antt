use Rattle.std.proofs.Common.{◌<◌, arith}
use Rattle.mapf_model.proofs.ReciprocalLemmas.{row_within, row_is, column_is}
use Rattle.mapf_model.proofs.neighbourhoods.Neighbourhoods.xy.Goals as goal

pub overflow_sub-result : goal.overflow_sub-result
overflow_sub-result c =
    let few : c.cell.inside.0 < 4194304 = omega (arith, c.requires, c.cell.view_is) in
    row_within c.cell.inside.0 c.self.inside.width c.self.inside.reciprocal c.self.invariant.0 c.self.invariant.1 c.self.invariant.2 few

pub returns-clause-column : goal.returns-clause-column
returns-clause-column c =
    let few : c.cell.inside.0 < 4194304 = omega (arith, c.requires, c.cell.view_is) in
    rw (← c.cell.view_is, ← c.self.view_is) (column_is c.cell.inside.0 c.self.inside.width c.self.inside.reciprocal c.self.invariant.0 c.self.invariant.1 c.self.invariant.2 few)

pub returns-clause-row : goal.returns-clause-row
returns-clause-row c =
    let few : c.cell.inside.0 < 4194304 = omega (arith, c.requires, c.cell.view_is) in
    rw (← c.cell.view_is, ← c.self.view_is) (row_is c.cell.inside.0 c.self.inside.width c.self.inside.reciprocal c.self.invariant.0 c.self.invariant.1 c.self.invariant.2 few)
