use Rattle.std.proofs.Common.{◌<◌, length, ap, sym, subst, arith}
use Rattle.mapf_cases.specs.Leaves.{IsListIn}
use Rattle.mapf_lemma_checker.specs.LemmaParts.{AreCellPricesSmall}
use Rattle.mapf_lemma_checker.proofs.price_lists.PriceLists.table.Goals as goal

pub returns-in-Some-clause-small : goal.returns-in-Some-clause-small
returns-in-Some-clause-small c =
    let inside : c.in-Some.number < length c.args.self.now = subst (IsListIn (length c.args.self.now)) c.in-Some.is c.requires in
    let same = ap length c.self.view_is in
    subst AreCellPricesSmall (sym c.index.ensures)
    (c.self.invariant.small c.in-Some.number c.index.result.now (omega (arith, inside, same)))
