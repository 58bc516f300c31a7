use native.Mathlib.Omega.{arith}
use Rattle.mapf_lemma_checker.proofs.ListLemmas.{kept_more}
use Rattle.mapf_lemma_checker.proofs.price_lists.PriceLists.keep.Goals as goal

pub invariant_of-self-2 : goal.invariant_of-self-2
invariant_of-self-2 c =
    kept_more c.self.inside.tables.items c.self.inside.totals.items c.self.inside.none c.args.list
    c.push_reserved.new.self.items c.push_reserved-2.new.self.items c.self.invariant c.requires.range c.requires.positive c.requires.small
    (grind (arith, c.push_reserved.ensures.items, c.reserve.ensures.items, c.in_ok-table.ensures))
    (grind (arith, c.push_reserved-2.ensures.items, c.reserve-2.ensures.items, c.in_ok-table.ensures, c.total-total.ensures.value))
