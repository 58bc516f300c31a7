use Rattle.mapf_lemma_checker.proofs.PriceRanges.{cell_prices_small, list_in_range, unit_some}
use Rattle.mapf_lemma_checker.proofs.price_lists.PriceLists.add.Goals as goal

pub keep-requires-clause-range : goal.keep-requires-clause-range
keep-requires-clause-range c =
    let (lists, part) = c.requires.part in list_in_range c.args.problem.now lists c.args.list part

pub keep-requires-clause-positive : goal.keep-requires-clause-positive
keep-requires-clause-positive c =
    let (lists, part) = c.requires.part in unit_some c.args.problem.now lists c.args.list part

pub keep-requires-clause-small : goal.keep-requires-clause-small
keep-requires-clause-small c =
    let (lists, part) = c.requires.part in cell_prices_small c.args.problem.now lists c.args.list part
