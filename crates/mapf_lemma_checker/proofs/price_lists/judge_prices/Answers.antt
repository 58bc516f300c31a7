use Rattle.std.proofs.Common.{All, List, subst, arith}
use Rattle.std.proofs.lemmas.List.{take_all}
use Rattle.std.proofs.lemmas.List.Elements.{All-more}
use Rattle.mapf_lemmas.specs.declared.price.Price.{Price}
use Rattle.mapf_lemmas.specs.Prices.{IsPriceOn}
use Rattle.mapf_lemma_checker.proofs.price_lists.judge_prices.Goals as goal

pub loop-k-preserved : goal.loop-k-preserved
loop-k-preserved c =
    All-more (IsPriceOn c.args.grid.now) c.args.prices.now c.loop-k.k c.index-prices-k.result (omega arith)
    c.loop-k.invariant
    (subst (IsPriceOn c.args.grid.now) c.index-prices-k.is (c.is_price_on.ensures.0 c.if-not-is_price_on.false))

pub returns-clause-ok : goal.returns-clause-ok
returns-clause-ok c =
    subst (All (IsPriceOn c.args.grid.now)) (take_all c.loop-k.k c.args.prices.now (omega arith)) c.loop-k.invariant
