use Rattle.std.proofs.Common.{◌<◌, ◌∙◌, sum_by, ap, arith}
use Rattle.std.proofs.lemmas.Bool.Decides.{nat_tests}
use Rattle.mapf_lemmas.specs.Prices.{edge_price}
use Rattle.mapf_single_labels.specs.KeyedPrices.{amount_at}
use Rattle.mapf_single_labels.proofs.PriceLemmas.{edge_price_back}
use Rattle.mapf_single_labels.proofs.price_table.PriceTable.edge.Goals as goal

pub returns-else-le-clause-value : goal.returns-else-le-clause-value
returns-else-le-clause-value c =
    let less : c.args.to < c.args.from = grind (arith, nat_tests) in
    let one = c.from.view_is in
    let other = c.to.view_is in
    let value = c.self.invariant.edges.each c.to.inside.0 c.from.inside.0 c.args.tick (omega arith) (omega arith) (omega arith) (omega arith) in
    c.sum-else-le.ensures.value ∙ ap (λ key. sum_by (amount_at key c.from.inside.0) c.self.inside.edges) c.key_of-else-le.ensures.value ∙ value ∙ edge_price_back c.self.inside.list.prices c.to.inside.0 c.from.inside.0 c.args.tick
    ∙ (λ i. edge_price (c.self.view_is i).prices (c.from.view_is i) (c.to.view_is i) c.args.tick)
