use Rattle.std.proofs.Common.{◌∙◌, ap, subst}
use Rattle.mapf_lemmas.specs.Prices.{PriceList, total_price}
use Rattle.mapf_single_labels.specs.KeyedPrices.{GiveCellPrices, GiveEdgePrices, GiveRestPrices}
use Rattle.mapf_single_labels.proofs.PriceLemmas.{cells_permuted, edges_permuted, rests_permuted}
use Rattle.mapf_single_labels.proofs.price_table.PriceTable.of.Goals as goal

pub invariant_of-result : goal.invariant_of-result
invariant_of-result c =
    let prices = c.args.list.prices in
    let listed = ap (λ (l : PriceList). l.prices) c.list.view_is in
    record {
      range = c.requires;
      total = c.total_of-total.ensures ∙ ap total_price (c.deref.ensures.value ∙ listed);
      cells = cells_permuted prices _ c.of-cells.result c.of-cells.ensures (subst (λ ps. GiveCellPrices ps c.in_ok-cells_of.field-0.items) (c.deref-2.ensures.value ∙ listed) c.in_ok-cells_of.ensures);
      edges = edges_permuted prices _ c.of-edges.result c.of-edges.ensures (subst (λ ps. GiveEdgePrices ps c.in_ok-edges_of.field-0.items) (c.deref-3.ensures.value ∙ listed) c.in_ok-edges_of.ensures);
      rests = rests_permuted prices _ c.in_ok-rests.rests c.in_ok-rests.ensures (subst (λ ps. GiveRestPrices ps c.in_ok-rests_of.field-0.items) (c.deref-4.ensures.value ∙ listed) c.in_ok-rests_of.ensures);
    }
