use Rattle.std.proofs.Common.{◌≡◌, ◌∷◌, [], ◌++◌, ◌+◌, ◌<◌, ◌^◌, List, take, sym, ◌∙◌, ap, subst}
use Rattle.std.proofs.lemmas.List.{take_more}
use Rattle.mapf_lemmas.specs.declared.price.Price.{Price}
use Rattle.mapf_single_labels.specs.KeyedPrices.{GiveCellPrices}
use Rattle.mapf_single_labels.proofs.PriceLemmas.{cells_more, cells_other}
use Rattle.mapf_single_labels.proofs.price_table.cells_of.Goals as goal
use Rattle.mapf_single_labels.proofs.price_table.cells_of.Goals.{in-Cell+in_ok-push, in_default}

pub loop-price-preserved : goal.loop-price-preserved
loop-price-preserved c =
    let prices = c.args.prices.now in
    let before = take c.loop-price.price-index prices in
    let more : take (c.loop-price.price-index + 1) prices ≡ before ++ c.price-item.result ∷ [] = take_more prices c.loop-price.price-index c.price-item.result c.loop-price-test.true ∙ ap (λ (p : Price). before ++ p ∷ []) (sym c.price-item.is) in
    subst (λ (ps : List Price). GiveCellPrices ps c.match-price.keyed.items) (sym more)
    (elim c.match-price.branch [
      | in-Cell+in_ok-push w ↦ rw (w.keyed-is, w.in-Cell.is, w.in_ok-push.ensures.items, w.key_of.ensures.value, w.cell.view_is) (cells_more before c.loop-price.keyed.items w.in-Cell.cell w.in-Cell.tick w.in-Cell.amount (subst (λ n. n < 2 ^ 32) w.cell.view_is w.key_of.ensures.second) c.loop-price.invariant)
      | in_default w ↦ rw (w.keyed-is, w.in_default.is) (cells_other before c.loop-price.keyed.items w.in_default.field-0 w.in_default.field-1 w.in_default.field-2 w.in_default.field-3 c.loop-price.invariant)
    ])
