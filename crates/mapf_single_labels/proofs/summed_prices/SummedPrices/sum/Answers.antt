use Rattle.std.proofs.Common.{◌≡◌, ◌-◌, ◌<◌, ◌≤◌, List, length, sum_by, sym, ◌∙◌, ap, subst, arith}
use Rattle.std.proofs.lemmas.Bool.{eqb-false}
use Rattle.mapf_single_labels.specs.declared.keyed_price.KeyedPrice.{KeyedPrice}
use Rattle.mapf_single_labels.specs.KeyedPrices.{amount_between, AreKeysAbove, AreKeysNotAbove}
use Rattle.mapf_single_labels.proofs.KeyedLemmas.{between_sums, small_between}
use Rattle.mapf_single_labels.proofs.summed_prices.SummedPrices.sum.Goals as goal

pub overflow_sub-result : goal.overflow_sub-result
overflow_sub-result c =
    let apart = eqb-false _ _ (sym c.is_empty.ensures ∙ c.if-is_empty.false) in
    let size = c.deref.ensures.len in
    let same = ap (λ (ps : List KeyedPrice). length ps) c.deref.ensures.value in
    let some : 0 < length c.self.inside.prices.items = omega (arith, apart, size, same) in
    (between_sums c.self.inside.prices.items c.self.inside.before.items c.args.after c.args.to c.first_after-first.result c.first_after-end.result c.index-2.result.now c.index.result.now c.self.invariant.1 some c.requires.order
    (subst (λ (ps : List KeyedPrice). (c.first_after-first.result ≤ length ps) × AreKeysNotAbove ps c.first_after-first.result c.args.after × AreKeysAbove ps c.first_after-first.result c.args.after) c.deref.ensures.value (c.first_after-first.ensures.within, c.first_after-first.ensures.below, c.first_after-first.ensures.others))
    (subst (λ (ps : List KeyedPrice). (c.first_after-end.result ≤ length ps) × AreKeysNotAbove ps c.first_after-end.result c.args.to × AreKeysAbove ps c.first_after-end.result c.args.to) c.deref-2.ensures.value (c.first_after-end.ensures.within, c.first_after-end.ensures.below, c.first_after-end.ensures.others))
    c.index-2.ensures c.index.ensures).0

pub returns-clause-value : goal.returns-clause-value
returns-clause-value c =
    let apart = eqb-false _ _ (sym c.is_empty.ensures ∙ c.if-is_empty.false) in
    let size = c.deref.ensures.len in
    let same = ap (λ (ps : List KeyedPrice). length ps) c.deref.ensures.value in
    let some : 0 < length c.self.inside.prices.items = omega (arith, apart, size, same) in
    (between_sums c.self.inside.prices.items c.self.inside.before.items c.args.after c.args.to c.first_after-first.result c.first_after-end.result c.index-2.result.now c.index.result.now c.self.invariant.1 some c.requires.order
    (subst (λ (ps : List KeyedPrice). (c.first_after-first.result ≤ length ps) × AreKeysNotAbove ps c.first_after-first.result c.args.after × AreKeysAbove ps c.first_after-first.result c.args.after) c.deref.ensures.value (c.first_after-first.ensures.within, c.first_after-first.ensures.below, c.first_after-first.ensures.others))
    (subst (λ (ps : List KeyedPrice). (c.first_after-end.result ≤ length ps) × AreKeysNotAbove ps c.first_after-end.result c.args.to × AreKeysAbove ps c.first_after-end.result c.args.to) c.deref-2.ensures.value (c.first_after-end.ensures.within, c.first_after-end.ensures.below, c.first_after-end.ensures.others))
    c.index-2.ensures c.index.ensures).1
    ∙ ap (sum_by (amount_between c.args.after c.args.to)) c.self.view_is

pub returns-clause-small : goal.returns-clause-small
returns-clause-small c =
    let apart = eqb-false _ _ (sym c.is_empty.ensures ∙ c.if-is_empty.false) in
    let size = c.deref.ensures.len in
    let same = ap (λ (ps : List KeyedPrice). length ps) c.deref.ensures.value in
    let some : 0 < length c.self.inside.prices.items = omega (arith, apart, size, same) in
    let value : c.index.result.now - c.index-2.result.now ≡ sum_by (amount_between c.args.after c.args.to) c.args.self.now =
    (between_sums c.self.inside.prices.items c.self.inside.before.items c.args.after c.args.to c.first_after-first.result c.first_after-end.result c.index-2.result.now c.index.result.now c.self.invariant.1 some c.requires.order
    (subst (λ (ps : List KeyedPrice). (c.first_after-first.result ≤ length ps) × AreKeysNotAbove ps c.first_after-first.result c.args.after × AreKeysAbove ps c.first_after-first.result c.args.after) c.deref.ensures.value (c.first_after-first.ensures.within, c.first_after-first.ensures.below, c.first_after-first.ensures.others))
    (subst (λ (ps : List KeyedPrice). (c.first_after-end.result ≤ length ps) × AreKeysNotAbove ps c.first_after-end.result c.args.to × AreKeysAbove ps c.first_after-end.result c.args.to) c.deref-2.ensures.value (c.first_after-end.ensures.within, c.first_after-end.ensures.below, c.first_after-end.ensures.others))
    c.index-2.ensures c.index.ensures).1
    ∙ ap (sum_by (amount_between c.args.after c.args.to)) c.self.view_is in
    let part = small_between c.args.self.now c.args.after c.args.to in
    let total = c.requires.total in
    omega (arith, value, part, total)
