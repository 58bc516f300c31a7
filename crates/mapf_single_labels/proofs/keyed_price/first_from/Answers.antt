use Rattle.std.proofs.Common.{rules, ltb, get_or, arith}
use Rattle.std.proofs.lemmas.List.Sorted.{IsPartitionPoint-from_clause, IsPartitionedBy-ltb}
use Rattle.std.proofs.lemmas.Bool.{ltb-false, ltb-true}
use Rattle.mapf_single_labels.specs.declared.keyed_price.KeyedPrice.{KeyedPrice}
use Rattle.mapf_single_labels.specs.KeyedPrices.{key_of_price}
use Rattle.mapf_single_labels.proofs.keyed_price.first_from.Goals as goal

pub returns-clause-below : goal.returns-clause-below
returns-clause-below c k d before within =
    let parted = IsPartitionedBy-ltb key_of_price _ c.args.key c.requires in
    let point = IsPartitionPoint-from_clause (λ (p : KeyedPrice). ltb p.key c.args.key) _ _ c.partition_point.ensures.partitioned parted (λ a r q called. search rules) in
    ltb-true (get_or c.args.prices.now k d).key c.args.key (point.0 k d (omega arith) before)

pub returns-clause-others : goal.returns-clause-others
returns-clause-others c k d from within =
    let parted = IsPartitionedBy-ltb key_of_price _ c.args.key c.requires in
    let point = IsPartitionPoint-from_clause (λ (p : KeyedPrice). ltb p.key c.args.key) _ _ c.partition_point.ensures.partitioned parted (λ a r q called. search rules) in
    ltb-false (get_or c.args.prices.now k d).key c.args.key (point.1 k d from within)
