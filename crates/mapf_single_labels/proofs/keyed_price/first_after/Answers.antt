use Rattle.std.proofs.Common.{rules, leb, get_or, arith}
use Rattle.std.proofs.lemmas.List.Sorted.{IsPartitionPoint-from_clause, IsPartitionedBy-leb}
use Rattle.std.proofs.lemmas.Bool.{leb-false, leb-true}
use Rattle.mapf_single_labels.specs.declared.keyed_price.KeyedPrice.{KeyedPrice}
use Rattle.mapf_single_labels.specs.KeyedPrices.{key_of_price}
use Rattle.mapf_single_labels.proofs.keyed_price.first_after.Goals as goal

pub returns-clause-below : goal.returns-clause-below
returns-clause-below c k d before within =
    let parted = IsPartitionedBy-leb key_of_price _ c.args.key c.requires in
    let point = IsPartitionPoint-from_clause (λ (p : KeyedPrice). leb p.key c.args.key) _ _ c.partition_point.ensures.partitioned parted (λ a r q called. search rules) in
    leb-true (get_or c.args.prices.now k d).key c.args.key (point.0 k d (omega arith) before)

pub returns-clause-others : goal.returns-clause-others
returns-clause-others c k d from within =
    let parted = IsPartitionedBy-leb key_of_price _ c.args.key c.requires in
    let point = IsPartitionPoint-from_clause (λ (p : KeyedPrice). leb p.key c.args.key) _ _ c.partition_point.ensures.partitioned parted (λ a r q called. search rules) in
    leb-false (get_or c.args.prices.now k d).key c.args.key (point.1 k d from within)
