use Rattle.std.proofs.Common.{rules, ◌≡◌, ◌<◌, ◌≤◌, ltb, get_or, false, arith, subst}
use Rattle.std.proofs.lemmas.List.Sorted.{IsPartitionPoint-from_clause, IsPartitionedBy-ltb}
use Rattle.std.proofs.lemmas.Bool.{ltb-false, ltb-true}
use Rattle.std.proofs.lemmas.Option.{get_or_from_slice_get, slice_get_within}
use Rattle.mapf_player.specs.declared.dispatch.Turn.{Turn}
use Rattle.mapf_player.proofs.dispatch.place_of.Goals as goal

pub returns-clause-before : goal.returns-clause-before
returns-clause-before c = λ p turn below is.
    let parted = IsPartitionedBy-ltb (λ (t : Turn). t.key) _ c.args.key c.requires in
    let point = IsPartitionPoint-from_clause (λ (t : Turn). ltb t.key c.args.key) _ _ c.partition_point.ensures.partitioned parted (λ a r q k. search rules) in
    subst (λ (t : Turn). t.key < c.args.key) (get_or_from_slice_get c.args.turns.now p turn turn is) (ltb-true (get_or c.args.turns.now p turn).key c.args.key (point.0 p turn (omega arith) below))

pub returns-clause-behind : goal.returns-clause-behind
returns-clause-behind c = λ p turn past is.
    let parted = IsPartitionedBy-ltb (λ (t : Turn). t.key) _ c.args.key c.requires in
    let point = IsPartitionPoint-from_clause (λ (t : Turn). ltb t.key c.args.key) _ _ c.partition_point.ensures.partitioned parted (λ a r q k. search rules) in
    let within = slice_get_within c.args.turns.now p turn is in
    let low : ltb (get_or c.args.turns.now p turn).key c.args.key ≡ false = point.1 p turn past within in
    subst (λ (t : Turn). c.args.key ≤ t.key) (get_or_from_slice_get c.args.turns.now p turn turn is) (ltb-false (get_or c.args.turns.now p turn).key c.args.key low)
