use Rattle.std.proofs.Common.{Result, Ok, Err, OnOk, ◌∙◌, subst, arith}
use Rattle.std.proofs.lemmas.Option.{slice_get_within}
use Rattle.mapf_model.specs.declared.constraint.Constraint.{Constraint}
use Rattle.mapf_cbs.specs.declared.node.Status.TheVariants.{Open}
use Rattle.mapf_model.specs.Tree.{left_constraint, right_constraint}
use Rattle.mapf_cbs.specs.Whole.{IsWholeChild}
use Rattle.mapf_cbs.proofs.PlainLemmas.{whole_hand, hand_inside, hand_is, hand_whole, hand_small, whole_fits, whole_grown, whole_met}
use Rattle.mapf_cbs.proofs.plain.split_whole.Goals as goal

on_ok_two : {T E A B C : Type 0} (r : Result T E) → (A → B → C) → OnOk r A → OnOk r B → OnOk r C
on_ok_two (Ok x) f a b = f a b
on_ok_two (Err e) f a b = a

pub index-requires : goal.index-requires
index-requires c = omega (arith, hand_inside c.requires.popped.1, c.args.tree.now.nodes.ok)

pub child_of-requires-clause-known : goal.child_of-requires-clause-known
child_of-requires-clause-known c = rw c.left.ensures (whole_fits c.requires.popped.1 c.args.conflict.now c.requires.meet c.requires.early).0.0

pub child_of-requires-clause-count : goal.child_of-requires-clause-count
child_of-requires-clause-count c = c.requires.popped.1.agent_paths c.args.k c.index.result.now (hand_is c.requires.popped.1 c.index.ensures)

pub child_of-requires-clause-bar : goal.child_of-requires-clause-bar
child_of-requires-clause-bar c = rw c.left.ensures (whole_fits c.requires.popped.1 c.args.conflict.now c.requires.meet c.requires.early).0.1

pub child_of-requires-clause-small : goal.child_of-requires-clause-small
child_of-requires-clause-small c = hand_small c.requires.popped.1 c.index.ensures c.requires.few

pub child_of-requires-clause-live : goal.child_of-requires-clause-live
child_of-requires-clause-live c = let h = whole_hand c.requires.popped.1 in (h.view, hand_whole c.requires.popped.1 c.index.ensures, h.live)

pub index-requires-2 : goal.index-requires-2
index-requires-2 c = omega (arith, hand_inside c.requires.popped.1, c.args.tree.now.nodes.ok)

pub child_of-requires-2-clause-known : goal.child_of-requires-2-clause-known
child_of-requires-2-clause-known c = rw c.right.ensures (whole_fits c.requires.popped.1 c.args.conflict.now c.requires.meet c.requires.early).1.0

pub child_of-requires-2-clause-count : goal.child_of-requires-2-clause-count
child_of-requires-2-clause-count c = c.requires.popped.1.agent_paths c.args.k c.index-2.result.now (hand_is c.requires.popped.1 c.index-2.ensures)

pub child_of-requires-2-clause-bar : goal.child_of-requires-2-clause-bar
child_of-requires-2-clause-bar c = rw c.right.ensures (whole_fits c.requires.popped.1 c.args.conflict.now c.requires.meet c.requires.early).1.1

pub child_of-requires-2-clause-small : goal.child_of-requires-2-clause-small
child_of-requires-2-clause-small c = hand_small c.requires.popped.1 c.index-2.ensures c.requires.few

pub child_of-requires-2-clause-live : goal.child_of-requires-2-clause-live
child_of-requires-2-clause-live c = let h = whole_hand c.requires.popped.1 in (h.view, hand_whole c.requires.popped.1 c.index-2.ensures, h.live)

pub grow-requires-clause-inside : goal.grow-requires-clause-inside
grow-requires-clause-inside c = slice_get_within c.args.tree.now.statuses.items c.args.k Open (whole_hand c.requires.popped.1).is_open

pub returns-clause-state : goal.returns-clause-state
returns-clause-state c =
    let p = c.requires.popped.1 in
    let problem = c.args.problem.now in let conflict = c.args.conflict.now in
    let h = whole_hand p in
    let left : IsWholeChild problem h.view (left_constraint conflict) c.in_ok-left.left.node c.in_ok-left.left.total =
    subst (λ (t : Constraint). IsWholeChild problem h.view t c.in_ok-left.left.node c.in_ok-left.left.total) c.left.ensures (c.in_ok-left.ensures.generated h.view (hand_whole p c.index.ensures) h.live) in
    let right : IsWholeChild problem h.view (right_constraint conflict) c.in_ok-right.right.node c.in_ok-right.right.total =
    subst (λ (t : Constraint). IsWholeChild problem h.view t c.in_ok-right.right.node c.in_ok-right.right.total) c.right.ensures (c.in_ok-right.ensures.generated h.view (hand_whole p c.index-2.ensures) h.live) in
    let state = whole_grown p c.requires.goals conflict (whole_met p conflict c.requires.meet) c.requires.early
    c.in_ok-left.left.node c.in_ok-right.right.node c.in_ok-left.left.total c.in_ok-right.right.total left right
    (c.in_ok-left.ensures.count ∙ p.agent_paths c.args.k c.index.result.now (hand_is p c.index.ensures)) (c.in_ok-right.ensures.count ∙ p.agent_paths c.args.k c.index-2.result.now (hand_is p c.index-2.ensures)) in
    on_ok_two c.grow.result (λ ns fs. rw ns (rw fs state)) c.grow.ensures.nodes c.grow.ensures.statuses
