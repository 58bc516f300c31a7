use Rattle.std.proofs.Common.{Result, Ok, Err, OnOk, sym, subst, arith}
use Rattle.std.proofs.lemmas.Option.{slice_get_within}
use Rattle.mapf_model.specs.declared.constraint.Constraint.{Constraint}
use Rattle.mapf_cbs.specs.declared.node.Status.TheVariants.{Open}
use Rattle.mapf_model.specs.Plan.{Instance}
use Rattle.mapf_model.specs.Tree.{left_constraint, right_constraint}
use Rattle.mapf_cbs.specs.Nodes.{AreViews, AreNodesFor}
use Rattle.mapf_cbs.specs.PathOwners.{AreOwners}
use Rattle.mapf_cbs.specs.GeneratedChild.{IsGeneratedChild}
use Rattle.mapf_cbs.specs.Search.{IsLive}
use Rattle.mapf_cbs.proofs.StateLemmas.{fits_there, in_hand, older_keys, state_grown}
use Rattle.mapf_cbs.proofs.solver.split.Goals as goal
use Rattle.mapf_model.proofs.ContainsLemmas.{Contains-cons_new}

on_ok_three : {T E A B C D : Type 0} (r : Result T E) → (A → B → C → D) → OnOk r A → OnOk r B → OnOk r C → OnOk r D
on_ok_three (Ok x) f a b c = f a b c
on_ok_three (Err e) f a b c = a

pub child-requires-clause-nodes : goal.child-requires-clause-nodes
child-requires-clause-nodes g c =
    let known = (fits_there c.requires.popped c.args.conflict.now c.requires.meet c.requires.early).0.0 in
    subst (λ ns. AreNodesFor c.left.result.agent ns) (sym c.deref.ensures.value) (c.requires.popped.state.nodes_for c.left.result.agent (rw c.left.ensures known))

pub child-requires-clause-owners : goal.child-requires-clause-owners
child-requires-clause-owners g c = subst (λ ns. AreOwners ns c.args.owners.now) (sym c.deref.ensures.value) c.requires.owners

pub child-requires-clause-found : goal.child-requires-clause-found
child-requires-clause-found g c = rw (c.left.ensures, c.requires.count) (fits_there c.requires.popped c.args.conflict.now c.requires.meet c.requires.early).0.0

pub child-requires-clause-known : goal.child-requires-clause-known
child-requires-clause-known g c = rw c.left.ensures (fits_there c.requires.popped c.args.conflict.now c.requires.meet c.requires.early).0.0

pub child-requires-clause-small : goal.child-requires-clause-small
child-requires-clause-small g c =
    let h = c.requires.popped.state.small (c.args.total, c.args.owners.now.node) (Contains-cons_new (c.args.total, c.args.owners.now.node) c.args.search.now.waiting) in
    let few = c.requires.few in
    omega (arith, h, few)

pub child-requires-clause-live : goal.child-requires-clause-live
child-requires-clause-live g c =
    let p = c.requires.popped in
    let h = in_hand p in
    (p.state.views, h.view, subst (λ ns. AreViews ns p.state.views) (sym c.deref.ensures.value) p.state.are, h.is, h.live, h.total_is)

pub child-requires-2-clause-nodes : goal.child-requires-2-clause-nodes
child-requires-2-clause-nodes g c =
    let known = (fits_there c.requires.popped c.args.conflict.now c.requires.meet c.requires.early).1.0 in
    subst (λ ns. AreNodesFor c.right.result.agent ns) (sym c.deref-2.ensures.value) (c.requires.popped.state.nodes_for c.right.result.agent (rw c.right.ensures known))

pub child-requires-2-clause-owners : goal.child-requires-2-clause-owners
child-requires-2-clause-owners g c = subst (λ ns. AreOwners ns c.args.owners.now) (sym c.deref-2.ensures.value) c.requires.owners

pub child-requires-2-clause-found : goal.child-requires-2-clause-found
child-requires-2-clause-found g c = rw (c.right.ensures, c.requires.count) (fits_there c.requires.popped c.args.conflict.now c.requires.meet c.requires.early).1.0

pub child-requires-2-clause-known : goal.child-requires-2-clause-known
child-requires-2-clause-known g c = rw (c.in_ok-left.ensures.problem, c.right.ensures) (fits_there c.requires.popped c.args.conflict.now c.requires.meet c.requires.early).1.0

pub child-requires-2-clause-small : goal.child-requires-2-clause-small
child-requires-2-clause-small g c =
    let h = c.requires.popped.state.small (c.args.total, c.args.owners.now.node) (Contains-cons_new (c.args.total, c.args.owners.now.node) c.args.search.now.waiting) in
    let few = c.requires.few in
    omega (arith, h, few)

pub child-requires-2-clause-live : goal.child-requires-2-clause-live
child-requires-2-clause-live g c =
    let p = c.requires.popped in
    let h = in_hand p in
    (p.state.views, h.view, subst (λ ns. AreViews ns p.state.views) (sym c.deref-2.ensures.value) p.state.are, h.is, subst (λ (problem : Instance). IsLive problem h.view) (sym c.in_ok-left.ensures.problem) h.live, h.total_is)

pub child-requires-clause-bar : goal.child-requires-clause-bar
child-requires-clause-bar g c = rw c.left.ensures (fits_there c.requires.popped c.args.conflict.now c.requires.meet c.requires.early).0.1

pub child-requires-2-clause-bar : goal.child-requires-2-clause-bar
child-requires-2-clause-bar g c = rw c.right.ensures (fits_there c.requires.popped c.args.conflict.now c.requires.meet c.requires.early).1.1

pub grow-requires-clause-inside : goal.grow-requires-clause-inside
grow-requires-clause-inside g c = slice_get_within c.args.search.now.statuses.items c.args.owners.now.node Open (in_hand c.requires.popped).is_open

pub returns-clause-state : goal.returns-clause-state
returns-clause-state g c =
    let p = c.requires.popped in
    let h = in_hand p in
    let met = c.requires.meet p.state.views h.view p.state.are h.is h.live in
    let left : IsGeneratedChild c.args.replanner.now.problem.now h.view (left_constraint c.args.conflict.now) c.in_ok-left.left.found c.in_ok-left.left.total =
    subst (λ (t : Constraint). IsGeneratedChild c.args.replanner.now.problem.now h.view t c.in_ok-left.left.found c.in_ok-left.left.total) c.left.ensures
    (c.in_ok-left.ensures.generated p.state.views h.view (subst (λ ns. AreViews ns p.state.views) (sym c.deref.ensures.value) p.state.are) h.is h.live h.total_is) in
    let same = c.in_ok-left.ensures.problem in
    let right : IsGeneratedChild c.args.replanner.now.problem.now h.view (right_constraint c.args.conflict.now) c.in_ok-right.right.found c.in_ok-right.right.total =
    subst (λ (t : Constraint). IsGeneratedChild c.args.replanner.now.problem.now h.view t c.in_ok-right.right.found c.in_ok-right.right.total) c.right.ensures
    (subst (λ (problem : Instance). IsGeneratedChild problem h.view c.right.result c.in_ok-right.right.found c.in_ok-right.right.total) same
    (c.in_ok-right.ensures.generated p.state.views h.view (subst (λ ns. AreViews ns p.state.views) (sym c.deref-2.ensures.value) p.state.are) h.is
    (subst (λ (problem : Instance). IsLive problem h.view) (sym same) h.live) h.total_is)) in
    let state = state_grown c.args.replanner.now.problem.now c.args.search.now.nodes.items c.args.search.now.statuses.items c.args.search.now.waiting c.args.search.now.splits c.args.total c.args.owners.now.node p c.requires.goals h.view h.is h.is_open h.total_is c.args.conflict.now met c.requires.early
    c.in_ok-left.left.found c.in_ok-right.right.found c.in_ok-left.left.total c.in_ok-right.right.total left right in
    on_ok_three c.grow.result (λ ns fs ks. rw ns (rw fs (rw ks state))) c.grow.ensures.nodes c.grow.ensures.statuses c.grow.ensures.waiting

pub grow-requires-clause-newest : goal.grow-requires-clause-newest
grow-requires-clause-newest g c = older_keys c.requires.popped
