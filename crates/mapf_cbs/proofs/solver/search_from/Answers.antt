use Rattle.std.proofs.Common.{◌≡◌, List, Some, length, slice_get, sym, ◌∙◌, ap, subst, arith}
use Rattle.std.proofs.lemmas.Result.{IfOk-weaker}
use Rattle.mapf_model.specs.Plan.{Instance}
use Rattle.mapf_cbs.specs.Endings.{IsExhausted, IsAtPlan, IsAtCause}
use Rattle.mapf_cbs.specs.PathOwners.{AreOwners}
use Rattle.mapf_cbs.specs.Nodes.{AreViews}
use Rattle.mapf_cbs.specs.Replanned.{AreSplitsFirst}
use Rattle.mapf_cbs.specs.Search.{View}
use Rattle.mapf_cbs.specs.State.{IsState}
use Rattle.mapf_conflicts.specs.Pairs.{AreOthersFreeBefore}
use Rattle.mapf_cbs.proofs.AnswerLemmas.{state_first, popped_of}
use Rattle.mapf_cbs.proofs.EndingLemmas.{at_popped, can_be_drawn}
use Rattle.mapf_cbs.proofs.StartLemmas.{root_of}
use Rattle.mapf_cbs.proofs.StateLemmas.{in_hand, have_paths}
use Rattle.mapf_cbs.proofs.ReplannedLemmas.{free_at}
use Rattle.mapf_cbs.proofs.OptionLemmas.{of_none, of_some}
use Rattle.mapf_cbs.proofs.solver.search_from.Goals as goal

pub loop-total-init : goal.loop-total-init
loop-total-init g c =
    let paths_are = c.deref.ensures.value in
    let r = root_of c.args.problem.now c.args.paths.items c.requires.root.count c.requires.root.shortest in
    let sum_is = c.total_of-total.ensures.sum in
    let first = state_first c.args.problem.now c.args.paths.items c.total_of-total.result r.view r.is_root r.live (rw paths_are at sum_is ∙ sym r.total) c.total_of-total.ensures.small c.in_ok-search.search.nodes.items c.in_ok-search.ensures.nodes in
    let f = c.in_ok-search.ensures.statuses in
    let o = c.in_ok-search.ensures.waiting in
    let n = c.in_ok-search.ensures.splits in
    record {
      within = omega (arith, n);
      state = rw n (rw f (rw o first));
      problem = c.in_ok-replanner.ensures.problem;
      tables = c.in_ok-replanner.ensures.tables;
    }

pub impossible-requires : goal.impossible-requires
impossible-requires g c =
    let s = c.loop-total.invariant.state in
    rw c.deref-in_default.ensures.value (can_be_drawn s (omega (arith, c.loop-total.invariant.within, c.requires.limit)) (c.in_ok-lists.ensures s.views s.are))

pub returns-in_default : goal.returns-in_default
returns-in_default g c =
    let s = c.loop-total.invariant.state in
    let e = c.deref-in_default.ensures.value in
    let state = subst (λ ks. IsState c.args.problem.now c.loop-total.search.nodes.items c.loop-total.search.statuses.items ks c.loop-total.search.splits) c.in_default.ensures.none s in
    let at_end : IsExhausted c.args.problem.now c.args.limit c.in_ok-lists.lists.items c.loop-total.search.statuses.items = record {
      paths = c.args.paths.items;
      root = c.requires.root;
      nodes = c.loop-total.search.nodes.items;
      count = c.loop-total.search.splits;
      state = state;
      within = c.loop-total.invariant.within;
      blocks = c.in_ok-lists.ensures state.views state.are;
    } in
    IfOk-weaker c.impossible.result _ _ (λ outcome said. said c.args.problem.now c.args.limit (rw e at_end)) c.impossible.ensures

pub owners_at-requires-clause-nodes : goal.owners_at-requires-clause-nodes
owners_at-requires-clause-nodes g c =
    rw c.deref-in-loop-total.ensures.value (have_paths (popped_of c.loop-total.invariant.state c.in-Some.ensures.some) c.requires.root.agents (ap length (sym c.agents.ensures.value))).nodes_for

pub owners_at-requires-clause-some : goal.owners_at-requires-clause-some
owners_at-requires-clause-some g c =
    let some = c.requires.root.agents.0 in
    let size = ap length c.agents.ensures.value in
    omega (arith, some, size)

pub owners_at-requires-clause-inside : goal.owners_at-requires-clause-inside
owners_at-requires-clause-inside g c =
    rw c.deref-in-loop-total.ensures.value (have_paths (popped_of c.loop-total.invariant.state c.in-Some.ensures.some) c.requires.root.agents (ap length (sym c.agents.ensures.value))).inside

pub replanned_at-replanned-requires : goal.replanned_at-replanned-requires
replanned_at-replanned-requires g c =
    rw c.deref-in-loop-total-2.ensures.value (have_paths (popped_of c.loop-total.invariant.state c.in-Some.ensures.some) c.requires.root.agents (ap length (sym c.agents.ensures.value))).inside

pub conflict_at-requires : goal.conflict_at-requires
conflict_at-requires g c =
    let p = popped_of c.loop-total.invariant.state c.in-Some.ensures.some in
    let nodes = c.deref-in-loop-total-4.ensures.value in
    let replanned = c.replanned_at-replanned.result in
    let others : (views : List View) (view : View) → AreViews c.loop-total.search.nodes.items views → AreSplitsFirst views c.loop-total.search.statuses.items → slice_get views c.in-Some.k ≡ Some view → AreOthersFreeBefore view.paths replanned.agent replanned.free =
    λ views view are splits is. c.replanned_at-replanned.ensures views view (subst (λ ns. AreViews ns views) (sym c.deref-in-loop-total-2.ensures.value) are)
    (subst (λ ss. AreSplitsFirst views ss) (sym c.deref-in-loop-total-3.ensures.value) splits) is in
    let node = c.in_ok-owners.ensures.node in
    let count = c.in_ok-owners.ensures.count in
    record {
      paths = rw nodes (rw node (rw count (have_paths p c.requires.root.agents (ap length (sym c.agents.ensures.value)))));
      owners = subst (λ ns. AreOwners ns c.in_ok-owners.owners) (c.deref-in-loop-total.ensures.value ∙ sym nodes) c.in_ok-owners.ensures.found;
      others = rw nodes (rw node (rw count (free_at p (ap length (sym c.agents.ensures.value)) replanned.agent replanned.free others)));
    }

pub plan_at-requires : goal.plan_at-requires
plan_at-requires g c =
    let p = popped_of c.loop-total.invariant.state c.in-Some.ensures.some in
    let nodes = c.deref-in_default-first.ensures.value in
    let node = c.in_ok-owners.ensures.node in
    let count = c.in_ok-owners.ensures.count in
    record {
      paths = rw nodes (rw node (rw count (have_paths p c.requires.root.agents (ap length (sym c.agents.ensures.value)))));
      owners = subst (λ ns. AreOwners ns c.in_ok-owners.owners) (c.deref-in-loop-total.ensures.value ∙ sym nodes) c.in_ok-owners.ensures.found;
    }

pub found-requires : goal.found-requires
found-requires g c =
    let s = c.loop-total.invariant.state in
    rw c.deref-in_default-first-2.ensures.value (can_be_drawn s (omega (arith, c.loop-total.invariant.within, c.requires.limit)) (c.in_ok-lists-2.ensures s.views s.are))

pub stopped-requires : goal.stopped-requires
stopped-requires g c =
    let s = c.loop-total.invariant.state in
    rw c.deref-in-Some-cause_to_stop.ensures.value (can_be_drawn s (omega (arith, c.loop-total.invariant.within, c.requires.limit)) (c.in_ok-lists-3.ensures s.views s.are))

pub returns-in_default-first : goal.returns-in_default-first
returns-in_default-first g c =
    let p = popped_of c.loop-total.invariant.state c.in-Some.ensures.some in
    let h = in_hand p in
    let are = subst (λ ns. AreViews ns p.state.views) (sym c.deref-in-loop-total-4.ensures.value) p.state.are in
    let node = c.in_ok-owners.ensures.node in
    let counted = h.live.counted.paths ∙ (let e = c.agents.ensures.value in ap length (sym e)) ∙ sym c.in_ok-owners.ensures.count in
    let is = subst (λ n. slice_get p.state.views n ≡ Some h.view) (sym node) h.is in
    let nodes_are = subst (λ ns. AreViews ns p.state.views) (sym c.deref-in_default-first.ensures.value) p.state.are in
    let e = c.deref-in_default-first-2.ensures.value in
    let at_plan : IsAtPlan c.args.problem.now c.args.limit c.in_ok-lists-2.lists.items c.loop-total.search.statuses.items c.in_ok-plan.plan = record {
      count = c.loop-total.search.splits;
      total = c.in-Some.total;
      view = h.view;
      at_node = at_popped c.requires.root p h.is (c.in_ok-first.ensures.short p.state.views h.view are is counted) c.loop-total.invariant.within (c.in_ok-lists-2.ensures p.state.views p.state.are);
      same = c.in_ok-plan.ensures.paths p.state.views h.view nodes_are is counted;
      none = of_none _ c.in_ok-first.first c.in_default-first.is c.in_ok-first.ensures.none p.state.views h.view are is counted;
    } in
    IfOk-weaker c.found.result _ _ (λ outcome said. said c.args.problem.now c.args.limit (rw e at_plan)) c.found.ensures

pub returns-in-Some-cause_to_stop : goal.returns-in-Some-cause_to_stop
returns-in-Some-cause_to_stop g c =
    let p = popped_of c.loop-total.invariant.state c.in-Some.ensures.some in
    let h = in_hand p in
    let are = subst (λ ns. AreViews ns p.state.views) (sym c.deref-in-loop-total-4.ensures.value) p.state.are in
    let node = c.in_ok-owners.ensures.node in
    let counted = h.live.counted.paths ∙ (let e = c.agents.ensures.value in ap length (sym e)) ∙ sym c.in_ok-owners.ensures.count in
    let is = subst (λ n. slice_get p.state.views n ≡ Some h.view) (sym node) h.is in
    let e = c.deref-in-Some-cause_to_stop.ensures.value in
    let at_cause : IsAtCause c.args.problem.now c.args.limit c.in_ok-lists-3.lists.items c.loop-total.search.statuses.items c.in-Some-cause_to_stop.cause c.in-Some.total = record {
      count = c.loop-total.search.splits;
      view = h.view;
      at_node = at_popped c.requires.root p h.is (c.in_ok-first.ensures.short p.state.views h.view are is counted) c.loop-total.invariant.within (c.in_ok-lists-3.ensures p.state.views p.state.are);
      conflict = c.in-Some-first.conflict;
      first = of_some _ c.in_ok-first.first c.in-Some-first.conflict c.in-Some-first.is c.in_ok-first.ensures.some p.state.views h.view are is counted;
      met = c.in-Some-cause_to_stop.ensures.some;
    } in
    IfOk-weaker c.stopped.result _ _ (λ outcome said. said c.args.problem.now c.args.limit (rw e at_cause)) c.stopped.ensures

pub split-requires-clause-popped : goal.split-requires-clause-popped
split-requires-clause-popped g c =
    let p = popped_of c.loop-total.invariant.state c.in-Some.ensures.some in
    rw c.loop-total.invariant.problem (rw c.in_ok-owners.ensures.node p)

pub split-requires-clause-owners : goal.split-requires-clause-owners
split-requires-clause-owners g c = subst (λ ns. AreOwners ns c.in_ok-owners.owners) c.deref-in-loop-total.ensures.value c.in_ok-owners.ensures.found

pub split-requires-clause-tables : goal.split-requires-clause-tables
split-requires-clause-tables g c = rw c.loop-total.invariant.problem c.loop-total.invariant.tables

pub split-requires-clause-count : goal.split-requires-clause-count
split-requires-clause-count g c = c.in_ok-owners.ensures.count ∙ ap length c.agents.ensures.value
    ∙ ap (λ (problem : Instance). length problem.agents) (sym c.loop-total.invariant.problem)

pub split-requires-clause-goals : goal.split-requires-clause-goals
split-requires-clause-goals g c = rw c.loop-total.invariant.problem c.requires.root.goals

pub split-requires-clause-meet : goal.split-requires-clause-meet
split-requires-clause-meet g c views view are is live =
    let nodes_are = subst (λ ns. AreViews ns views) (sym c.deref-in-loop-total-4.ensures.value) are in
    let counted = live.counted.paths ∙ ap (λ (problem : Instance). length problem.agents) c.loop-total.invariant.problem
    ∙ (let e = c.agents.ensures.value in ap length (sym e)) ∙ sym c.in_ok-owners.ensures.count in
    of_some _ c.in_ok-first.first c.in-Some-first.conflict c.in-Some-first.is c.in_ok-first.ensures.some views view nodes_are is counted

pub loop-total-preserved : goal.loop-total-preserved
loop-total-preserved g c =
    let h = c.loop-total.invariant in
    let same = c.in_ok-split.ensures.problem ∙ h.problem in
    let few = c.in_default-cause_to_stop.ensures.allowed in
    record {
      within = (let n = c.in_ok-split.ensures.splits in let within = h.within in omega (arith, n, within, few));
      state = rw c.in_ok-split.ensures.splits (rw (sym h.problem) c.in_ok-split.ensures.state);
      problem = same;
      tables = rw (sym h.problem) c.in_ok-split.ensures.tables;
    }
