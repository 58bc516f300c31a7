use Rattle.std.proofs.Common.{◌≡◌, ◌≤◌, All, None, length, sym, ◌∙◌, ap, subst, arith}
use Rattle.std.proofs.lemmas.Option.{same_Some}
use Rattle.std.proofs.lemmas.Result.{IfOk-weaker}
use Rattle.mapf_model.specs.Conflicts.{HaveSomeConflict}
use Rattle.mapf_model.specs.Limits.{most_path_cells}
use Rattle.mapf_cbs.specs.declared.whole_node.WholeNode.{WholeNode}
use Rattle.mapf_cbs.specs.Endings.{IsExhausted, IsAtPlan, IsAtCause}
use Rattle.mapf_cbs.specs.FirstConflicts.{IsFirstConflict}
use Rattle.mapf_cbs.specs.Nodes.{IsRootView}
use Rattle.mapf_cbs.specs.Whole.{IsWhole}
use Rattle.mapf_cbs.proofs.EndingLemmas.{at_popped, can_be_drawn}
use Rattle.mapf_cbs.proofs.PlainLemmas.{least_at, least_found, whole_first, whole_popped, whole_exhausted, whole_hand, hand_is, hand_whole}
use Rattle.mapf_cbs.proofs.StartLemmas.{root_of}
use Rattle.mapf_cbs.proofs.plain.search_plain.Goals as goal

pub loop-k-init : goal.loop-k-init
loop-k-init c =
    let paths_are = c.deref.ensures.value in
    let r = root_of c.args.problem.now c.args.paths.items c.requires.root.count c.requires.root.shortest in
    let whole = c.in_ok-root.ensures.whole r.view (subst (λ ps. IsRootView ps r.view) (sym paths_are) r.is_root) (rw paths_are r.total) in
    let first = whole_first c.args.problem.now c.args.paths.items c.in_ok-root.root r.view r.is_root r.live whole c.in_ok-root.ensures.small in
    let ns = c.in_ok-tree.ensures.nodes in let fs = c.in_ok-tree.ensures.statuses in let n = c.in_ok-tree.ensures.splits in
    record {
      within = omega (arith, n);
      state = rw n (rw fs (rw ns first));
    }

pub impossible-requires : goal.impossible-requires
impossible-requires c =
    let s = c.loop-k.invariant.state in
    rw c.deref-in_default.ensures.value (can_be_drawn s.state (omega (arith, c.loop-k.invariant.within, c.requires.limit)) (c.in_ok-lists.ensures s.state.views s.whole))

pub returns-in_default : goal.returns-in_default
returns-in_default c =
    let t = c.loop-k.tree in let problem = c.args.problem.now in
    let s = c.loop-k.invariant.state in
    let e = c.deref-in_default.ensures.value in
    let none = least_at None c.deref-in-loop-k.ensures.value c.deref-in-loop-k-2.ensures.value c.in_default.ensures in
    let at_end : IsExhausted problem c.args.limit c.in_ok-lists.lists.items t.statuses.items = whole_exhausted s c.args.limit c.loop-k.invariant.within none c.args.paths.items c.requires.root c.in_ok-lists.lists.items (c.in_ok-lists.ensures s.state.views s.whole) in
    IfOk-weaker c.impossible.result _ _ (λ outcome said. said problem c.args.limit (rw e at_end)) c.impossible.ensures

pub plan-requires : goal.plan-requires
plan-requires c =
    let s = c.loop-k.invariant.state in
    let least = least_found c.deref-in-loop-k.ensures.value c.deref-in-loop-k-2.ensures.value c.in-Some.ensures in
    let size = s.agent_paths c.in-Some.k c.index-node.result.now (hand_is (whole_popped s least) c.index-node.ensures) in
    let some = c.requires.root.agents.0 in let few = c.requires.root.agents.1 in
    (omega (arith, size, some), omega (arith, size, few))

pub found-requires : goal.found-requires
found-requires c =
    let s = c.loop-k.invariant.state in
    rw c.deref-in_default-first_conflict.ensures.value (can_be_drawn s.state (omega (arith, c.loop-k.invariant.within, c.requires.limit)) (c.in_ok-lists-2.ensures s.state.views s.whole))

pub stopped-requires : goal.stopped-requires
stopped-requires c =
    let s = c.loop-k.invariant.state in
    rw c.deref-in-Some-cause_to_stop.ensures.value (can_be_drawn s.state (omega (arith, c.loop-k.invariant.within, c.requires.limit)) (c.in_ok-lists-3.ensures s.state.views s.whole))

pub returns-in_default-first_conflict : goal.returns-in_default-first_conflict
returns-in_default-first_conflict c =
    let t = c.loop-k.tree in let problem = c.args.problem.now in
    let s = c.loop-k.invariant.state in
    let least = least_found c.deref-in-loop-k.ensures.value c.deref-in-loop-k-2.ensures.value c.in-Some.ensures in
    let p = whole_popped s least in
    let h = whole_hand p in
    let plan = c.in_ok-plan.ensures.paths h.view (hand_whole p c.index-node.ensures) in
    let e = c.deref-in_default-first_conflict.ensures.value in
    let at_plan : IsAtPlan problem c.args.limit c.in_ok-lists-2.lists.items t.statuses.items c.in_ok-plan.plan = record {
      count = t.splits;
      total = least.node.total;
      view = h.view;
      at_node = at_popped c.requires.root p.popped h.is (subst (λ ps. All (λ path. length path ≤ most_path_cells) ps) plan c.in_ok-plan.ensures.short) c.loop-k.invariant.within (c.in_ok-lists-2.ensures p.popped.state.views p.whole);
      same = plan;
      none = subst (λ ps. HaveSomeConflict ps → ⊥) plan c.in_default-first_conflict.ensures.none;
    } in
    IfOk-weaker c.found.result _ _ (λ outcome said. said problem c.args.limit (rw e at_plan)) c.found.ensures

pub returns-in-Some-cause_to_stop : goal.returns-in-Some-cause_to_stop
returns-in-Some-cause_to_stop c =
    let t = c.loop-k.tree in let problem = c.args.problem.now in
    let s = c.loop-k.invariant.state in
    let least = least_found c.deref-in-loop-k.ensures.value c.deref-in-loop-k-2.ensures.value c.in-Some.ensures in
    let p = whole_popped s least in
    let h = whole_hand p in
    let plan = c.in_ok-plan.ensures.paths h.view (hand_whole p c.index-node.ensures) in
    let e = c.deref-in-Some-cause_to_stop.ensures.value in
    let conflict = c.in-Some-first_conflict.conflict in
    let first = c.in-Some-first_conflict.ensures in
    let at_cause : IsAtCause problem c.args.limit c.in_ok-lists-3.lists.items t.statuses.items c.in-Some-cause_to_stop.cause least.node.total = record {
      count = t.splits;
      view = h.view;
      at_node = at_popped c.requires.root p.popped h.is (subst (λ ps. All (λ path. length path ≤ most_path_cells) ps) plan c.in_ok-plan.ensures.short) c.loop-k.invariant.within (c.in_ok-lists-3.ensures p.popped.state.views p.whole);
      conflict = conflict;
      first = subst (λ ps. IsFirstConflict ps conflict) plan (record { has = first.some; earliest = first.first; ordered = first.ordered; least = first.least });
      met = c.in-Some-cause_to_stop.ensures.some;
    } in
    let bound : least.node.total ≡ c.index-node.result.now.total = ap (λ (n : WholeNode). n.total) (same_Some least.node c.index-node.result.now (sym least.is ∙ hand_is p c.index-node.ensures)) in
    IfOk-weaker c.stopped.result _ _ (λ outcome said. said problem c.args.limit (rw e (subst (λ b. IsAtCause problem c.args.limit c.in_ok-lists-3.lists.items t.statuses.items c.in-Some-cause_to_stop.cause b) bound at_cause))) c.stopped.ensures

pub split_whole-requires-clause-popped : goal.split_whole-requires-clause-popped
split_whole-requires-clause-popped c =
    let s = c.loop-k.invariant.state in
    let least = least_found c.deref-in-loop-k.ensures.value c.deref-in-loop-k-2.ensures.value c.in-Some.ensures in
    (least.node.total, whole_popped s least)

pub split_whole-requires-clause-meet : goal.split_whole-requires-clause-meet
split_whole-requires-clause-meet c node view node_is whole =
    let s = c.loop-k.invariant.state in
    let least = least_found c.deref-in-loop-k.ensures.value c.deref-in-loop-k-2.ensures.value c.in-Some.ensures in
    let same : node ≡ c.index-node.result.now = same_Some node c.index-node.result.now (sym node_is ∙ hand_is (whole_popped s least) c.index-node.ensures) in
    let plan : c.in_ok-plan.plan ≡ view.paths = c.in_ok-plan.ensures.paths view (subst (λ (n : WholeNode). IsWhole n view) same whole) in
    let conflict = c.in-Some-first_conflict.conflict in
    let first = c.in-Some-first_conflict.ensures in
    subst (λ ps. IsFirstConflict ps conflict) plan (record { has = first.some; earliest = first.first; ordered = first.ordered; least = first.least })
