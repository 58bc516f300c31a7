use Rattle.std.proofs.Common.{◌+◌, ◌<◌, refl, ap, sym, subst, ◌∙◌, slice_index_or, length, [], ◌∷◌, ◌++◌, arith}
use Rattle.std.proofs.lemmas.List.{get_or_default}
use Rattle.std.proofs.lemmas.List.Elements.{Contains-get_or}
use Rattle.mapf_model.specs.declared.state.State.{State}
use Rattle.mapf_spacetime.specs.Sweeps.{MeetsGoal}
use Rattle.mapf_spacetime.proofs.SweepInvariants.{AreKept}
use Rattle.mapf_spacetime.specs.Task.{IsBelow, start_of}
use Rattle.mapf_spacetime.proofs.SweptLemmas.{none_kept, kept_skip, kept_push, kept_swept, kept_holds}
use Rattle.mapf_spacetime.proofs.sweep.Sweep.keep_below.Goals as goal
use Rattle.mapf_spacetime.proofs.sweep.Sweep.keep_below.Goals.{then-is_below+in_ok-push, else-is_below}

pub is_below-requires : goal.is_below-requires
is_below-requires g c =
    let task = c.args.task.now in
    let states = c.self.inside.states.items in
    let k = c.loop-place.place in
    let inside : k < length states = omega arith in
    let read = c.index.ensures ∙ ap (λ l. slice_index_or l k c.index.result.now) c.loop-place.invariant.same ∙ get_or_default states k c.index.result.now (start_of task) inside in
    let m = subst (MeetsGoal task c.args.cost) (sym c.self.view_is) c.requires.meets in
    let (value, is, le) = m.reached.within (slice_index_or states k (start_of task)) (Contains-get_or states k (start_of task) inside) in
    let sum = is.sum in
    let tick = ap (λ (s : State). s.tick) read in
    let bound = ap (λ s. s.bound) c.self.view_is in
    let small = c.requires.small in
    omega arith

pub loop-place-init : goal.loop-place-init
loop-place-init g c = record { same = refl; kept = subst (AreKept c.args.task.now c.args.cost 0 c.self.inside.states.items) (sym c.clear.ensures.items) (none_kept c.args.task.now c.args.cost c.self.inside.states.items) }

pub loop-place-preserved : goal.loop-place-preserved
loop-place-preserved g c =
    let task = c.args.task.now in
    let states = c.self.inside.states.items in
    let h = c.loop-place.invariant in
    let k = c.loop-place.place in
    let inside : k < length states = omega arith in
    let read = c.index.ensures ∙ ap (λ l. slice_index_or l k c.index.result.now) h.same ∙ get_or_default states k c.index.result.now (start_of task) inside in
    let m = subst (MeetsGoal task c.args.cost) (sym c.self.view_is) c.requires.meets in
    elim c.if-is_below.branch [
      | then-is_below+in_ok-push w ↦
          let low = w.in_ok-push.ensures.items ∙ ap (λ s. c.loop-place.self-inside.low.items ++ s ∷ []) read in
          rw w.self-inside-is (record {
            same = h.same;
            kept = subst (AreKept task c.args.cost (k + 1) states) (sym low)
                (kept_push task c.args.cost k states c.loop-place.self-inside.low.items h.kept inside m.reached.rising (subst (IsBelow task c.args.cost) read (w.if-is_below.ensures.yes refl)));
          })
      | else-is_below w ↦
          rw w.self-inside-is (record {
            same = h.same;
            kept = kept_skip task c.args.cost k states c.loop-place.self-inside.low.items h.kept (λ below. w.if-is_below.ensures.no refl (subst (IsBelow task c.args.cost) (sym read) below));
          })
    ]

pub returns-clause-swept : goal.returns-clause-swept
returns-clause-swept g c =
    let task = c.args.task.now in
    let kept = subst (λ s. AreKept task c.args.cost c.loop-place.place s.states c.loop-place.self-inside.low.items) c.self.view_is c.loop-place.invariant.kept in
    let size = ap (λ s. length s.states) c.self.view_is in
    kept_swept task c.args.cost c.loop-place.place c.args.self.now c.loop-place.self-inside.low.items c.requires.meets kept (omega arith) (omega arith)

pub returns-clause-kept : goal.returns-clause-kept
returns-clause-kept g c =
    let task = c.args.task.now in
    let kept = subst (λ s. AreKept task c.args.cost c.loop-place.place s.states c.loop-place.self-inside.low.items) c.self.view_is c.loop-place.invariant.kept in
    let size = ap (λ s. length s.states) c.self.view_is in
    kept_holds task c.args.cost c.loop-place.place c.args.self.now.states c.loop-place.self-inside.low.items kept (omega arith)
