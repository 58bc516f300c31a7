use Rattle.std.proofs.Common.{◌≡◌, ◌<◌, ◌≤◌, ⊎_elim, ap, sym, subst, ◌∙◌, slice_index_or, length, arith}
use Rattle.std.proofs.lemmas.Bool.{cases_lt}
use Rattle.std.proofs.lemmas.List.Elements.{Contains-get_or}
use Rattle.mapf_model.specs.Labels.{MayGo}
use Rattle.mapf_model.specs.declared.state.State.{State}
use Rattle.mapf_spacetime.specs.Task.{IsWithin, start_of}
use Rattle.mapf_spacetime.specs.Sweeps.{AreNext, IsNoted}
use Rattle.mapf_spacetime.proofs.SweepLemmas.{extended_trans, noted_kept, read_state}
use Rattle.mapf_spacetime.proofs.sweep.Sweep.follow_tick.Goals as goal

pub follow-requires-clause-next : goal.follow-requires-clause-next
follow-requires-clause-next g c =
    let task = c.args.task.now in
    let old = c.args.self.now in
    let k = c.loop-place.place in
    let size = ap (λ s. length s.states) c.self.view_is in
    let inside : k < length old.states = omega arith in
    let read = read_state task old c.loop-place.self c.loop-place.invariant.extended c.self-in-loop-place.inside.states.items k c.index.result.now (ap (λ s. s.states) c.self-in-loop-place.view_is) inside c.index.ensures in
    let first = ap (λ s. s.first) c.self.view_is in
    let from : old.first ≤ k = (let auto = c.loop-place.auto.place in omega arith) in
    let tick = ap (λ (s : State). s.tick) read ∙ c.requires.sweep.here k from inside in
    subst (λ n. AreNext task n c.loop-place.self) (sym tick) c.loop-place.invariant.next

pub follow-requires-clause-within : goal.follow-requires-clause-within
follow-requires-clause-within g c =
    let task = c.args.task.now in
    let old = c.args.self.now in
    let k = c.loop-place.place in
    let size = ap (λ s. length s.states) c.self.view_is in
    let inside : k < length old.states = omega arith in
    let read = read_state task old c.loop-place.self c.loop-place.invariant.extended c.self-in-loop-place.inside.states.items k c.index.result.now (ap (λ s. s.states) c.self-in-loop-place.view_is) inside c.index.ensures in
    subst (λ b. IsWithin task b c.index.result.now) (sym c.loop-place.invariant.extended.bound)
    (subst (IsWithin task old.bound) (sym read) (c.requires.sweep.reached.within (slice_index_or old.states k (start_of task)) (Contains-get_or old.states k (start_of task) inside)))

pub follow-requires-clause-free : goal.follow-requires-clause-free
follow-requires-clause-free g c none other step =
    let task = c.args.task.now in
    let old = c.args.self.now in
    let k = c.loop-place.place in
    let size = ap (λ s. length s.states) c.self.view_is in
    let inside : k < length old.states = omega arith in
    let read = read_state task old c.loop-place.self c.loop-place.invariant.extended c.self-in-loop-place.inside.states.items k c.index.result.now (ap (λ s. s.states) c.self-in-loop-place.view_is) inside c.index.ensures in
    let first = ap (λ s. s.first) c.self.view_is in
    let from : old.first ≤ k = (let auto = c.loop-place.auto.place in omega arith) in
    let tick = ap (λ (s : State). s.tick) read ∙ c.requires.sweep.here k from inside in
    subst (MayGo task.grid task.bars c.index.result.now.cell other) (ap (λ s. s.tick) c.self.view_is ∙ sym tick) (c.may_bar-is_barred.ensures none c.index.result.now.cell other step)

pub loop-place-preserved : goal.loop-place-preserved
loop-place-preserved g c =
    let task = c.args.task.now in
    let old = c.args.self.now in
    let now = c.loop-place.self in
    let new = c.follow.new.self in
    let h = c.loop-place.invariant in
    let k = c.loop-place.place in
    let size = ap (λ s. length s.states) c.self.view_is in
    let inside : k < length old.states = omega arith in
    let read = read_state task old now h.extended c.self-in-loop-place.inside.states.items k c.index.result.now (ap (λ s. s.states) c.self-in-loop-place.view_is) inside c.index.ensures in
    let first = ap (λ s. s.first) c.self.view_is in
    let from : old.first ≤ k = (let auto = c.loop-place.auto.place in omega arith) in
    let tick = ap (λ (s : State). s.tick) read ∙ c.requires.sweep.here k from inside in
    record {
      next = subst (λ n. AreNext task n new) tick c.follow.ensures.next;
      extended = extended_trans old now new h.extended c.follow.ensures.extended;
      noted = λ j le less to. ⊎_elim
          (λ (before : j < k). noted_kept task now new c.follow.ensures.extended (slice_index_or old.states j (start_of task)) to (h.noted j le before to))
          (λ (here : k ≤ j).
          let same : k ≡ j = omega arith in
          subst (λ n. IsNoted task new (slice_index_or old.states n (start_of task)) to) same (subst (λ s. IsNoted task new s to) read (c.follow.ensures.noted to)))
          (cases_lt j k);
    }

pub returns-clause-noted : goal.returns-clause-noted
returns-clause-noted g c k le less to = c.loop-place.invariant.noted k le (let size = ap (λ s. length s.states) c.self.view_is in omega arith) to
