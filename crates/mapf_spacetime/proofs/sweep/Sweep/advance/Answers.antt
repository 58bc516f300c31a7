use Rattle.std.proofs.Common.{◌≡◌, ◌+◌, ◌<◌, ◌≤◌, ℕ, refl, ap, sym, subst, ◌∙◌, slice_index_or, length, rules, arith}
use Rattle.mapf_spacetime.specs.CellSets.{HasNumber, HasNone}
use Rattle.mapf_spacetime.specs.Sweeps.{Sweeping, AreNext, AreStatesAt, IsExtended, IsNoted, IsSweep, MeetsGoal}
use Rattle.mapf_spacetime.specs.Task.{IsBarredLater, MayRestFrom, start_of}
use Rattle.mapf_spacetime.proofs.SweepLemmas.{last_tick, meets, meets_then, next_sweep}
use Rattle.mapf_spacetime.proofs.sweep.Sweep.advance.Goals as goal

pub follow_tick-requires-clause-small : goal.follow_tick-requires-clause-small
follow_tick-requires-clause-small g c =
    let sweep = c.args.self.now in
    let last = last_tick c.args.task.now sweep.tick sweep.first sweep c.requires.goes.reached c.requires.some in
    let small = c.requires.small in
    omega arith

pub overflow_add-self : goal.overflow_add-self
overflow_add-self g c =
    let sweep = c.args.self.now in
    let last = last_tick c.args.task.now sweep.tick sweep.first sweep c.requires.goes.reached c.requires.some in
    let small = c.requires.small in
    let tick : c.self-2.inside.tick ≡ sweep.tick = ap (λ s. s.tick) c.self-2.view_is ∙ c.follow_tick.ensures.extended.tick in
    search rules

pub returns-then-arrives-clause-arrives : goal.returns-then-arrives-clause-arrives
returns-then-arrives-clause-arrives g c there =
    let task = c.args.task.now in
    let old = c.args.self.now in
    let inside = c.self-2.inside in
    let now : Sweeping = record { states = inside.states.items; low = inside.low.items; next_cells = inside.next_cells; bound = inside.bound; is_cut = inside.is_cut; first = inside.first; tick = inside.tick } in
    let did = c.follow_tick.ensures in
    let extended : IsExtended old now = subst (IsExtended old) (sym c.self-2.view_is) did.extended in
    let next : AreNext task old.tick now = subst (AreNext task old.tick) (sym c.self-2.view_is) did.next in
    let noted : (k : ℕ) → old.first ≤ k → k < length old.states → (to : ℕ) → IsNoted task now (slice_index_or old.states k (start_of task)) to =
    subst (λ s. (k : ℕ) → old.first ≤ k → k < length old.states → (to : ℕ) → IsNoted task s (slice_index_or old.states k (start_of task)) to) (sym c.self-2.view_is) did.noted in
    let rest = c.if-arrives.ensures.rest refl in
    let now_is = extended.tick in
    meets_then task (inside.tick + 1) (inside.tick + 1) now
    (subst (λ n. MeetsGoal task (n + 1) now) (sym now_is)
    (meets task old.tick old.first old now c.requires.goes.reached extended next noted (c.if-arrives.ensures.goal refl) (subst (λ n. MayRestFrom task (n + 1)) now_is rest)))

pub returns-clause-goes : goal.returns-clause-goes
returns-clause-goes g c nowhere =
    let task = c.args.task.now in
    let old = c.args.self.now in
    let inside = c.self-2.inside in
    let now : Sweeping = record { states = inside.states.items; low = inside.low.items; next_cells = inside.next_cells; bound = inside.bound; is_cut = inside.is_cut; first = inside.first; tick = inside.tick } in
    let last = c.self-3.inside in
    let after : Sweeping = record { states = last.states.items; low = last.low.items; next_cells = last.next_cells; bound = last.bound; is_cut = last.is_cut; first = c.len-end.result; tick = last.tick } in
    let did = c.follow_tick.ensures in
    let extended : IsExtended old now = subst (IsExtended old) (sym c.self-2.view_is) did.extended in
    let next : AreNext task old.tick now = subst (AreNext task old.tick) (sym c.self-2.view_is) did.next in
    let noted : (k : ℕ) → old.first ≤ k → k < length old.states → (to : ℕ) → IsNoted task now (slice_index_or old.states k (start_of task)) to =
    subst (λ s. (k : ℕ) → old.first ≤ k → k < length old.states → (to : ℕ) → IsNoted task s (slice_index_or old.states k (start_of task)) to) (sym c.self-2.view_is) did.noted in
    let now_is = extended.tick in
    let got = c.in_ok-reach.ensures in
    let (added, at, states) = got.reached in
    let size = ap (λ s. length s.states) c.self.view_is in
    let end : length old.states ≡ c.len-end.result = (let len = c.len-end.ensures in omega arith) in
    let tick : old.tick + 1 ≡ last.tick = (let a = ap (λ s. s.tick) c.self-3.view_is in let b = got.tick in omega arith) in
    let swept = next_sweep task old.tick old.first old now c.requires.goes.reached extended next noted after added
    (subst (λ n. AreStatesAt (n + 1) now.next_cells added) now_is at)
    (ap (λ s. s.states) c.self-3.view_is ∙ states)
    (ap (λ s. s.bound) c.self-3.view_is ∙ got.bound)
    (ap (λ s. s.is_cut) c.self-3.view_is ∙ got.cut)
    (subst (λ n. HasNumber now.next_cells task.goal → IsBarredLater task (n + 1)) now_is (c.if-arrives.ensures.no refl)) in
    record {
      reached = subst (λ n. IsSweep task n c.len-end.result after) tick (subst (λ n. IsSweep task (old.tick + 1) n after) end swept);
      none = subst (λ s. HasNone s.next_cells) (sym c.self-3.view_is) got.none;
      room = (let a = ap (λ s. length s.next_cells) c.self-3.view_is in let b = got.room in let d = extended.room in let r = c.requires.goes.room in omega arith);
    }
