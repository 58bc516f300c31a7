use Rattle.std.proofs.Common.{◌≡◌, ℕ, ◌+◌, ◌<◌, ◌≤◌, ◌∙◌, Some, None, Contains, ⊎_elim, ap, sym, subst, length, slice_index_or, arith}
use Rattle.std.proofs.lemmas.Bool.{cases_lt}
use Rattle.std.proofs.lemmas.List.{get_or_default}
use Rattle.std.proofs.lemmas.Option.{same_Some}
use Rattle.mapf_model.proofs.StepLemmas.{step_neighbour}
use Rattle.mapf_spacetime.specs.Task.{IsWithin}
use Rattle.mapf_spacetime.specs.Sweeps.{IsNoted}
use Rattle.mapf_spacetime.proofs.SweepLemmas.{extended_self, extended_trans, noted_kept}
use Rattle.mapf_spacetime.proofs.ValueLemmas.{value_free}
use Rattle.mapf_spacetime.proofs.sweep.Sweep.follow.Goals as goal
use Rattle.mapf_spacetime.proofs.sweep.Sweep.follow.Goals.{in-Some, in_default}

pub beside-place-items-requires : goal.beside-place-items-requires
beside-place-items-requires g c = let (value, is, le) = c.requires.within in value_free c.args.task.now c.args.from.now value is

pub loop-place-init : goal.loop-place-init
loop-place-init g c = record {
  next = c.requires.next;
  extended = extended_self c.args.self.now;
  noted = λ place to none. absurd (omega arith);
}

pub note-requires-clause-reached : goal.note-requires-clause-reached
note-requires-clause-reached g c = subst (λ l. Contains l c.args.from.now) (sym c.loop-place.invariant.extended.states) c.requires.reached

pub note-requires-clause-within : goal.note-requires-clause-within
note-requires-clause-within g c = subst (λ b. IsWithin c.args.task.now b c.args.from.now) (sym c.loop-place.invariant.extended.bound) c.requires.within

pub note-requires-clause-beside : goal.note-requires-clause-beside
note-requires-clause-beside g c =
    let items = c.beside-place-items.result in
    let to = c.in-Some.to in
    let five = ap length c.beside-place-items.ensures.cells in
    let within : c.loop-place.place-index < length items = omega arith in
    let held : Contains items (Some to) = (c.loop-place.place-index, within, get_or_default items c.loop-place.place-index (Some to) c.place-item.result within ∙ c.in-Some.is) in
    subst (λ places. Contains places (Some to)) c.beside-place-items.ensures.cells held

pub note-requires-clause-room : goal.note-requires-clause-room
note-requires-clause-room g c = let same = c.loop-place.invariant.extended.room in let room = c.requires.room in omega arith

pub loop-place-preserved : goal.loop-place-preserved
loop-place-preserved g c =
    let task = c.args.task.now in
    let from = c.args.from.now in
    let items = c.beside-place-items.result in
    let index = c.loop-place.place-index in
    let five = ap length c.beside-place-items.ensures.cells in
    let within : index < length items = omega arith in
    let here : (place to : ℕ) → place < index + 1 → index ≤ place → slice_index_or items place None ≡ Some to → slice_index_or items index c.place-item.result ≡ Some to =
    λ place to below past is. (
    let same : place ≡ index = omega arith in
    get_or_default items index c.place-item.result None within ∙ subst (λ n. slice_index_or items n None ≡ Some to) same is) in
    elim c.match-place.branch [
      | in-Some w ↦
          let did = w.note.ensures in
          rw w.self-is (record {
            next = did.next;
            extended = extended_trans c.args.self.now c.loop-place.self w.note.new.self c.loop-place.invariant.extended did.extended;
            noted = λ place to below is. ⊎_elim
                (λ (earlier : place < index). noted_kept task c.loop-place.self w.note.new.self did.extended from to (c.loop-place.invariant.noted place to earlier is))
                (λ (past : index ≤ place).
                let at = same_Some w.in-Some.to to (sym w.in-Some.is ∙ here place to below past is) in
                subst (IsNoted task w.note.new.self from) at did.noted)
                (cases_lt place index);
          })
      | in_default w ↦
          rw w.self-is (record {
            next = c.loop-place.invariant.next;
            extended = c.loop-place.invariant.extended;
            noted = λ place to below is. ⊎_elim
                (λ (earlier : place < index). c.loop-place.invariant.noted place to earlier is)
                (λ (past : index ≤ place). absurd (w.in_default.not-Some to (here place to below past is)))
                (cases_lt place index);
          })
    ]

pub returns-clause-noted : goal.returns-clause-noted
returns-clause-noted g c to may =
    let task = c.args.task.now in
    let from = c.args.from.now in
    let items = c.beside-place-items.result in
    let (value, is, le) = c.requires.within in
    let beside = step_neighbour task.grid from.cell c.beside-place-items.ensures.wide (value_free task from value is) to may.step in
    let (place, within, at) = subst (λ places. Contains places (Some to)) (sym c.beside-place-items.ensures.cells) beside in
    let five = ap length c.beside-place-items.ensures.cells in
    c.loop-place.invariant.noted place to (omega arith) (get_or_default items place None (Some to) within ∙ at) may
