use Rattle.std.proofs.Common.{◌<◌, length, arith}
use Rattle.mapf_spacetime.proofs.StampLemmas.{note_last, note_of_base}
use Rattle.mapf_spacetime.proofs.reached.Reached.note.Goals as goal

pub invariant_of-self : goal.invariant_of-self
invariant_of-self c =
    let inside = c.self.inside in
    let cell = c.cell.inside.0 in
    let (last, of_base, is_base) = c.self.invariant in
    let held = rw (← c.self.view_is, ← c.cell.view_is) at c.requires.reached in
    let before = c.if-place-len.true in
    let len = c.len.ensures in
    let within : cell < length inside.stamps.items = omega arith in (
      note_last inside.base inside.stamps.items cell c.args.tick within inside.states.items held last,
      note_of_base inside.base inside.stamps.items cell c.args.tick within c.requires.small of_base,
      is_base,
    )
