use Rattle.std.proofs.Common.{◌≡◌, ◌==◌, ◌&&◌, find, drop}
use Rattle.mapf_model.specs.declared.label.Entry.{Entry}
use Rattle.mapf_spacetime.proofs.labels.entry_at.Given as goal

abbrev pub invariant-loop-entry : goal.invariant-loop-entry
invariant-loop-entry l =
    let is_at = λ (entry : Entry). (entry.cell == l.cell) && (entry.tick == l.tick) in
    find is_at l.entries ≡ find is_at (drop l.entry-index l.entries)
