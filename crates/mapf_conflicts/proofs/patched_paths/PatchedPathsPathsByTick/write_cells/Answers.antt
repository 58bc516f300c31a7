use Rattle.std.proofs.Common.{length, sym, ◌∙◌, ap}
use Rattle.mapf_conflicts.proofs.ReplacementLemmas.{replaced_count}
use Rattle.mapf_conflicts.proofs.patched_paths.PatchedPathsPathsByTick.write_cells.Goals as goal

pub write_cells-requires-clause-size : goal.write_cells-requires-clause-size
write_cells-requires-clause-size c = c.requires ∙ sym (ap length c.self.view_is) ∙ replaced_count c.self.inside.base.now c.self.inside.replacements.now
