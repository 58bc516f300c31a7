use Rattle.std.proofs.Common.{length, sym, ◌∙◌, ap}
use Rattle.mapf_conflicts.proofs.ReplacementLemmas.{replaced_count}
use Rattle.mapf_conflicts.proofs.patched_paths.PatchedPathsPathsByTick.count.Goals as goal

pub returns : goal.returns
returns c = c.count.ensures ∙ sym (replaced_count c.self.inside.base.now c.self.inside.replacements.now) ∙ ap length c.self.view_is
