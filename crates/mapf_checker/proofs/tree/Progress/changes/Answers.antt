use Rattle.mapf_checker.specs.Progress.{here_of}
use Rattle.mapf_checker.proofs.BlockLemmas.{blocks_sound}
use Rattle.mapf_checker.proofs.tree.Progress.changes.Goals as goal

pub returns-clause-sound : goal.returns-clause-sound
returns-clause-sound c = blocks_sound c.args.problem.now (here_of c.args.self.now) c.args.blocks.now (rw c.see_to_blocks.ensures.edges at c.in_default.ensures.ok)
