use Rattle.std.proofs.Common.{length}
use Rattle.mapf_checker.specs.Conflicts.{AreInOneCell}
use Rattle.mapf_checker.proofs.ConflictLemmas.{none_of}
use Rattle.mapf_checker.proofs.conflicts.sharing_pair.Goals as goal

pub returns-clause-none : goal.returns-clause-none
returns-clause-none c = none_of c.first_pair.result (length c.args.paths.now) _ (AreInOneCell c.args.paths.now c.args.tick) (λ i j post here. let no = post.1 here in cc) c.first_pair.ensures.none
