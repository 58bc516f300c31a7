use Rattle.std.proofs.Common.{◌≡◌, subst, arith}
use Rattle.mapf_model.specs.Conflicts.{AreConflictFreeBefore}
use Rattle.mapf_model.proofs.ConflictLemmas.{free_one_more, none_after}
use Rattle.mapf_checker.proofs.conflicts.first_conflict.Goals as goal

pub loop-tick-preserved : goal.loop-tick-preserved
loop-tick-preserved c = free_one_more c.args.paths.now c.loop-tick.tick c.loop-tick.invariant c.in_default.ensures.none

pub returns-clause-none : goal.returns-clause-none
returns-clause-none c =
    let end = c.longest-tick-end.result in
    let all : c.loop-tick.tick ≡ end = omega arith in
    none_after c.args.paths.now end c.longest-tick-end.ensures.positive c.longest-tick-end.ensures.longest (subst (AreConflictFreeBefore c.args.paths.now) all c.loop-tick.invariant)
