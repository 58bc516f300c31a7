use Rattle.std.proofs.Common.{Option, None, Some, IfNone}
use Rattle.mapf_checker.proofs.ConflictLemmas.{apart_at}
use Rattle.mapf_checker.proofs.conflicts.conflict_at.Goals as goal

on_none : {X P : Type 0} (found : Option X) → P → IfNone found P
on_none None p = p
on_none (Some x) p = tt

pub returns-in_err-i-clause-none : goal.returns-in_err-i-clause-none
returns-in_err-i-clause-none c = on_none c.from_residual.result (apart_at c.args.paths.now c.args.tick c.in_default.ensures.none c.in_err-i.ensures.none)
