use Rattle.std.proofs.Common.{length, ap, arith}
use Rattle.mapf_distance.proofs.TableLemmas.{AreMade-none}
use Rattle.mapf_distance.proofs.lazy_tables.LazyTables.of.Goals as goal

pub returns : goal.returns
returns c =
    let count = ap length c.agents-items.ensures.value in
    rw c.loop.invariant (AreMade-none c.args.problem.now c.loop.index (omega (arith, count, c.loop-test.false, c.loop.auto.index-end)))
