use Rattle.std.proofs.Common.{◌<◌, length, ap, arith}
use Rattle.mapf_checker.specs.Branch.{place_of}
use Rattle.mapf_checker.proofs.StartLemmas.{start_more}
use Rattle.mapf_checker.proofs.leaf.start_total.Goals as goal

pub loop-i-preserved : goal.loop-i-preserved
loop-i-preserved c =
    let inside : c.loop-i.i < length c.args.node.now.problem.now.agents = omega (arith, ap length c.agents-count.ensures.value) in
    record {
      labels = rw (c.ticks_of-sum.ensures.ticks, c.is_ticks-is_finite.ensures) (start_more c.args.node.now.problem.now c.args.blocks.now (place_of c.args.node.now.branch.now).here.entries c.loop-i.i c.loop-i.is_finite c.loop-i.sum c.start_label-label.result.0 inside c.loop-i.invariant.labels c.start_label-label.ensures.label);
      bound = omega (arith, c.loop-i.invariant.bound, c.ticks_of-sum.ensures.bound);
      cut = c.start_label-label.ensures.cut;
    }
