use Rattle.std.proofs.Common.{◌<◌, get_or, length, arith}
use Rattle.mapf_model.proofs.PlaceLemmas.{length-slice_set}
use Rattle.mapf_cases.proofs.UseLemmas.{mark_more, mark_all}
use Rattle.mapf_cases.proofs.scope_agents.ScopeAgents.of.Goals as goal

pub loop-agent-preserved : goal.loop-agent-preserved
loop-agent-preserved c =
    let value = c.deref-agent-items.ensures.value in
    let at : get_or c.deref-agent-items.result.now c.loop-agent.agent-index 0 < length c.loop-agent.marks.items =
    rw value (omega (arith, c.requires c.loop-agent.agent-index 0 (omega (arith, c.deref-agent-items.ensures.len)), c.loop-agent.invariant.count)) in
    record {
      count = rw length-slice_set c.loop-agent.invariant.count;
      marks = mark_more c.deref-agent-items.result.now c.loop-agent.marks.items c.loop-agent.agent-index (omega arith) at c.loop-agent.invariant.marks;
    }

pub invariant_of-result : goal.invariant_of-result
invariant_of-result c = mark_all c.args.agents.items c.loop-agent.marks.items c.loop-agent.agent-index (omega (arith, c.deref-agent-items.ensures.len)) (rw c.deref-agent-items.ensures.value at c.loop-agent.invariant.marks)
