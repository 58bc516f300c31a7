use Rattle.std.proofs.Common.{◌∷◌, [], ◌++◌, ◌≤◌, codes, length, length-append, arith, ap, ◌∙◌}
use Rattle.mapf_player.proofs.CycleLemmas.{cycle_end, cycle_more, cycles_all, cycles_first, cycles_with, cycles_without}
use Rattle.mapf_player.proofs.DueLemmas.{of_valid_progress}
use Rattle.mapf_player.proofs.cycles.push_cycles.Goals as goal
use Rattle.mapf_player.proofs.cycles.push_cycles.Goals.{then-is_in_cycle, else-is_in_cycle}

pub loop-agent-init : goal.loop-agent-init
loop-agent-init c = record {
  agents = [];
  are = cycles_first c.args.dispatch.now;
  text = c.push_bytes.ensures;
  short = omega (arith, ap length c.push_bytes.ensures, length-append c.args.page.now (codes "cycle"));
}

pub loop-agent-preserved : goal.loop-agent-preserved
loop-agent-preserved c =
    let so_far = c.loop-agent.invariant in
    elim c.if-is_in_cycle.branch [
      | then-is_in_cycle w ↦ record {
        agents = so_far.agents ++ c.loop-agent.agent ∷ [];
        are = cycles_with c.args.dispatch.now c.loop-agent.agent so_far.agents so_far.are (c.is_in_cycle.ensures.0 w.if-is_in_cycle.true);
        text = cycle_more c.args.page.now c.loop-agent.page c.if-is_in_cycle.page so_far.agents c.loop-agent.agent w.from.result so_far.text w.from.ensures (w.page-is ∙ w.push_field.ensures.text);
        short = omega (arith, ap length w.page-is, w.push_field.ensures.short, so_far.short);
      }
      | else-is_in_cycle w ↦ record {
        agents = so_far.agents;
        are = cycles_without c.args.dispatch.now c.loop-agent.agent so_far.agents so_far.are (λ cycle. let yes = c.is_in_cycle.ensures.1 cycle in let no = w.if-is_in_cycle.false in cc);
        text = w.page-is ∙ so_far.text;
        short = omega (arith, ap length w.page-is, so_far.short);
      }
    ]

pub returns : goal.returns
returns c =
    let so_far = c.loop-agent.invariant in
    let progress = (of_valid_progress c.args.dispatch.now c.agents-agent-end.ensures.valid).0 in
    let all : length c.args.dispatch.now.numbers ≤ c.loop-agent.agent = omega arith in
    (so_far.agents, cycles_all c.args.dispatch.now progress so_far.agents c.loop-agent.agent all so_far.are, cycle_end c.args.page.now c.loop-agent.page c.push_byte.new.self so_far.agents so_far.text c.push_byte.ensures)
