use Rattle.std.proofs.Common.{◌∙◌, arith}
use Rattle.mapf_player.proofs.RowLemmas.{AreMarked-none, AreMarked-all, step_here, step_elsewhere}
use Rattle.mapf_player.proofs.row.mark_agents.Goals as goal
use Rattle.mapf_player.proofs.row.mark_agents.Goals.{else-first-cell-via-then-first-cell+else-cell-first, else-first-cell-via-else-first-cell}

pub loop-agent-init : goal.loop-agent-init
loop-agent-init c = record { within = omega arith; marked = AreMarked-none c.args.grid.now.width c.args.y c.args.paths.now c.args.tick c.args.row.now }

pub loop-agent-preserved-then-cell-first : goal.loop-agent-preserved-then-cell-first
loop-agent-preserved-then-cell-first c = record {
  within = omega arith;
  marked = rw c.width-width.ensures.width (step_here c.args.grid.now.width c.args.y c.loop-agent.agent c.args.paths.now c.index-paths-agent.result c.args.tick c.cell.inside.0 c.args.row.now c.loop-agent.row (omega arith) (c.loop-agent.auto.row ∙ c.requires.whole) c.loop-agent-test.true c.loop-agent.invariant.within c.index-paths-agent.is (c.cell.view_is ∙ c.at-cell.ensures) c.loop-agent.invariant.marked _ c.mark_of.ensures (rw c.width-width.ensures.width at c.if-first-cell.true) (rw c.width-width.ensures.width at c.if-cell-first.true));
}

pub loop-agent-preserved : goal.loop-agent-preserved
loop-agent-preserved c = record {
  within = omega arith;
  marked = step_elsewhere c.args.grid.now.width c.args.y c.loop-agent.agent c.args.paths.now c.index-paths-agent.result c.args.tick c.cell.inside.0 c.args.row.now c.loop-agent.row (omega arith) (c.loop-agent.auto.row ∙ c.requires.whole) c.loop-agent-test.true c.loop-agent.invariant.within c.index-paths-agent.is (c.cell.view_is ∙ c.at-cell.ensures) c.loop-agent.invariant.marked
      (λ from below. elim c.else-first-cell.branch [
        | else-first-cell-via-then-first-cell+else-cell-first w ↦ let past = rw c.width-width.ensures.width at w.if-cell-first.false in omega arith
        | else-first-cell-via-else-first-cell w ↦ let before = rw c.width-width.ensures.width at w.if-first-cell.false in omega arith
      ]);
}

pub returns : goal.returns
returns c = AreMarked-all c.args.grid.now.width c.args.y c.loop-agent.agent c.args.paths.now c.args.tick c.args.row.now c.loop-agent.row c.loop-agent-test.false c.loop-agent.invariant.marked
