use Rattle.std.proofs.Common.{◌≡◌, length, refl, sym, ◌∙◌, subst}
use Rattle.std.proofs.lemmas.Option.{slice_get_read, same_Some}
use Rattle.std.proofs.lemmas.Result.{IfOk-weaker}
use Rattle.mapf_model.specs.declared.problem.Agent.{Agent}
use Rattle.mapf_model.specs.Grid.{GridMap}
use Rattle.mapf_spacetime.specs.Answer.{IsPathAnswer}
use Rattle.mapf_spacetime.specs.Task.{task_of}
use Rattle.mapf_cbs.proofs.OwnerLemmas.{bars_by_owner}
use Rattle.mapf_cbs.proofs.GeneratedChildLemmas.{bars_with}
use Rattle.mapf_cbs.proofs.child.search_under.Goals as goal

pub add-requires-clause-early : goal.add-requires-clause-early
add-requires-clause-early g c = c.requires.bar.0

pub add-requires-clause-bar : goal.add-requires-clause-bar
add-requires-clause-bar g c = c.requires.bar.1

pub gather_bars-requires-clause-inside : goal.gather_bars-requires-clause-inside
gather_bars-requires-clause-inside g c = (c.of.ensures c.args.nodes.now c.requires.owners).inside

pub of-task-requires-clause-grid : goal.of-task-requires-clause-grid
of-task-requires-clause-grid g c =
    let agents = c.agents.ensures.value in
    let known = rw agents at (slice_get_read c.agents.result.now (length c.agents.result.now) c.args.constraint.agent c.index-agents-constraint.result refl (rw agents c.requires.known) c.index-agents-constraint.is) in
    (c.in_ok-make.ensures.tables.made c.args.constraint.agent c.index-agents-constraint.result c.get-distances.result.now known c.get-distances.ensures).0 ∙ sym c.grid.ensures

pub of-task-requires-clause-goal : goal.of-task-requires-clause-goal
of-task-requires-clause-goal g c =
    let agents = c.agents.ensures.value in
    let known = rw agents at (slice_get_read c.agents.result.now (length c.agents.result.now) c.args.constraint.agent c.index-agents-constraint.result refl (rw agents c.requires.known) c.index-agents-constraint.is) in
    (c.in_ok-make.ensures.tables.made c.args.constraint.agent c.index-agents-constraint.result c.get-distances.result.now known c.get-distances.ensures).1

pub returns-clause-found : goal.returns-clause-found
returns-clause-found g c = IfOk-weaker c.search_expecting.result _ _ (λ found is who known views view are view_is.
    let agents = c.agents.ensures.value in
    let read = slice_get_read c.agents.result.now (length c.agents.result.now) c.args.constraint.agent c.index-agents-constraint.result refl (rw agents c.requires.known) c.index-agents-constraint.is in
    let same : c.index-agents-constraint.result ≡ who = same_Some c.index-agents-constraint.result who (sym (rw agents at read) ∙ known) in (
      g.B.BarTable.bars c.add.new.self,
      bars_with (view.context.bars c.args.constraint.agent) (g.B.BarTable.bars c.gather_bars.new.table) (g.B.BarTable.bars c.add.new.self) c.args.constraint.bar (bars_by_owner c.args.nodes.now c.args.owners.now.node c.args.constraint.agent c.of.result (c.of.ensures c.args.nodes.now c.requires.owners) (g.B.BarTable.bars c.gather_bars.new.table) c.in_ok-gather_bars.ensures views view are view_is) c.in_ok-add.ensures.added,
      subst (λ (a : Agent). IsPathAnswer (task_of c.args.replanner.now.problem.now.grid a (g.B.BarTable.bars c.add.new.self)) found) same
          (subst (λ (m : GridMap). IsPathAnswer (task_of m c.index-agents-constraint.result (g.B.BarTable.bars c.add.new.self)) found) c.grid.ensures (subst (λ task. IsPathAnswer task found) c.of-task.ensures is)),
    ))
    c.search_expecting.ensures.answer
