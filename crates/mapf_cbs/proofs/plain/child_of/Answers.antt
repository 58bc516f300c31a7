use Rattle.std.proofs.Common.{◌≡◌, ◌-◌, ◌<◌, length, slice_set, sum, refl, ◌∙◌, subst, arith}
use Rattle.std.proofs.lemmas.Option.{slice_get_read}
use Rattle.mapf_model.specs.Grid.{GridMap}
use Rattle.mapf_spacetime.specs.Answer.{IsPathAnswer}
use Rattle.mapf_spacetime.specs.Task.{task_of}
use Rattle.mapf_cbs.specs.GeneratedChild.{IsTotal}
use Rattle.mapf_cbs.specs.Whole.{AreCopies}
use Rattle.mapf_cbs.proofs.GeneratedChildLemmas.{ends_there, old_within, generated, bars_with}
use Rattle.mapf_cbs.proofs.WholeLemmas.{whole_child, total_generated}
use Rattle.mapf_cbs.proofs.plain.child_of.Goals as goal

pub cost_of-old-requires : goal.cost_of-old-requires
cost_of-old-requires c =
    let l = c.requires.live in
    let agents = c.agents.ensures.value in
    let known = rw agents at (slice_get_read c.agents.result.now (length c.agents.result.now) c.args.constraint.agent c.index-agents-constraint.result refl (rw agents c.requires.known) c.index-agents-constraint.is) in
    let agent_paths = c.args.node.now.agent_paths.items in
    let here = slice_get_read agent_paths (length agent_paths) c.args.constraint.agent c.index-2.result.now refl (let a = c.requires.known in let b = c.requires.count in omega (arith, a, b)) c.index-2.ensures in
    ends_there c.args.problem.now l.0 l.2 c.args.constraint.agent c.index-agents-constraint.result known c.index-2.result.now.path (l.1.each c.args.constraint.agent c.index-2.result.now here).path

pub overflow_sub-node : goal.overflow_sub-node
overflow_sub-node c =
    let l = c.requires.live in
    let agents = c.agents.ensures.value in
    let known = rw agents at (slice_get_read c.agents.result.now (length c.agents.result.now) c.args.constraint.agent c.index-agents-constraint.result refl (rw agents c.requires.known) c.index-agents-constraint.is) in
    let agent_paths = c.args.node.now.agent_paths.items in
    let here = slice_get_read agent_paths (length agent_paths) c.args.constraint.agent c.index-2.result.now refl (let a = c.requires.known in let b = c.requires.count in omega (arith, a, b)) c.index-2.ensures in
    let h = old_within c.args.problem.now l.0 l.2 c.args.constraint.agent c.index-agents-constraint.result known c.index-2.result.now.path (l.1.each c.args.constraint.agent c.index-2.result.now here).path c.cost_of-old.result c.cost_of-old.ensures in
    let e = c.from.ensures in let t = l.1.total in
    omega (arith, h, e, t)

pub returns-clause-generated : goal.returns-clause-generated
returns-clause-generated c view whole live =
    let agents = c.agents.ensures.value in
    let known = rw agents at (slice_get_read c.agents.result.now (length c.agents.result.now) c.args.constraint.agent c.index-agents-constraint.result refl (rw agents c.requires.known) c.index-agents-constraint.is) in
    let agent_paths = c.args.node.now.agent_paths.items in
    let inside : c.args.constraint.agent < length agent_paths = (let a = c.requires.known in let b = c.requires.count in omega (arith, a, b)) in
    let first = whole.each c.args.constraint.agent c.index.result.now (slice_get_read agent_paths (length agent_paths) c.args.constraint.agent c.index.result.now refl inside c.index.ensures) in
    let path = (whole.each c.args.constraint.agent c.index-2.result.now (slice_get_read agent_paths (length agent_paths) c.args.constraint.agent c.index-2.result.now refl inside c.index-2.ensures)).path in
    let third = slice_get_read agent_paths (length agent_paths) c.args.constraint.agent c.index-3.result.now refl inside c.index-3.ensures in
    let same = bars_with (view.context.bars c.args.constraint.agent) c.index.result.now.bars c.in_ok-bars.bars c.args.constraint.bar first.bars c.in_ok-bars.ensures in
    let answer = subst (λ (m : GridMap). IsPathAnswer (task_of m c.index-agents-constraint.result c.in_ok-bars.bars) c.in_ok-found.found) c.grid.ensures (subst (λ task. IsPathAnswer task c.in_ok-found.found) c.of-task.ensures c.in_ok-found.ensures.answer) in
    let old = c.cost_of-old.result in
    let less = old_within c.args.problem.now view live c.args.constraint.agent c.index-agents-constraint.result known c.index-2.result.now.path path old c.cost_of-old.ensures in
    let rest : c.args.node.now.total - c.from.result ≡ sum view.costs - old = (let e = c.from.ensures in rw e (rw whole.total refl)) in
    let is_total : IsTotal c.in_ok-found.found c.index-agents-constraint.result.goal (sum view.costs - old) c.new_total-total.result = subst (λ r. IsTotal c.in_ok-found.found c.index-agents-constraint.result.goal r c.new_total-total.result) rest c.new_total-total.ensures in
    let b = generated c.args.problem.now view live c.args.constraint c.index-agents-constraint.result known c.in_ok-bars.bars same old c.index-2.result.now.path path c.cost_of-old.ensures c.in_ok-found.found answer c.new_total-total.result less is_total in
    record {
      found = c.in_ok-found.found;
      generated = b;
      whole = whole_child view c.args.node.now whole c.args.constraint c.in_ok-found.found b.child b.is_child c.in_ok-bars.bars same c.index-3.result.now third c.in_ok-agent_path.agent_path c.in_ok-agent_path.ensures c.in_ok-agent_paths.agent_paths
          (subst (λ rs. AreCopies (slice_set rs c.args.constraint.agent c.in_ok-agent_path.agent_path) c.in_ok-agent_paths.agent_paths.items) c.deref.ensures.value c.in_ok-agent_paths.ensures) c.of-bound.result c.of-bound.ensures.bound c.of-bound.ensures.small c.unwrap_or-sum.result
          (c.unwrap_or-sum.ensures ∙ total_generated c.args.problem.now view b.child c.args.constraint c.in_ok-found.found c.index-agents-constraint.result.goal (sum view.costs - old) c.new_total-total.result c.args.node.now.total b.is_child is_total b.state whole.total);
    }
