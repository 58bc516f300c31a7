use Rattle.std.proofs.Common.{◌≡◌, ◌-◌, length, sum, refl, subst, arith}
use Rattle.std.proofs.lemmas.Option.{slice_get_read}
use Rattle.mapf_cbs.specs.GeneratedChild.{IsTotal}
use Rattle.mapf_cbs.proofs.OwnerLemmas.{path_by_owner}
use Rattle.mapf_cbs.proofs.GeneratedChildLemmas.{found_ends, ends_there, old_within, generated}
use Rattle.mapf_cbs.proofs.child.child.Goals as goal

pub path_at-requires-clause-inside : goal.path_at-requires-clause-inside
path_at-requires-clause-inside g c = (c.of.ensures c.args.nodes.now c.requires.owners).inside

pub cost_of-old-requires : goal.cost_of-old-requires
cost_of-old-requires g c =
    let l = c.requires.live in
    let agents = c.agents.ensures.value in
    let known = rw agents at (slice_get_read c.agents.result.now (length c.agents.result.now) c.args.constraint.agent c.index-agents-agent.result refl (rw agents c.requires.known) c.index-agents-agent.is) in
    let path = path_by_owner c.args.nodes.now c.args.owners.now.node c.args.constraint.agent c.of.result (c.of.ensures c.args.nodes.now c.requires.owners) c.path_at.result.now c.path_at.ensures l.0 l.1 l.2 l.3 in
    ends_there c.args.replanner.now.problem.now l.1 l.4 c.args.constraint.agent c.index-agents-agent.result known c.path_at.result.now path

pub overflow_sub-total : goal.overflow_sub-total
overflow_sub-total g c =
    let l = c.requires.live in
    let agents = c.agents.ensures.value in
    let known = rw agents at (slice_get_read c.agents.result.now (length c.agents.result.now) c.args.constraint.agent c.index-agents-agent.result refl (rw agents c.requires.known) c.index-agents-agent.is) in
    let path = path_by_owner c.args.nodes.now c.args.owners.now.node c.args.constraint.agent c.of.result (c.of.ensures c.args.nodes.now c.requires.owners) c.path_at.result.now c.path_at.ensures l.0 l.1 l.2 l.3 in
    let h = old_within c.args.replanner.now.problem.now l.1 l.4 c.args.constraint.agent c.index-agents-agent.result known c.path_at.result.now path c.cost_of-old.result c.cost_of-old.ensures in
    let e = c.from.ensures in let t = l.5 in
    omega (arith, h, e, t)

pub new_total-total-requires-clause-lawful : goal.new_total-total-requires-clause-lawful
new_total-total-requires-clause-lawful g c =
    let l = c.requires.live in
    let agents = c.agents.ensures.value in
    let known = rw agents at (slice_get_read c.agents.result.now (length c.agents.result.now) c.args.constraint.agent c.index-agents-agent.result refl (rw agents c.requires.known) c.index-agents-agent.is) in
    let f = c.in_ok-found.ensures.found c.index-agents-agent.result known l.0 l.1 l.2 l.3 in
    found_ends c.args.replanner.now.problem.now c.index-agents-agent.result f.0 c.in_ok-found.found f.2

pub returns-clause-generated : goal.returns-clause-generated
returns-clause-generated g c views view are is live total_is =
    let agents = c.agents.ensures.value in
    let known = rw agents at (slice_get_read c.agents.result.now (length c.agents.result.now) c.args.constraint.agent c.index-agents-agent.result refl (rw agents c.requires.known) c.index-agents-agent.is) in
    let path = path_by_owner c.args.nodes.now c.args.owners.now.node c.args.constraint.agent c.of.result (c.of.ensures c.args.nodes.now c.requires.owners) c.path_at.result.now c.path_at.ensures views view are is in
    let f = c.in_ok-found.ensures.found c.index-agents-agent.result known views view are is in
    let old = c.cost_of-old.result in
    let less = old_within c.args.replanner.now.problem.now view live c.args.constraint.agent c.index-agents-agent.result known c.path_at.result.now path old c.cost_of-old.ensures in
    let rest : c.args.total - c.from.result ≡ sum view.costs - old = (let e = c.from.ensures in rw e (rw total_is refl)) in
    generated c.args.replanner.now.problem.now view live c.args.constraint c.index-agents-agent.result known f.0 f.1 old c.path_at.result.now path c.cost_of-old.ensures
    c.in_ok-found.found f.2 c.new_total-total.result less
    (subst (λ r. IsTotal c.in_ok-found.found c.index-agents-agent.result.goal r c.new_total-total.result) rest c.new_total-total.ensures)
