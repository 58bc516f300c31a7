use Rattle.mapf_model.specs.Grid.{IsGridMap}
use Rattle.mapf_app.proofs.CheckedLemmas.{prints}
use Rattle.mapf_app.proofs.checked.judged.Goals as goal

pub returns-in-Some-clause-prints : goal.returns-in-Some-clause-prints
returns-in-Some-clause-prints c =
    let is_grid : IsGridMap c.args.problem.now.grid = rw c.grid.ensures at c.width-width.ensures.shape in
    prints c.args.problem.now c.plans_are_spelled_apart.ensures is_grid c.args.answer c.args.claim c.args.parts.now c.in_ok-plan.plan.items c.in_ok-cert.cert.items c.in_ok-verdict.verdict c.requires
    (rw (c.grid-2.ensures, c.agents.ensures.value) at c.in_ok-plan.ensures)
    (rw (c.grid-3.ensures, c.agents.ensures.value) at c.in_ok-cert.ensures.text)
    (rw c.deref.ensures.value at c.in_ok-verdict.ensures.truth)
    (rw (c.deref.ensures.value, c.deref-2.ensures.value) at c.in_ok-verdict.ensures.accepted)
    c.in-Some.kind c.in-Some.ensures
