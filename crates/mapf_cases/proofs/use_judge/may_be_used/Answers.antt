use Rattle.std.proofs.Common.{sym, ◌∙◌}
use Rattle.std.proofs.lemmas.Bool.{true≢false}
use Rattle.mapf_cases.specs.Standing.{constraints_after}
use Rattle.mapf_cases.proofs.UseLemmas.{usable, usable_inside, usable_met}
use Rattle.mapf_cases.proofs.use_judge.may_be_used.Goals as goal

pub returns-then-are_inside : goal.returns-then-are_inside
returns-then-are_inside c scope same =
    let constraints = constraints_after c.args.standing.now in
    let inside = rw c.deref.ensures.value at (c.are_inside.ensures.0 c.if-are_inside.true) in
    let met = rw c.deref-then-are_inside.ensures.value at c.are_met.ensures in
    rw (← c.statement.view_is) (
      λ all. usable scope constraints _ c.args.agents.now same inside (met.0 all),
      λ may. met.1 (usable_met scope constraints _ c.args.agents.now same may),
    )

pub returns-else-are_inside : goal.returns-else-are_inside
returns-else-are_inside c scope same =
    let constraints = constraints_after c.args.standing.now in
    let inside = rw c.deref.ensures.value at c.are_inside.ensures in
    rw (← c.statement.view_is) (
      λ all. absurd (true≢false (sym all ∙ c.if-are_inside.false)),
      λ may. inside.1 (usable_inside scope constraints _ c.args.agents.now same may),
    )
