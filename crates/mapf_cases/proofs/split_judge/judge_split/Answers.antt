use Rattle.std.proofs.Common.{sym, ◌∙◌, subst}
use Rattle.std.proofs.lemmas.Bool.{true≢false}
use Rattle.mapf_cases.specs.Splits.{IsWellFormed}
use Rattle.mapf_cases.specs.Standing.{constraints_after}
use Rattle.mapf_cases.proofs.SplitLemmas.{proper}
use Rattle.mapf_cases.proofs.split_judge.judge_split.Goals as goal

pub returns-then-not-names_bound-clause-err : goal.returns-then-not-names_bound-clause-err
returns-then-not-names_bound-clause-err c scope are = (
  subst (λ p. IsWellFormed p c.args.split.now) (sym are.problem_is) (c.is_well_formed.ensures.0 c.if-not-is_well_formed.false),
  λ named. true≢false (sym ((c.names_bound.ensures scope are.known_is are.agents_are).1 named) ∙ c.if-not-names_bound.true),
)

pub returns-clause-ok : goal.returns-clause-ok
returns-clause-ok c scope are =
    proper c.args.problem.now c.args.known.now c.args.agents.now scope (constraints_after c.args.standing.now) c.args.split.now are
    (c.is_well_formed.ensures.0 c.if-not-is_well_formed.false) ((c.names_bound.ensures scope are.known_is are.agents_are).0 c.if-not-names_bound.false)
