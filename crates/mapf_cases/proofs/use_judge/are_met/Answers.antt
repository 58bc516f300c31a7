use Rattle.std.proofs.Common.{All, List, refl, sym, ◌∙◌, subst, arith}
use Rattle.std.proofs.lemmas.Bool.{true≢false}
use Rattle.std.proofs.lemmas.List.{take_all}
use Rattle.std.proofs.lemmas.List.Elements.{All-more}
use Rattle.mapf_lemmas.specs.declared.constraint.AgentConstraint.{AgentConstraint}
use Rattle.mapf_lemmas.specs.Statements.{IsMet}
use Rattle.mapf_cases.specs.Standing.{constraints_after}
use Rattle.mapf_cases.proofs.use_judge.are_met.Goals as goal

pub returns-then-not-meets : goal.returns-then-not-meets
returns-then-not-meets c = (
  λ none. absurd cc,
  λ all. absurd (true≢false (sym (c.meets.ensures.1 (subst (λ (own : AgentConstraint). IsMet (constraints_after c.args.standing.now own.agent) own.constraint) (sym c.own-item.is) (all c.loop-own.own-index c.own-item.result (omega arith)))) ∙ c.if-not-meets.true)),
)

pub loop-own-preserved : goal.loop-own-preserved
loop-own-preserved c =
    All-more (λ (own : AgentConstraint). IsMet (constraints_after c.args.standing.now own.agent) own.constraint) c.args.constraints.now c.loop-own.own-index c.own-item.result (omega arith) c.loop-own.invariant
    (subst (λ (own : AgentConstraint). IsMet (constraints_after c.args.standing.now own.agent) own.constraint) c.own-item.is (c.meets.ensures.0 c.if-not-meets.false))

pub returns : goal.returns
returns c = (
  λ _. subst (λ (xs : List AgentConstraint). All (λ (own : AgentConstraint). IsMet (constraints_after c.args.standing.now own.agent) own.constraint) xs) (take_all c.loop-own.own-index c.args.constraints.now (omega arith)) c.loop-own.invariant,
  λ _. refl,
)
