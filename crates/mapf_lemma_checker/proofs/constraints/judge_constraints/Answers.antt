use Rattle.std.proofs.Common.{All, List, subst, arith}
use Rattle.std.proofs.lemmas.List.{take_all}
use Rattle.std.proofs.lemmas.List.Elements.{All-more}
use Rattle.mapf_lemmas.specs.declared.constraint.AgentConstraint.{AgentConstraint}
use Rattle.mapf_lemmas.specs.Constraints.{IsConstraintOn}
use Rattle.mapf_lemmas.specs.Lemmas.{AreConstraintsOn}
use Rattle.mapf_lemma_checker.proofs.constraints.judge_constraints.Goals as goal

pub loop-k-preserved : goal.loop-k-preserved
loop-k-preserved c =
    All-more (λ (own : AgentConstraint). IsConstraintOn c.args.grid.now own.constraint) c.args.constraints.now c.loop-k.k
    c.index-constraints-k.result (omega arith) c.loop-k.invariant
    (subst (λ (own : AgentConstraint). IsConstraintOn c.args.grid.now own.constraint) c.index-constraints-k.is
    (c.is_constraint_on.ensures.0 c.if-not-is_constraint_on.false))

pub returns-clause-ok : goal.returns-clause-ok
returns-clause-ok c =
    subst (AreConstraintsOn c.args.grid.now) (take_all c.loop-k.k c.args.constraints.now (omega arith)) c.loop-k.invariant
