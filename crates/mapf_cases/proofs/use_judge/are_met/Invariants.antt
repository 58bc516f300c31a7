use Rattle.std.proofs.Common.{All, take}
use Rattle.mapf_lemmas.specs.declared.constraint.AgentConstraint.{AgentConstraint}
use Rattle.mapf_lemmas.specs.Statements.{IsMet}
use Rattle.mapf_cases.specs.Standing.{constraints_after}
use Rattle.mapf_cases.proofs.use_judge.are_met.Given as goal

abbrev pub invariant-loop-own : goal.invariant-loop-own
invariant-loop-own l =
    All (λ (own : AgentConstraint). IsMet (constraints_after l.standing own.agent) own.constraint) (take l.own-index l.constraints)
