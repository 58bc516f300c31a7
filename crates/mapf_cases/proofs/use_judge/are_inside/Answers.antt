use Rattle.std.proofs.Common.{All, Contains, List, ℕ, refl, subst, arith}
use Rattle.std.proofs.lemmas.List.{take_all}
use Rattle.std.proofs.lemmas.List.Elements.{All-more}
use Rattle.mapf_cases.proofs.use_judge.are_inside.Goals as goal

pub loop-agent-preserved : goal.loop-agent-preserved
loop-agent-preserved c = All-more (Contains c.args.agents.now) c.args.named.now c.loop-agent.agent-index 0 (omega arith) c.loop-agent.invariant (c.has.ensures.0 c.if-not-has.false)

pub returns : goal.returns
returns c = (
  λ _. subst (λ (xs : List ℕ). All (Contains c.args.agents.now) xs) (take_all c.loop-agent.agent-index c.args.named.now (omega arith)) c.loop-agent.invariant,
  λ _. refl,
)
