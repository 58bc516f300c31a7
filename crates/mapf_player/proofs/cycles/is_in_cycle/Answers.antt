use Rattle.std.proofs.Common.{◌≤◌, length, arith, refl, subst}
use Rattle.mapf_player.specs.Cycles.{IsHeldBy}
use Rattle.mapf_player.proofs.CycleLemmas.{walked_all, walked_more, walked_round, walked_to_end}
use Rattle.mapf_player.proofs.DueLemmas.{of_valid_progress}
use Rattle.mapf_player.proofs.cycles.is_in_cycle.Goals as goal

pub returns-in_default : goal.returns-in_default
returns-in_default c = (λ no. absurd cc, λ cycle. absurd (walked_to_end c.args.dispatch.now c.args.agent c.loop-step.last c.loop-step._step c.loop-step.invariant c.in_default.ensures.held cycle))

pub returns-then-next-agent : goal.returns-then-next-agent
returns-then-next-agent c = (λ yes. walked_round c.args.dispatch.now c.args.agent c.loop-step.last c.loop-step._step c.loop-step.invariant (subst (IsHeldBy c.args.dispatch.now c.loop-step.last) c.if-next-agent.true c.in-Some.ensures.held), λ cycle. refl)

pub loop-step-preserved : goal.loop-step-preserved
loop-step-preserved c = walked_more c.args.dispatch.now c.args.agent c.loop-step.last c.in-Some.next c.loop-step._step c.loop-step.invariant c.in-Some.ensures.held c.if-next-agent.false c.in-Some.ensures.within

pub returns : goal.returns
returns c =
    let progress = (of_valid_progress c.args.dispatch.now c.agents-step-end.ensures.valid).0 in
    let all : length c.args.dispatch.now.numbers ≤ c.loop-step._step = omega arith in
    (λ no. absurd cc, λ cycle. absurd (walked_all c.args.dispatch.now progress c.args.agent c.loop-step.last c.loop-step._step c.loop-step.invariant all cycle))
