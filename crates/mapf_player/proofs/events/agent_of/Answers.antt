use Rattle.std.proofs.Common.{arith, refl, sym, ◌∙◌, Some}
use Rattle.mapf_fields.specs.Numbers.{small_value}
use Rattle.mapf_fields.proofs.Fields.{whole_digits}
use Rattle.mapf_player.proofs.EventLemmas.{agent_takes, agent_again, great_agent}
use Rattle.mapf_player.proofs.events.agent_of.Goals as goal

pub returns-in_default-clause-only : goal.returns-in_default-clause-only
returns-in_default-clause-only c = λ agent low is.
    let again = agent_again c.args.line.now c.args.agents agent (omega (arith, c.ranges.agents.fits)) low is in
    absurd (c.in_default.not-Ok (Some agent) (c.whole.ensures ∙ again.0))

pub returns-in-Ok-below-clause-found : goal.returns-in-Ok-below-clause-found
returns-in-Ok-below-clause-found c = agent_takes c.args.line.now c.args.agents c.in-Ok-below.agent c.in-Ok.agent (sym c.whole.ensures ∙ c.in-Ok.is) (sym c.below.ensures ∙ c.in-Ok-below.is)

pub returns-in-Ok-below-clause-only : goal.returns-in-Ok-below-clause-only
returns-in-Ok-below-clause-only c = λ agent low is.
    let again = agent_again c.args.line.now c.args.agents agent (omega (arith, c.ranges.agents.fits)) low is in
    let (read, small) = again in
    let whole_is = c.whole.ensures in
    let one = c.in-Ok.is in
    let below_is = c.below.ensures in
    let two = c.in-Ok-below.is in
    cc

pub returns-in-Err-clause-only : goal.returns-in-Err-clause-only
returns-in-Err-clause-only c = λ agent low is.
    let again = agent_again c.args.line.now c.args.agents agent (omega (arith, c.ranges.agents.fits)) low is in
    let (read, small) = again in
    let whole_is = c.whole.ensures in
    let one = c.in-Ok.is in
    let below_is = c.below.ensures in
    let two = c.in-Err.is in
    cc

pub returns-in_default-clause-fault : goal.returns-in_default-clause-fault
returns-in_default-clause-fault c = (refl, λ text. c.in_default.not-Ok (small_value c.args.line.now) (c.whole.ensures ∙ whole_digits c.args.line.now text.0 text.1))

pub returns-in-Err-clause-fault : goal.returns-in-Err-clause-fault
returns-in-Err-clause-fault c = great_agent c.args.line.now c.args.agents c.args.number c.in-Ok.agent c.in-Err.field-0 (omega (arith, c.ranges.agents.fits)) (sym c.whole.ensures ∙ c.in-Ok.is) (sym c.below.ensures ∙ c.in-Err.is)
