use Rattle.std.proofs.Common.{arith}
use Rattle.mapf_spacetime.proofs.state_set.StateSet.has.Goals as goal
use Rattle.mapf_spacetime.proofs.state_set.StateSet.has.Goals.{then-state-self-via-then-state-self, then-state-self-via-else-state-self+then-self-state}

-- each state of the set is within the ticks
pub returns-then-state-self : goal.returns-then-state-self
returns-then-state-self c = (
  λ never. absurd cc,
  λ held.
      let within = c.self.invariant.3 c.args.state.now (rw (← c.self.view_is) at held) in
      elim c.then-state-self.branch [
        | then-state-self-via-then-state-self w ↦ let before = w.if-state-self.true in absurd (omega (arith, within.0))
        | then-state-self-via-else-state-self+then-self-state w ↦ let after = w.if-self-state.true in absurd (omega (arith, within.1))
      ],
)
