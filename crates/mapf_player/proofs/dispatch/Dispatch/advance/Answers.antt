use Rattle.std.proofs.Common.{◌+◌, slice_set, ap, subst, arith}
use Rattle.mapf_model.proofs.PlaceLemmas.{length-slice_set}
use Rattle.mapf_player.specs.Dispatching.{Progress, IsOfValidPlan}
use Rattle.mapf_player.proofs.DueLemmas.{advanced_valid}
use Rattle.mapf_player.proofs.dispatch.Dispatch.advance.Goals as goal

pub returns-clause-change : goal.returns-clause-change
returns-clause-change c = (c.args.number, c.requires.number, ap (λ (p : Progress). record { visits = p.visits; numbers = slice_set p.numbers c.args.agent (c.args.number + 1) }) c.self.view_is)

pub returns-clause-valid : goal.returns-clause-valid
returns-clause-valid c = advanced_valid c.args.self.now _ c.args.agent c.requires.free.0 (subst (λ (p : Progress). IsOfValidPlan p) c.self.view_is c.self.invariant.0) (returns-clause-change c) c.requires.free.1 c.requires.free.2

pub invariant_of-self : goal.invariant_of-self
invariant_of-self c = (
  returns-clause-valid c,
  c.self.invariant.1,
  omega (arith, length-slice_set c.self.inside.numbers.items c.args.agent (c.args.number + 1), c.self.invariant.2),
)
