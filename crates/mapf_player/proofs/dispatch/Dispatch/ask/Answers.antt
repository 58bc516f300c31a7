use Rattle.std.proofs.Common.{Option, refl, subst, ℕ}
use Rattle.mapf_player.specs.Dispatching.{IsLeastAwaited}
use Rattle.mapf_player.proofs.dispatch.Dispatch.ask.Goals as goal

pub returns-in-Some-awaited-clause-reply : goal.returns-in-Some-awaited-clause-reply
returns-in-Some-awaited-clause-reply c =
    let least = subst (λ (r : Option ℕ). IsLeastAwaited c.args.self.now c.args.agent c.in-Some.next r) c.in-Some-awaited.is (c.awaited.ensures c.args.agent c.in-Some.ensures.next) in
    (refl, c.in-Some.next, c.in-Some.ensures.next, least.0, least.1)
