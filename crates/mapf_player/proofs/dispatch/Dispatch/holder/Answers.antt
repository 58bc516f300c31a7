use Rattle.mapf_player.proofs.CycleLemmas.{held_by, held_within}
use Rattle.mapf_player.proofs.DueLemmas.{of_valid_progress}
use Rattle.mapf_player.proofs.dispatch.Dispatch.holder.Goals as goal

pub returns-in_default-clause-held : goal.returns-in_default-clause-held
returns-in_default-clause-held c = λ other held. c.in_default.ensures.next held.1 held.2

pub returns-clause-held : goal.returns-clause-held
returns-clause-held c = held_by c.args.self.now c.args.agent c.in-Some.next c.in-Some.ensures.next c.awaited.result (c.awaited.ensures c.args.agent c.in-Some.ensures.next)

pub returns-clause-within : goal.returns-clause-within
returns-clause-within c = held_within c.args.self.now (of_valid_progress c.args.self.now c.in-Some.ensures.valid).0 c.args.agent c.in-Some.next c.in-Some.ensures.next c.awaited.result (c.awaited.ensures c.args.agent c.in-Some.ensures.next)
