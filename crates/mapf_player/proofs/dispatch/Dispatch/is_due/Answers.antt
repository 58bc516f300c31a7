use Rattle.mapf_player.proofs.DueLemmas.{turn_within}
use Rattle.mapf_player.proofs.dispatch.Dispatch.is_due.Goals as goal

pub number-requires : goal.number-requires
number-requires c = turn_within c.args.self.now c.args.turn.now c.requires.progress c.requires.turn
