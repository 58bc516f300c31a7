use Rattle.mapf_player.proofs.DispatchLemmas.{replies_are_one}
use Rattle.mapf_player.proofs.ReplyLemmas.{every_agent_is_answered, reply_texts_are_one}
use Rattle.mapf_player.proofs.laws.replies_are_one.Goals as goal

pub returns : goal.returns
returns c = record { some = every_agent_is_answered; one = replies_are_one; text = reply_texts_are_one }
