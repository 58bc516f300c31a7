use Rattle.mapf_fields.proofs.Prefixes.{fails_first, then_pushed}
use Rattle.mapf_player.proofs.replies.put_reply.Goals as goal

pub returns-in_err-reserve-clause-text : goal.returns-in_err-reserve-clause-text
returns-in_err-reserve-clause-text g c =
    fails_first _ _ _ _ _ _ _ c.from_residual.ensures.1 c.in_err-reserve.ensures.text

pub returns-clause-text : goal.returns-clause-text
returns-clause-text g c =
    then_pushed _ _ _ _ _ _ c.in_ok-reserve.ensures.text c.push_reply.ensures
