use Rattle.std.proofs.Common.{subst, sym}
use Rattle.mapf_player.specs.Dispatching.{AreReplies}
use Rattle.mapf_player.specs.Replies.{reply_text}
use Rattle.mapf_fields.proofs.Prefixes.{write_fails, finish, to_err, to_ok}
use Rattle.mapf_player.proofs.replies.dispatch_all.Goals as goal

pub returns-in_err-put_replies-clause-front : goal.returns-in_err-put_replies-clause-front
returns-in_err-put_replies-clause-front g c =
    let (replies, after, are, written, end) = c.in_err-put_replies.ensures.text in
    let text = reply_text c.args.grid.now.width c.args.agents.now replies in
    to_err c.from_residual.result _ _ text _ (λ n low wrote. (replies, after, are, n, low, wrote)) (write_fails _ _ _ _ _ c.from_residual.ensures.1 (rw c.empty-page.ensures at written))

pub returns-clause-text : goal.returns-clause-text
returns-clause-text g c =
    let (replies, after, are, written, end) = c.in_ok-put_replies.ensures.text in
    let text = reply_text c.args.grid.now.width c.args.agents.now replies in
    to_ok c.flush.result _ _ text _ (λ wrote. (replies, subst (AreReplies c.args.dispatch.now c.args.agents.now replies) (sym end) are, wrote)) (finish _ _ _ _ _ _ (rw c.empty-page.ensures at written) c.flush.ensures.text)

pub returns-clause-front : goal.returns-clause-front
returns-clause-front g c =
    let (replies, after, are, written, end) = c.in_ok-put_replies.ensures.text in
    let text = reply_text c.args.grid.now.width c.args.agents.now replies in
    to_err c.flush.result _ _ text _ (λ n low wrote. (replies, after, are, n, low, wrote)) (finish _ _ _ _ _ _ (rw c.empty-page.ensures at written) c.flush.ensures.text)
