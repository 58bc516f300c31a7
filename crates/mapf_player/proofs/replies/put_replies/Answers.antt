use Rattle.std.proofs.Common.{◌<◌, ◌++◌, ◌∷◌, [], All, get_or, refl, sym, subst, ◌∙◌, arith, rules}
use Rattle.std.proofs.lemmas.List.{take_all}
use Rattle.mapf_player.proofs.DueLemmas.{of_valid_progress}
use Rattle.mapf_fields.proofs.Prefixes.{fails, no_end}
use Rattle.mapf_player.proofs.ReplyLemmas.{replied_more, lines_more, lines_fail, numbers_kept}
use Rattle.mapf_player.proofs.replies.put_replies.Goals as goal

pub loop-agent-preserved : goal.loop-agent-preserved
loop-agent-preserved g c =
    let agents = c.args.agents.now in
    let place = c.loop-agent.agent-index in
    let agent = get_or agents place 0 in
    let so_far = c.loop-agent.invariant in
    record {
      works = search rules;
      many = numbers_kept c.loop-agent.dispatch c.ask-reply.new.self agent c.ask-reply.result c.ask-reply.ensures.reply ∙ so_far.many;
      replies = so_far.replies ++ c.ask-reply.result ∷ [];
      replied = replied_more c.args.grid.now.width agents place agent c.loop-agent-test.true refl c.args.dispatch.now c.loop-agent.dispatch c.ask-reply.new.self so_far.replies so_far.replied c.ask-reply.result c.ask-reply.ensures.reply;
      lines = lines_more c.args.grid.now.width agents place agent c.loop-agent-test.true refl c.args.dispatch.now c.loop-agent.dispatch c.ask-reply.new.self so_far.replies so_far.replied c.ask-reply.result c.ask-reply.ensures.reply _ _ _ _ _ _ so_far.lines c.in_ok-put_reply.ensures.text;
    }

pub returns-in_err-put_reply-clause-text : goal.returns-in_err-put_reply-clause-text
returns-in_err-put_reply-clause-text g c =
    let agents = c.args.agents.now in
    let place = c.loop-agent.agent-index in
    let agent = get_or agents place 0 in
    let so_far = c.loop-agent.invariant in
    let (progress, order) = of_valid_progress c.ask-reply.new.self c.ask-reply.ensures.valid in
    let same = numbers_kept c.loop-agent.dispatch c.ask-reply.new.self agent c.ask-reply.result c.ask-reply.ensures.reply ∙ so_far.many in
    let low = subst (λ n. All (λ x. x < n) agents) (sym same) c.requires.agents in
    let (all, last, are, prefix) = lines_fail c.args.grid.now.width agents place agent c.loop-agent-test.true refl c.args.dispatch.now c.loop-agent.dispatch c.ask-reply.new.self so_far.replies so_far.replied c.ask-reply.result c.ask-reply.ensures.reply _ _ _ _ _ so_far.lines c.in_err-put_reply.ensures.text progress order low in
    (all, last, are, fails _ _ _ _ _ _ _ c.from_residual.ensures.1 prefix, no_end _ c.from_residual.result c.from_residual.ensures.0)

pub returns-clause-text : goal.returns-clause-text
returns-clause-text g c =
    let agents = c.args.agents.now in
    let so_far = c.loop-agent.invariant in
    let whole = take_all c.loop-agent.agent-index agents (omega arith) in
    (so_far.replies, c.loop-agent.dispatch, rw whole at so_far.replied, rw whole at so_far.lines, refl)
