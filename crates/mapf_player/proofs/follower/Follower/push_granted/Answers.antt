use Rattle.std.proofs.Common.{◌≡◌, ◌∷◌, [], ◌++◌, ap, ◌∙◌, refl}
use Rattle.mapf_player.specs.declared.request.Request.TheVariants.{Agent, Status}
use Rattle.mapf_player.specs.Cycles.{cycle_line}
use Rattle.mapf_player.specs.Following.{Hearing, Told, only}
use Rattle.mapf_player.specs.Replies.{reply_line}
use Rattle.mapf_player.proofs.FollowLemmas.{gives_agent, gives_status}
use Rattle.mapf_player.proofs.follower.Follower.push_granted.Goals as goal

pub returns-in-Agent : goal.returns-in-Agent
returns-in-Agent c =
    let agent = c.in-Agent.agent in
    let reply = c.ask-reply.result in
    let width = c.args.grid.now.width in
    let is : c.args.request ≡ Agent agent = c.in-Agent.is in
    let told : Told = record { agents = agent ∷ []; replies = reply ∷ []; text = reply_line width agent reply } in (
      told,
      gives_agent width c.args.self.now.progress c.self.inside.dispatch c.ask-reply.new.self agent reply c.args.request is (ap (λ (h : Hearing). h.progress) c.self.view_is) c.ask-reply.ensures.reply,
      c.push_reply.ensures ∙ ap (λ bs. bs ++ reply_line width agent reply) c.requires.empty,
      ap (λ (h : Hearing). h.line) c.self.view_is,
      ap (λ (h : Hearing). h.number) c.self.view_is,
    )

pub returns-in-Status : goal.returns-in-Status
returns-in-Status c =
    let is : c.args.request ≡ Status = c.in-Status.is in
    let (agents, are, text) = c.push_cycles.ensures in (
      only (cycle_line agents),
      gives_status c.args.grid.now.width c.args.self.now.progress c.self.inside.dispatch agents c.args.request is (ap (λ (h : Hearing). h.progress) c.self.view_is) are,
      text ∙ ap (λ bs. bs ++ cycle_line agents) c.requires.empty,
      refl,
      refl,
    )
