use Rattle.std.proofs.Common.{◌≡◌, List, false, length, take}
use Rattle.mapf_player.specs.declared.reply.Reply.{Reply}
use Rattle.mapf_player.specs.Dispatching.{AreReplies}
use Rattle.mapf_fields.specs.Pages.{Passes}
use Rattle.mapf_player.specs.Replies.{reply_text}
use Rattle.mapf_player.proofs.replies.put_replies.Given as goal

abbrev pub invariant-loop-agent : goal.invariant-loop-agent
invariant-loop-agent g l =
    let sink = g.K.Sink in
    record {
      works : sink.has_failed l.sink ≡ false;
      many : length l.dispatch.numbers ≡ length l.fn.dispatch.numbers;
      replies : List Reply;
      replied : AreReplies l.fn.dispatch (take l.agent-index l.agents) replies l.dispatch;
      lines : Passes (sink.contents l.fn.sink) (sink.contents l.sink) l.fn.page l.page (reply_text l.grid.width (take l.agent-index l.agents) replies);
    }
