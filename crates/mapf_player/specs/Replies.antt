-- How replies are spelled, one line each. (Own)
use Rattle.std.specs.Prelude.{◌≡◌, ℕ, ◌%◌, ◌/◌, List, [], ◌∷◌, ◌++◌, codes}
use Rattle.std.specs.Fmt.{decimal}
use Rattle.mapf_player.specs.declared.reply.Reply.{Reply}
use Rattle.mapf_player.specs.declared.visit.Visit.{Visit}
use Rattle.mapf_player.specs.Dispatching.{AreReplies, Progress, beginning}
use Rattle.mapf_player.specs.Visits.{AreVisitsOfAll}
use Rattle.mapf_player.specs.declared.reply.Reply.TheVariants.{Go, Hold, Done}

-- the line of a reply: `go I x,y`, `hold I by J` or `done I`
abbrev pub reply_line : ℕ → ℕ → Reply → List ℕ
reply_line width agent (Go cell) =
    codes "go " ++ (decimal agent ++ (32 ∷ (decimal (cell % width) ++ (44 ∷ (decimal (cell / width) ++ (10 ∷ []))))))
reply_line width agent (Hold other) = codes "hold " ++ (decimal agent ++ (codes " by " ++ (decimal other ++ (10 ∷ []))))
reply_line width agent Done = codes "done " ++ (decimal agent ++ (10 ∷ []))

-- room for the longest such line
abbrev pub reply_room : ℕ
reply_room = 66

-- the lines of all replies, in the order in which the agents asked
abbrev pub reply_text : ℕ → List ℕ → List Reply → List ℕ
reply_text width [] replies = []
reply_text width (agent ∷ agents) [] = []
reply_text width (agent ∷ agents) (reply ∷ replies) = reply_line width agent reply ++ reply_text width agents replies

-- the lines of the replies to agents that ask one after another while all follow the plan
pub record IsReplyText (width : ℕ) (plan : List (List ℕ)) (agents : List ℕ) (text : List ℕ) : Type 0 where
  pub visits : List (List Visit)
  pub are_visits : AreVisitsOfAll plan visits
  pub replies : List Reply
  pub after : Progress
  pub replied : AreReplies (beginning visits) agents replies after
  pub spelled : text ≡ reply_text width agents replies
