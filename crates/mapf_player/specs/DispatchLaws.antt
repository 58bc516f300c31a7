-- What holds of agents that follow a plan, in whatever order and however often they ask to move on. An agent whose
-- reply is `Go` is in its next cell from then on. (Own)
use Rattle.std.specs.Prelude.{◌≡◌, ◌≢◌, ℕ, ◌+◌, ◌<◌, List, [], ◌∷◌, ◌++◌, length, if◌then◌else◌, ◌==◌, map, take, Some}
use Rattle.std.specs.Prelude.{slice_get}
use Rattle.mapf_model.specs.Plan.{Instance, IsValid}
use Rattle.mapf_player.specs.declared.visit.Visit.{Visit}
use Rattle.mapf_player.specs.declared.reply.Reply.{Reply}
use Rattle.mapf_player.specs.declared.reply.Reply.TheVariants.{Go, Hold, Done}
use Rattle.mapf_player.specs.Dispatching.{Progress, IsProgress, IsIn, IsReply, AreReplies, IsReached, IsInOrder}
use Rattle.mapf_player.specs.Dispatching.{IsOfValidPlan, beginning}
use Rattle.mapf_player.specs.Replies.{IsReplyText}

-- the progress of agents that follow a valid plan is always in order, and each agent is in one of its visits
abbrev pub ProgressStaysInOrder : Type 0
ProgressStaysInOrder =
    (problem : Instance) (plan : List (List ℕ)) (progress : Progress) → IsValid problem plan → IsReached plan progress →
    IsProgress progress × IsInOrder progress

-- no two agents that follow a valid plan are in one cell
abbrev pub NoTwoAgentsMeet : Type 0
NoTwoAgentsMeet =
    (problem : Instance) (plan : List (List ℕ)) (progress : Progress) → IsValid problem plan → IsReached plan progress →
    (i j : ℕ) (a b : Visit) → i ≢ j → IsIn progress i a → IsIn progress j b → a.cell ≢ b.cell

-- no agent that follows a valid plan gets the reply to move to a cell in which another agent is
abbrev pub NobodyEntersAnOccupiedCell : Type 0
NobodyEntersAnOccupiedCell =
    (problem : Instance) (plan : List (List ℕ)) (before after : Progress) (agent cell : ℕ) → IsValid problem plan →
    IsReached plan before →
    IsReply before agent (Go cell) after → (other : ℕ) (visit : Visit) → other ≢ agent → IsIn before other visit →
    visit.cell ≢ cell

-- the cells to which an agent moved, by its replies
abbrev pub cells_entered : ℕ → List ℕ → List Reply → List ℕ
cells_entered agent [] replies = []
cells_entered agent (asked ∷ agents) [] = []
cells_entered agent (asked ∷ agents) (Go cell ∷ replies) =
    (if asked == agent then cell ∷ [] else []) ++ cells_entered agent agents replies
cells_entered agent (asked ∷ agents) (Hold other ∷ replies) = cells_entered agent agents replies
cells_entered agent (asked ∷ agents) (Done ∷ replies) = cells_entered agent agents replies

-- the cells in which an agent was are those of its visits so far, in order
abbrev pub CellsAreAPrefix : Type 0
CellsAreAPrefix =
    (visits : List (List Visit)) (agents : List ℕ) (replies : List Reply) (progress : Progress) →
    AreReplies (beginning visits) agents replies progress →
    (agent : ℕ) (own : List Visit) (first : Visit) (number : ℕ) → slice_get visits agent ≡ Some own →
    slice_get own 0 ≡ Some first → slice_get progress.numbers agent ≡ Some number →
    first.cell ∷ cells_entered agent agents replies ≡ map (λ visit. visit.cell) (take (number + 1) own)

-- there is at most one reply to an agent that asks, and one progress after it
abbrev pub RepliesAreOne : Type 0
RepliesAreOne =
    (before : Progress) (agent : ℕ) (a b : Reply) (after other : Progress) → IsReply before agent a after →
    IsReply before agent b other → (a ≡ b) × (after ≡ other)

-- every agent that asks gets a reply
abbrev pub EveryAgentIsAnswered : Type 0
EveryAgentIsAnswered =
    (progress : Progress) (agent : ℕ) → IsOfValidPlan progress → agent < length progress.numbers → (reply : Reply)
    × (after : Progress) × IsReply progress agent reply after

-- the replies to a list of agents that ask while all follow a plan are spelled by at most one text
abbrev pub ReplyTextsAreOne : Type 0
ReplyTextsAreOne =
    (width : ℕ) (plan : List (List ℕ)) (agents a b : List ℕ) → IsReplyText width plan agents a →
    IsReplyText width plan agents b → a ≡ b
