-- What agents that follow a plan are told while their requests come, line by line. (Own)
use Rattle.std.specs.Prelude.{◌≡◌, ◌≢◌, ◌⊎◌, ℕ, ◌+◌, ◌<◌, ◌≤◌, Bool, true, false, List, [], ◌∷◌, ◌++◌, codes, length}
use Rattle.std.specs.Prelude.{map, take, Option, Some, Result, Ok, Err, slice_get}
use Rattle.std.specs.Fmt.{decimal}
use Rattle.std.specs.Io.KnownBytes.{Appends, IsAtEnd}
use Rattle.mapf_fields.specs.Ends.{lacks_end}
use Rattle.mapf_fields.specs.Numbers.{field}
use Rattle.mapf_fields.specs.Pages.{WritesPrefix}
use Rattle.mapf_model.specs.Plan.{Instance, IsValid}
use Rattle.mapf_player.specs.declared.events.EventFault.{EventFault}
use Rattle.mapf_player.specs.declared.events.EventFault.TheVariants.{E1, E2, E3, E4, Memory}
use Rattle.mapf_player.specs.declared.follow_fault.FollowFault.{FollowFault}
use Rattle.mapf_player.specs.declared.follow_fault.FollowFault.TheVariants as ends
use Rattle.mapf_player.specs.declared.follower.Heard.{Heard}
use Rattle.mapf_player.specs.declared.follower.Heard.TheVariants as heard
use Rattle.mapf_player.specs.declared.reply.Reply.{Reply}
use Rattle.mapf_player.specs.declared.request.Request.{Request}
use Rattle.mapf_player.specs.declared.request.Request.TheVariants.{Agent, Status, End}
use Rattle.mapf_player.specs.declared.visit.Visit.{Visit}
use Rattle.mapf_player.specs.Cycles.{AreInCycles, cycle_line}
use Rattle.mapf_player.specs.Dispatching.{Progress, IsIn, IsReply, beginning}
use Rattle.mapf_player.specs.DispatchLaws.{cells_entered}
use Rattle.mapf_player.specs.Events.{GivesNoAgent, HasOtherTitle}
use Rattle.mapf_player.specs.Replies.{reply_line}
use Rattle.mapf_player.specs.Visits.{AreVisitsOfAll}

-- bytes of a request, without its LF: a longer line is none
abbrev pub longest_request : ℕ
longest_request = 64

-- bytes of all requests: one exbibyte
abbrev pub most_request_bytes : ℕ
most_request_bytes = 1152921504606846976

-- room for the longest answer: that which names all agents
abbrev pub answer_room : ℕ
answer_room = 4206

-- why a line isn't a request of one of so many agents: it is too long, or it names none of them
abbrev pub IsNoRequest : ℕ → ℕ → List ℕ → EventFault → Type 0
IsNoRequest count number line fault =
    ((longest_request < length line) × (fault ≡ E1 number))
    ⊎ ((length line ≤ longest_request) × GivesNoAgent line count number fault)

-- what the line of this number says: that one of so many agents asks, that the status is asked for, the end, or an
-- error
abbrev pub IsRead : ℕ → ℕ → List ℕ → Result Request EventFault → Type 0
IsRead count number line (Ok (Agent agent)) = (line ≡ decimal agent) × (agent < count)
IsRead count number line (Ok Status) = line ≡ codes "status"
IsRead count number line (Ok End) = line ≡ codes "end"
IsRead count number line (Err fault) =
    (line ≢ codes "status") × (line ≢ codes "end") × IsNoRequest count number line fault

-- the line of an error of a request; no other error has one
abbrev pub error_line : EventFault → List ℕ
error_line (E1 line) = codes "error E1" ++ (field 32 line ++ (10 ∷ []))
error_line (E2 line) = []
error_line (E3 line) = codes "error E3" ++ (field 32 line ++ (10 ∷ []))
error_line (E4 line) = []
error_line Memory = []

-- what was told: the agents that asked, one after another, their replies, and the bytes of all answers
pub record Told : Type 0 where
  pub agents : List ℕ
  pub replies : List Reply
  pub text : List ℕ

-- nothing was told
abbrev pub nothing : Told
nothing = record { agents = []; replies = []; text = [] }

-- one after the other
abbrev pub both : Told → Told → Told
both a b =
    record { agents = a.agents ++ b.agents; replies = a.replies ++ b.replies; text = a.text ++ b.text }

-- an answer that is no reply to an agent
abbrev pub only : List ℕ → Told
only text = record { agents = []; replies = []; text = text }

-- the answer to what a line says, and the progress after it: an agent that asks gets its reply, which alone changes
-- something; `end` has no answer
abbrev pub IsGiven : ℕ → Progress → Result Request EventFault → Told → Progress → Type 0
IsGiven width before (Ok (Agent agent)) told after =
    (reply : Reply) × IsReply before agent reply after
    × (told ≡ record { agents = agent ∷ []; replies = reply ∷ []; text = reply_line width agent reply })
IsGiven width before (Ok Status) told after =
    (before ≡ after) × (agents : List ℕ) × AreInCycles before agents × (told ≡ only (cycle_line agents))
IsGiven width before (Ok End) told after = ⊥
IsGiven width before (Err fault) told after = (before ≡ after) × (told ≡ only (error_line fault))

-- the answer to the line of this number, and the progress after it
pub record IsTold (width number : ℕ) (before : Progress) (line : List ℕ) (told : Told) (after : Progress) : Type 0 where
  pub whole : lacks_end line ≡ true
  pub request : Result Request EventFault
  pub read : IsRead (length before.numbers) number line request
  pub given : IsGiven width before request told after

-- the answers to lines of which the first has this number, and the progress after them
abbrev pub AreTold : ℕ → ℕ → Progress → List (List ℕ) → Told → Progress → Type 0
AreTold width number before [] told after = (told ≡ nothing) × (before ≡ after)
AreTold width number before (line ∷ lines) told after =
    (first : Told) × (between : Progress) × (rest : Told) × IsTold width number before line first between
    × AreTold width (number + 1) between lines rest after × (told ≡ both first rest)

-- lines, each with its LF
abbrev pub whole_lines : List (List ℕ) → List ℕ
whole_lines [] = []
whole_lines (line ∷ lines) = line ++ (10 ∷ whole_lines lines)

-- the title came, then these lines, which were all answered, and then these bytes; the answers are what was written
pub record HasAnswered (width : ℕ) (before : Progress) (came written : List ℕ) (lines : List (List ℕ)) (rest : List ℕ)
    (after : Progress) : Type 0 where
  pub spelled : came ≡ codes "mapf-events 1\n" ++ (whole_lines lines ++ rest)
  pub told : Told
  pub answered : AreTold width 2 before lines told after
  pub wrote : written ≡ told.text

-- the first line, which is to be the title, has no end yet
pub record IsUntitled (came written : List ℕ) : Type 0 where
  pub lacks : lacks_end came ≡ true
  pub silent : written ≡ []

-- the title came and lines that were all answered; the bytes after them have no end yet
pub record IsListening (width : ℕ) (before : Progress) (came written : List ℕ) (after : Progress) : Type 0 where
  pub lines : List (List ℕ)
  pub rest : List ℕ
  pub so_far : HasAnswered width before came written lines rest after
  pub lacks : lacks_end rest ≡ true

-- all lines before `end` were answered
pub record IsEnded (width : ℕ) (before : Progress) (came written : List ℕ) : Type 0 where
  pub lines : List (List ℕ)
  pub after : Progress
  pub more : List ℕ
  pub so_far : HasAnswered width before came written lines (codes "end\n" ++ more) after

-- all lines before this one were answered, and of its answer only a prefix was written
pub record IsCutOff (width : ℕ) (before : Progress) (came written : List ℕ) : Type 0 where
  pub lines : List (List ℕ)
  pub line : List ℕ
  pub more : List ℕ
  pub between : Progress
  pub after : Progress
  pub told : Told
  pub last : Told
  pub missing : List ℕ
  pub prefix : List ℕ
  pub spelled : came ≡ codes "mapf-events 1\n" ++ (whole_lines lines ++ (line ++ (10 ∷ more)))
  pub answered : AreTold width 2 before lines told between
  pub unfinished : IsTold width (2 + length lines) between line last after
  pub part : last.text ≡ prefix ++ missing
  pub wrote : written ≡ told.text ++ prefix

-- the input ended inside the line of this number, or where the title is missing
abbrev pub IsCutShort : ℕ → Progress → List ℕ → List ℕ → ℕ → Type 0
IsCutShort width before came written at =
    ((at ≡ 1) × IsUntitled came written)
    ⊎ ((after : Progress) × (now : IsListening width before came written after) × (now.rest ≢ [])
    × (at ≡ 2 + length now.lines))

-- where a run may end with this error, by the bytes that came and what was written: the first line isn't the title, an
-- answer is cut off, the input ended too early, or all whole lines were answered. That a device failed is said apart
abbrev pub IsStopped : ℕ → Progress → Option (List ℕ) → List ℕ → List ℕ → FollowFault → Type 0
IsStopped width before left came written (ends.Events (E1 at)) = (at ≡ 1) × HasOtherTitle came × (written ≡ [])
IsStopped width before left came written (ends.Events (E2 at)) =
    IsAtEnd left × IsCutShort width before came written at
IsStopped width before left came written (ends.Events (E3 at)) = ⊥
IsStopped width before left came written (ends.Events (E4 at)) = ⊥
IsStopped width before left came written (ends.Events Memory) = ⊥
IsStopped width before left came written ends.Requests =
    IsUntitled came written ⊎ ((after : Progress) × IsListening width before came written after)
IsStopped width before left came written ends.Replies = IsCutOff width before came written

-- how a run ends, by what is left to read, the bytes that came, and what was written: after `end`, at the end of the
-- input after a whole line, or where its error may end it
abbrev pub IsOutcome : {T : Type 0} → ℕ → Progress → Option (List ℕ) → List ℕ → List ℕ → Result T FollowFault → Type 0
IsOutcome width before left came written (Ok done) =
    IsEnded width before came written
    ⊎ (IsAtEnd left × (after : Progress) × (now : IsListening width before came written after) × (now.rest ≡ []))
IsOutcome width before left came written (Err fault) = IsStopped width before left came written fault

-- bytes of a line that are kept while it comes: one more than the longest request has
abbrev pub start_room : ℕ
start_room = 65

-- a follower of requests: how far the agents are, the first bytes of the line that comes, and the number of this line
pub record Hearing : Type 0 where
  pub progress : Progress
  pub line : List ℕ
  pub number : ℕ

-- it is at the first line
pub record IsAtTitle (before : Progress) (came written : List ℕ) (now : Hearing) : Type 0 where
  pub untitled : IsUntitled came written
  pub same : now.progress ≡ before
  pub start : now.line ≡ take start_room came
  pub number : now.number ≡ 1

-- it is at a later line
pub record IsAtLine (width : ℕ) (before : Progress) (came written : List ℕ) (now : Hearing) : Type 0 where
  pub listening : IsListening width before came written now.progress
  pub start : now.line ≡ take start_room listening.rest
  pub number : now.number ≡ 2 + length listening.lines

-- how far a follower is, by the bytes that came and what was written
abbrev pub IsHearing : ℕ → Progress → List ℕ → List ℕ → Hearing → Type 0
IsHearing width before came written now = IsAtTitle before came written now ⊎ IsAtLine width before came written now

-- how far it is after bytes: it listens on, `end` came, or the run has to end
abbrev pub HasHeard : ℕ → Progress → List ℕ → List ℕ → Hearing → Result Heard FollowFault → Type 0
HasHeard width before came written now (Ok heard.More) = IsHearing width before came written now
HasHeard width before came written now (Ok heard.End) = IsEnded width before came written
HasHeard width before came written now (Err ends.Replies) = IsCutOff width before came written
HasHeard width before came written now (Err ends.Requests) = ⊥
HasHeard width before came written now (Err (ends.Events fault)) =
    (fault ≡ E1 1) × HasOtherTitle came × (written ≡ [])

-- the first line is the title, and the next one is heard
abbrev pub IsTitleHeard : Hearing → Hearing → Result Heard FollowFault → Type 0
IsTitleHeard old new (Ok heard.More) =
    (old.line ≡ codes "mapf-events 1") × (new ≡ record { progress = old.progress; line = []; number = 2 })
IsTitleHeard old new (Ok heard.End) = ⊥
IsTitleHeard old new (Err fault) = (old.line ≢ codes "mapf-events 1") × (fault ≡ ends.Events (E1 1))

-- what the line says that came is answered, and the next one is heard; or it is the end, or its answer can't be written
abbrev pub IsLineHeard : ℕ → Hearing → Hearing → Option (List ℕ) → Option (List ℕ) → Result Request EventFault →
    Result Heard FollowFault → Type 0
IsLineHeard width old new had has request (Ok heard.More) =
    (told : Told) × (after : Progress) × IsGiven width old.progress request told after × Appends had has told.text
    × (new ≡ record { progress = after; line = []; number = old.number + 1 })
IsLineHeard width old new had has request (Ok heard.End) = (request ≡ Ok End) × Appends had has []
IsLineHeard width old new had has request (Err fault) =
    (fault ≡ ends.Replies) × (told : Told) × (after : Progress) × IsGiven width old.progress request told after
    × WritesPrefix had has told.text

-- a sink failed if and only if an answer couldn't be written
abbrev pub FailsSink : {T : Type 0} → Result T FollowFault → Bool → Type 0
FailsSink (Ok heard) failed = failed ≡ false
FailsSink (Err ends.Replies) failed = failed ≡ true
FailsSink (Err ends.Requests) failed = failed ≡ false
FailsSink (Err (ends.Events fault)) failed = failed ≡ false

-- no two agents are in one cell
abbrev pub AreApart : Progress → Type 0
AreApart progress =
    (i j : ℕ) (a b : Visit) → i ≢ j → IsIn progress i a → IsIn progress j b → a.cell ≢ b.cell

-- of each agent the first cell of its path, and then those into which its replies sent it, are the cells of its visits
-- up to the one that it is in
abbrev pub KeepToPaths : Progress → Told → Type 0
KeepToPaths progress told =
    (agent number : ℕ) (own : List Visit) (first : Visit) → slice_get progress.visits agent ≡ Some own →
    slice_get own 0 ≡ Some first → slice_get progress.numbers agent ≡ Some number →
    first.cell ∷ cells_entered agent told.agents told.replies ≡ map (λ visit. visit.cell) (take (number + 1) own)

-- what was told is safe for agents that follow this plan
pub record IsSafe (plan : List (List ℕ)) (told : Told) (progress : Progress) : Type 0 where
  pub visits : AreVisitsOfAll plan progress.visits
  pub apart : AreApart progress
  pub prefixes : KeepToPaths progress told

-- whatever lines come while agents follow the plan, what is told is safe; so it is after each of these lines
abbrev pub IsAlwaysSafe : List (List ℕ) → List (List Visit) → Type 0
IsAlwaysSafe plan visits =
    (width : ℕ) (lines : List (List ℕ)) (told : Told) (after : Progress) →
    AreTold width 2 (beginning visits) lines told after → IsSafe plan told after

-- all that agents are told who follow a valid plan is safe
abbrev pub FollowersAreSafe : Type 0
FollowersAreSafe =
    (problem : Instance) (plan : List (List ℕ)) (visits : List (List Visit)) → IsValid problem plan →
    AreVisitsOfAll plan visits → IsAlwaysSafe plan visits
