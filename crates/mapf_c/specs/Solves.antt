-- What a call that solves a problem in memory answers, and what it writes. (own)
use Rattle.std.specs.Prelude.{◌≡◌, ◌≢◌, ◌≤◌, ◌++◌, ◌&&◌, ℕ, Bool, true, false, List, [], Some}
use Rattle.std.specs.Prelude.{Result, Ok, Err, IfSome, MatchResult, drop, length, if◌then◌else◌, nat_le, ◌==◌}
use Rattle.mapf_app.specs.Answered.{IsLimitedBy, IsOfPlainSearch, answering}
use Rattle.mapf_app.specs.Checked.{HasNoCheckMemory}
use Rattle.mapf_app.specs.Faults.{IsOfInput, IsReading}
use Rattle.mapf_app.specs.Headline.{PrintsTruly}
use Rattle.mapf_app.specs.Policy.{PrintsByPolicy}
use Rattle.mapf_app.specs.Problems.{SpellsProblem}
use Rattle.mapf_app.specs.declared.answer_writer.Answered.{Answered}
use Rattle.mapf_app.specs.declared.fault.Fault.{Fault}
use Rattle.mapf_app.specs.declared.fault.Fault.TheVariants.{F1, F2, F3, F4, F5, F6, Refused}
use Rattle.mapf_c.specs.Answers.{solution_of}
use Rattle.mapf_c.specs.Checks.{IsCount, IsReadable}
use Rattle.mapf_c.specs.declared.numbers.Question.{Question}
use Rattle.mapf_c.specs.declared.numbers.Solution.{Solution}
use Rattle.mapf_model.specs.Limits.{most_splits}
use Rattle.mapf_model.specs.Plan.{Instance}
use Rattle.mapf_words.specs.Jobs.{most_improvements}
use Rattle.mapf_words.specs.declared.job.Search.{Search}
use Rattle.mapf_words.specs.declared.job.Search.TheVariants.{Cbs, Cbsh}

-- each number of a question is in its range
abbrev pub IsAskable : Question → Type 0
IsAskable asked = IsCount asked.agents × (asked.search ≤ 1) × (asked.limit ≤ most_splits)
    × (asked.improvements ≤ most_improvements)

-- the search of this number
abbrev pub search_of : ℕ → Search
search_of number = if number == 0 then Cbs else Cbsh

-- an answer and its two texts are true of the problem that the map and the scenario spell. If it is plain search's,
-- they are also as plain search promises. An answer that names a number of splits names the limit. Nothing is refused
-- before the answer if plain search was asked for
pub record IsTrueAnswer (map scen : List ℕ) (asked : Question) (answer : Answered) (plan cert : List ℕ) : Type 0 where
  pub printed : PrintsTruly (Some map) (Some scen) asked.agents
      (answering (search_of asked.search) answer.refused) answer.kind plan cert
  pub policy : IsOfPlainSearch (search_of asked.search) answer →
      PrintsByPolicy (Some map) (Some scen) asked.agents asked.limit answer.kind plan cert
  pub limited : IsLimitedBy asked.limit answer.kind
  pub refused : IfSome answer.refused
      (λ refusal. HasNoCheckMemory refusal × (search_of asked.search ≢ Cbs))

-- the error; a text that couldn't be written found no memory
abbrev pub of_memory : Fault → Fault
of_memory (F1 fault) = F1 fault
of_memory (F2 fault) = F2 fault
of_memory (F3 fault) = F3 fault
of_memory (F4 input) = F4 input
of_memory (F5 output) = F6
of_memory F6 = F6
of_memory (Refused refusal) = Refused refusal

-- why a search ends without an answer: an error that the map or the scenario has, or memory ran out. If they spell a
-- problem, one of them is too long or memory ran out
pub record IsHindrance (map scen : List ℕ) (agents : ℕ) (fault : Fault) : Type 0 where
  pub reading : IsReading (Some map) (Some scen) agents fault
  pub readable : IsReadable map scen [] [] fault
  pub due : (problem : Instance) → SpellsProblem (Some map) (Some scen) agents problem → IsOfInput fault

-- a text was written to the front of a buffer, or the buffer is as it was
abbrev pub IsPut : Bool → (text old new : List ℕ) → Type 0
IsPut true text old new = new ≡ text ++ drop (length text) old
IsPut false text old new = new ≡ old

-- both texts fit into their buffers
abbrev pub fit : (plan plan_buffer cert cert_buffer : List ℕ) → Bool
fit plan plan_buffer cert cert_buffer =
    nat_le (length plan) (length plan_buffer) && nat_le (length cert) (length cert_buffer)

-- texts are put into buffers only if there is an answer
abbrev pub are_put : Result Answered Fault → Bool → Bool
are_put (Ok answer) fits = fits
are_put (Err fault) fits = false

-- a solution tells how a search ended; its texts are written if it has an answer and both fit into their buffers, and
-- else nothing is
pub record IsSolutionOf (map scen : List ℕ) (asked : Question) (solution : Solution)
    (plan_old plan_new cert_old cert_new : List ℕ) : Type 0 where
  pub ended : Result Answered Fault
  pub plan : List ℕ
  pub cert : List ℕ
  pub told : solution ≡ solution_of ended plan cert (fit plan plan_old cert cert_old)
  pub holds : MatchResult ended (λ answer. IsTrueAnswer map scen asked answer plan cert)
      (IsHindrance map scen asked.agents)
  pub plan_put : IsPut (are_put ended (fit plan plan_old cert cert_old)) plan plan_old plan_new
  pub cert_put : IsPut (are_put ended (fit plan plan_old cert cert_old)) cert cert_old cert_new
