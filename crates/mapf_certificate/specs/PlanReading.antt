-- The lines of a plan text, and what they are read as.
use Rattle.std.specs.Prelude.{◌≡◌, ◌≤◌, ◌⊎◌, ℕ, ◌+◌, ◌++◌, List, [], ◌∷◌, codes, Option, Some, None, Result, Ok, Err}
use Rattle.std.specs.Prelude.{if◌then◌else◌}
use Rattle.std.specs.Result.{result_ok}
use Rattle.std.specs.Str.{bytes_eq}
use Rattle.std.specs.Option.{option_map_or}
use Rattle.mapf_model.specs.Limits.{greatest_sum, most_splits}
use Rattle.mapf_model.specs.declared.cause.Cause.{Cause}
use Rattle.mapf_model.specs.declared.cause.Cause.TheVariants.{Splits, Ticks}
use Rattle.mapf_fields.specs.declared.fault.LineFault.{LineFault}
use Rattle.mapf_fields.specs.declared.fault.LineFault.TheVariants.{Shape, Range}
use Rattle.mapf_fields.specs.Numbers.{◌>>=◌, strip, field, read_field, read_last, read_pair, read_cell, in_range}
use Rattle.mapf_fields.specs.Ends.{cut}
use Rattle.mapf_certificate.specs.declared.plan_text.PlanTextFault.{PlanTextFault}
use Rattle.mapf_certificate.specs.declared.plan_text.PlanTextFault.TheVariants.{P1, P2, P3, P4, Memory}
use Rattle.mapf_certificate.specs.declared.plan_text.PlanAnswer.{PlanAnswer}
use Rattle.mapf_certificate.specs.declared.plan_text.PlanAnswer.TheVariants as texts
use Rattle.mapf_certificate.specs.declared.sizes.Sizes.{Sizes}
use Rattle.mapf_certificate.specs.declared.version.Version.{Version}
use Rattle.mapf_certificate.specs.declared.version.Version.TheVariants.{One, Two}
use Rattle.mapf_certificate.specs.Plans.{paths_text, cost_of, cause_words, IsCauseInRange}
use Rattle.mapf_certificate.specs.declared.plan_lines.AnswerLine.{AnswerLine}
use Rattle.mapf_certificate.specs.declared.plan_lines.AnswerLine.TheVariants as answers
use Rattle.mapf_certificate.specs.declared.plan_lines.CauseWord.{CauseWord}
use Rattle.mapf_certificate.specs.declared.plan_lines.CauseWord.TheVariants as causes
use Rattle.mapf_certificate.specs.LineReading.{read_count, read_cost}

-- the words of the number of agents
abbrev pub agents_words : ℕ → List ℕ
agents_words agents = codes "agents" ++ field 32 agents

-- what a limit says of its bound: nothing, or the word and the number
abbrev pub bound_words : Option ℕ → List ℕ
bound_words None = []
bound_words (Some bound) = codes " bound" ++ field 32 bound

-- the words of an answer's first line
abbrev pub answer_words : AnswerLine → List ℕ
answer_words (answers.Cost cost) = codes "cost" ++ field 32 cost
answer_words answers.Impossible = codes "impossible"
answer_words (answers.Limit cause bound) = codes "limit" ++ (cause_words cause ++ bound_words bound)

-- the bound of a limit: none in version 1, in version 2 one in its range
abbrev pub IsBoundOfVersion : Version → Option ℕ → Type 0
IsBoundOfVersion One bound = bound ≡ None
IsBoundOfVersion Two None = ⊥
IsBoundOfVersion Two (Some bound) = bound ≤ greatest_sum

-- an answer line of this version with its numbers in their ranges
abbrev pub IsAnswerLine : Version → AnswerLine → Type 0
IsAnswerLine version (answers.Cost cost) = cost ≤ greatest_sum
IsAnswerLine version answers.Impossible = Unit {0}
IsAnswerLine version (answers.Limit cause bound) = IsCauseInRange cause × IsBoundOfVersion version bound

-- the title
unfoldable pub read_plan_title : List ℕ → Result Version LineFault
read_plan_title bs =
    if bytes_eq bs (codes "mapf-plan 1") then Ok One else
    if bytes_eq bs (codes "mapf-plan 2") then Ok Two else Err Shape

-- the line of the number of agents
unfoldable pub read_agents_line : List ℕ → Result ℕ LineFault
read_agents_line bs = option_map_or read_count (strip (codes "agents") bs) (Err Shape)

-- why the search ended, and what follows
unfoldable pub read_cause : List ℕ → Result (CauseWord × List ℕ) LineFault
read_cause bs =
    option_map_or (λ rest. Ok (causes.Ticks, rest)) (strip (codes " ticks") bs)
    (read_field 32 bs >>= λ count. Ok (causes.Splits count.0, count.1))

-- the bound at the end of a limit's line, which version 1 doesn't have
unfoldable pub read_bound : Version → List ℕ → Result (Option (Option ℕ)) LineFault
read_bound One [] = Ok None
read_bound One (b ∷ bs) = Err Shape
read_bound Two bs =
    option_map_or (λ rest. read_last 32 rest >>= λ n. Ok (Some n)) (strip (codes " bound") bs) (Err Shape)

-- the cause that such words spell
abbrev pub cause_in_range : CauseWord → Result Cause LineFault
cause_in_range causes.Ticks = Ok Ticks
cause_in_range (causes.Splits count) = in_range 0 most_splits count >>= λ n. Ok (Splits n)

-- the bound, in its range
abbrev pub bound_in_range : Option (Option ℕ) → Result (Option ℕ) LineFault
bound_in_range None = Ok None
bound_in_range (Some bound) = in_range 0 greatest_sum bound >>= λ n. Ok (Some n)

-- what follows the word `limit`
unfoldable pub read_limit : Version → List ℕ → Result AnswerLine LineFault
read_limit version bs = do
  word ← read_cause bs
  told ← read_bound version word.1
  cause ← cause_in_range word.0
  bound ← bound_in_range told
  Ok (answers.Limit cause bound)

-- an answer's first line
unfoldable pub read_answer_line : Version → List ℕ → Result AnswerLine LineFault
read_answer_line version bs =
    if bytes_eq bs (codes "impossible") then Ok answers.Impossible else
    option_map_or (λ rest. read_cost rest >>= λ n. Ok (answers.Cost n)) (strip (codes "cost") bs)
    (option_map_or (read_limit version) (strip (codes "limit") bs) (Err Shape))

-- a value that something has to follow
abbrev pub something : {A : Type 0} → A → List ℕ → Result A LineFault
something x [] = Err Shape
something x (b ∷ bs) = Ok x

-- what comes before the pairs of a path's line, which has at least one pair
unfoldable pub read_path_front : List ℕ → Result (Option ℕ × Option ℕ × List ℕ) LineFault
read_path_front bs =
    option_map_or (λ rest. read_field 32 rest >>= λ agent. read_field 32 agent.1
    >>= λ cost. something (agent.0, cost.0, cost.1) cost.1) (strip (codes "path") bs) (Err Shape)

-- the next line and what follows it; P2 if the text ends before it does
unfoldable pub next_line : ℕ → List ℕ → Result (List ℕ × List ℕ) PlanTextFault
next_line n bs = option_map_or (λ p. Ok p) (cut bs) (Err (P2 n))

-- a line's error, with the line's number
abbrev pub fault_at : {A : Type 0} → ℕ → Result A LineFault → Result A PlanTextFault
fault_at n (Ok x) = Ok x
fault_at n (Err Shape) = Err (P1 n)
fault_at n (Err Range) = Err (P3 n)

-- what follows a line that consists of these words
unfoldable pub next_words : ℕ → List ℕ → List ℕ → Result (List ℕ) PlanTextFault
next_words n words bs = next_line n bs >>= λ p. if bytes_eq p.0 words then Ok p.1 else Err (P1 n)

-- the version and what follows
unfoldable pub next_title : List ℕ → Result (Version × List ℕ) PlanTextFault
next_title bs = next_line 1 bs >>= λ p. fault_at 1 (read_plan_title p.0) >>= λ version. Ok (version, p.1)

-- the number of agents and what follows
unfoldable pub next_agents : List ℕ → Result (ℕ × List ℕ) PlanTextFault
next_agents bs = next_line 2 bs >>= λ p. fault_at 2 (read_agents_line p.0) >>= λ k. Ok (k, p.1)

-- the answer's first line and what follows
unfoldable pub next_answer : Version → List ℕ → Result (AnswerLine × List ℕ) PlanTextFault
next_answer version bs =
    next_line 3 bs >>= λ p. fault_at 3 (read_answer_line version p.0) >>= λ answer. Ok (answer, p.1)

-- the text ends here
abbrev pub nothing_after : ℕ → List ℕ → Result (Unit {0}) PlanTextFault
nothing_after n [] = Ok tt
nothing_after n (b ∷ bs) = Err (P4 (n + 1))

-- the last line, with nothing after it
unfoldable pub read_end : ℕ → List ℕ → Result (Unit {0}) PlanTextFault
read_end n bs = next_words n (codes "end") bs >>= nothing_after n

-- a pair, and its cell
unfoldable pub read_pair_cell : Sizes → List ℕ → Result (Option ℕ × List ℕ) LineFault
read_pair_cell sizes bs = read_pair bs >>= λ p. Ok (result_ok (read_cell sizes.width sizes.height p.0 p.1), p.2)

-- a value, or out of memory
abbrev pub OrMemory : {A : Type 0} → Result A PlanTextFault → Type 0 → Type 0
OrMemory result P = P ⊎ (result ≡ Err Memory)

-- the first three lines
unfoldable pub read_header : List ℕ → Result (Version × ℕ × AnswerLine × List ℕ) PlanTextFault
read_header bs = next_title bs >>= λ t. next_agents t.1 >>= λ k. next_answer t.0 k.1 >>= λ a. Ok (t.0, k.0, a.0, a.1)

-- the third line of an answer, and what follows it
abbrev pub line_of : PlanAnswer → AnswerLine
line_of (texts.Found plan) = answers.Cost (cost_of plan)
line_of texts.Impossible = answers.Impossible
line_of (texts.Limit cause) = answers.Limit cause None
line_of (texts.Bounded cause bound) = answers.Limit cause (Some bound)

-- what follows an answer's first line
abbrev pub rest_of : ℕ → PlanAnswer → List ℕ
rest_of width (texts.Found plan) = paths_text width 0 plan ++ codes "end\n"
rest_of width texts.Impossible = codes "end\n"
rest_of width (texts.Limit cause) = codes "end\n"
rest_of width (texts.Bounded cause bound) = codes "end\n"
