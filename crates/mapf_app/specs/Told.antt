-- What the program prints for an answer, and its exit status.
use Rattle.std.specs.Prelude.{◌≡◌, ◌++◌, ◌∷◌, [], ℕ, Bool, true, false, List, Option, Some, None, codes, take}
use Rattle.std.specs.Borrow.{Bor}
use Rattle.std.specs.Fmt.{decimal}
use Rattle.std.specs.Io.KnownBytes.{Appends}
use Rattle.mapf_app.specs.FaultLines.{refusal_line}
use Rattle.mapf_app.specs.declared.fault.Fault.{Fault}
use Rattle.mapf_app.specs.declared.fault.Fault.TheVariants.{F1, F2, F3, F4, F5, F6, Refused}
use Rattle.mapf_app.specs.declared.kind.Kind.{Kind}
use Rattle.mapf_app.specs.declared.kind.Kind.TheVariants.{Found, Impossible, Limit, Within}
use Rattle.mapf_app.specs.declared.line.Line.{Line}
use Rattle.mapf_checker.specs.declared.fault.CheckFault.{CheckFault}
use Rattle.mapf_checker.specs.declared.fault.Verdict.{Verdict}
use Rattle.mapf_checker.specs.declared.fault.Verdict.TheVariants as verdicts
use Rattle.mapf_model.specs.declared.cause.Cause.TheVariants.{Splits, Ticks}

-- a blank and the name, if there is one
abbrev pub defect_text : Option (Bor (List ℕ)) → List ℕ
defect_text None = []
defect_text (Some name) = 32 ∷ name.now

-- a blank and the number, if there is one
abbrev pub number_text : Option ℕ → List ℕ
number_text None = []
number_text (Some number) = 32 ∷ decimal number

-- what a line says of a bound, if there is one
abbrev pub bound_text : Option ℕ → List ℕ
bound_text None = []
bound_text (Some bound) = codes " bound" ++ number_text (Some bound)

-- what a line says after its words, which is a name, numbers and a bound, and then its end
abbrev pub rest_text : Line → List ℕ → List ℕ
rest_text line end =
    defect_text line.defect ++ (number_text line.numbers.0 ++ (number_text line.numbers.1
    ++ (number_text line.numbers.2 ++ (bound_text line.bound ++ end))))

-- a line's bytes: its words, what it says after them, and LF
abbrev pub message_text : Line → List ℕ
message_text line = line.words.now ++ rest_text line (10 ∷ [])

-- the words of a line begin as those of a refusal do
abbrev pub BeginsRefused : List ℕ → Type 0
BeginsRefused words = take 8 words ≡ codes "refused "

-- the line that tells that what the second search answered was refused, with the code of the refusal: what its own line
-- has after `refused`
abbrev pub IsRefusedLine : CheckFault → List ℕ → Type 0
IsRefusedLine refusal text =
    (code : List ℕ) × (refusal_line refusal ≡ codes "refused " ++ (code ++ (10 ∷ [])))
    × (text ≡ codes "mapf: the answer of cbsh was refused (" ++ (code ++ codes "); this is the answer of cbs\n"))

-- the sink got the text, or it failed and got a prefix of it
abbrev pub Gets : Bool → Option (List ℕ) → Option (List ℕ) → List ℕ → Type 0
Gets true old new text = (n : ℕ) × Appends old new (take n text)
Gets false old new text = Appends old new text

-- `cost C`, `impossible`, `limit S bound B`, `limit ticks bound B` or `within B C`
abbrev pub kind_line : Kind → List ℕ
kind_line (Found cost) = codes "cost " ++ (decimal cost ++ (10 ∷ []))
kind_line Impossible = codes "impossible\n"
kind_line (Limit (Splits splits) bound) =
    codes "limit " ++ (decimal splits ++ (codes " bound " ++ (decimal bound ++ (10 ∷ []))))
kind_line (Limit Ticks bound) = codes "limit ticks bound " ++ (decimal bound ++ (10 ∷ []))
kind_line (Within bound cost) = codes "within " ++ (decimal bound ++ (codes " " ++ (decimal cost ++ (10 ∷ []))))

-- 0 solved, 3 impossible, 4 a bound alone was shown, with a plan or without
abbrev pub kind_status : Kind → ℕ
kind_status (Found cost) = 0
kind_status Impossible = 3
kind_status (Limit cause bound) = 4
kind_status (Within bound cost) = 4

-- `optimal C`, `within B C`, `bound B` or `impossible`
abbrev pub verdict_line : Verdict → List ℕ
verdict_line (verdicts.Optimal cost) = codes "optimal " ++ (decimal cost ++ (10 ∷ []))
verdict_line (verdicts.Within bound cost) =
    codes "within " ++ (decimal bound ++ (codes " " ++ (decimal cost ++ (10 ∷ []))))
verdict_line (verdicts.Bound bound) = codes "bound " ++ (decimal bound ++ (10 ∷ []))
verdict_line verdicts.Impossible = codes "impossible\n"

-- the text was written and the status is this one, or the sink failed, got a prefix of the text, and the status is that
-- of an error
abbrev pub Tells : Bool → Option (List ℕ) → Option (List ℕ) → List ℕ → ℕ → ℕ → Type 0
Tells true old new text wanted status = (status ≡ 2) × Gets true old new text
Tells false old new text wanted status = (status ≡ wanted) × Gets false old new text

-- whether the error is a refusal
abbrev pub is_refusal : Fault → Bool
is_refusal (F1 fault) = false
is_refusal (F2 fault) = false
is_refusal (F3 fault) = false
is_refusal (F4 input) = false
is_refusal (F5 output) = false
is_refusal F6 = false
is_refusal (Refused refusal) = true
