-- What runs answer in numbers. (own)
use Rattle.std.specs.Prelude.{ℕ, Bool, List, Option, Some, None, Result, Ok, Err, length, if◌then◌else◌}
use Rattle.mapf_app.specs.declared.answer_writer.Answered.{Answered}
use Rattle.mapf_app.specs.declared.fault.Fault.{Fault}
use Rattle.mapf_app.specs.declared.kind.Kind.{Kind}
use Rattle.mapf_app.specs.declared.kind.Kind.TheVariants.{Found, Impossible, Limit, Within}
use Rattle.mapf_c.specs.Faults.{fault_numbers, none, refusal_numbers}
use Rattle.mapf_c.specs.declared.numbers.Answer.{Answer}
use Rattle.mapf_c.specs.declared.numbers.FaultNumbers.{FaultNumbers}
use Rattle.mapf_c.specs.declared.numbers.Solution.{Solution}
use Rattle.mapf_checker.specs.declared.fault.CheckFault.{CheckFault}
use Rattle.mapf_checker.specs.declared.fault.Verdict.{Verdict}
use Rattle.mapf_checker.specs.declared.fault.Verdict.TheVariants as verdicts
use Rattle.mapf_model.specs.declared.cause.Cause.TheVariants.{Splits, Ticks}

-- an answer of this kind, with its cause, its bound and its cost
abbrev pub answered : (kind cause bound cost : ℕ) → Answer
answered kind cause bound cost = record { kind = kind; cause = cause; bound = bound; cost = cost; fault = none }

-- no answer, for this error
abbrev pub unanswered : FaultNumbers → Answer
unanswered fault = record { kind = 0; cause = 0; bound = 0; cost = 0; fault = fault }

-- the answer of a check with this verdict. The cost of an optimal plan is a bound too
abbrev pub verdict_answer : Verdict → Answer
verdict_answer (verdicts.Optimal cost) = answered 1 0 cost cost
verdict_answer (verdicts.Within bound cost) = answered 2 0 bound cost
verdict_answer (verdicts.Bound bound) = answered 3 0 bound 0
verdict_answer verdicts.Impossible = answered 4 0 0 0

-- the answer of a search of this kind: that of its verdict, and the cause where it stopped without a plan
abbrev pub kind_answer : Kind → Answer
kind_answer (Found cost) = answered 1 0 cost cost
kind_answer Impossible = answered 4 0 0 0
kind_answer (Limit (Splits splits) bound) = answered 3 1 bound 0
kind_answer (Limit Ticks bound) = answered 3 2 bound 0
kind_answer (Within bound cost) = answered 2 0 bound cost

-- the answer of a check that ended so
abbrev pub check_answer : Result Verdict Fault → Answer
check_answer (Ok verdict) = verdict_answer verdict
check_answer (Err fault) = unanswered (fault_numbers fault)

-- what was refused before the answer, if anything was
abbrev pub refused_numbers : Option CheckFault → FaultNumbers
refused_numbers None = none
refused_numbers (Some refusal) = refusal_numbers refusal

-- what a search tells that has no answer, for this error
abbrev pub unsolved : FaultNumbers → Solution
unsolved fault = record {
  answer = unanswered fault;
  refused = none;
  is_written = 0;
  plan_length = 0;
  cert_length = 0;
}

-- what a search tells that ended so, with these texts, which were written or not
abbrev pub solution_of : Result Answered Fault → List ℕ → List ℕ → Bool → Solution
solution_of (Ok given) plan cert is_written = record {
  answer = kind_answer given.kind;
  refused = refused_numbers given.refused;
  is_written = if is_written then 1 else 0;
  plan_length = length plan;
  cert_length = length cert;
}
solution_of (Err fault) plan cert is_written = unsolved (fault_numbers fault)
