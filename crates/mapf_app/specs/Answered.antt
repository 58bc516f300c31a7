-- What a run that solves a problem by a search of the user's choice answers.
use Rattle.std.specs.Prelude.{◌≡◌, ◌⊎◌, ⊤, ℕ, List, Option, Some, None, Result, Ok, Err, IsSome}
use Rattle.mapf_app.specs.Policy.{FollowsPolicy}
use Rattle.mapf_app.specs.Solved.{Prints}
use Rattle.mapf_app.specs.declared.answer_writer.Answered.{Answered}
use Rattle.mapf_app.specs.declared.fault.Fault.{Fault}
use Rattle.mapf_app.specs.declared.kind.Kind.{Kind}
use Rattle.mapf_app.specs.declared.kind.Kind.TheVariants.{Found, Impossible, Limit, Within}
use Rattle.mapf_checker.specs.declared.fault.CheckFault.{CheckFault}
use Rattle.mapf_model.specs.Plan.{Instance}
use Rattle.mapf_model.specs.declared.cause.Cause.TheVariants.{Splits, Ticks}
use Rattle.mapf_words.specs.declared.job.Search.{Search}
use Rattle.mapf_words.specs.declared.job.Search.TheVariants.{Cbs, Cbsh}

-- the answer with what was refused before it; an error stays as it is
abbrev pub with_refusal : Result Kind Fault → Option CheckFault → Result Answered Fault
with_refusal (Ok kind) refused = Ok (record { kind = kind; refused = refused })
with_refusal (Err fault) refused = Err fault

-- the search whose answer it is, if this one was asked for: plain search if what was answered before was refused
abbrev pub answering : Search → Option CheckFault → Search
answering search None = search
answering search (Some refusal) = Cbs

-- the answer is plain search's: it was asked for, or what the other search answered was refused
abbrev pub IsOfPlainSearch : Search → Answered → Type 0
IsOfPlainSearch search answer = (search ≡ Cbs) ⊎ IsSome answer.refused

-- the answer of a run by the second search and its two texts are true, and follow the policy of plain search if what
-- the second search answered was refused before
abbrev pub IsCheckedAnswer : Instance → ℕ → Answered → List ℕ → List ℕ → Type 0
IsCheckedAnswer problem limit answer plan cert = Prints (answering Cbsh answer.refused) problem answer.kind plan cert
    × (IsSome answer.refused → FollowsPolicy problem limit answer.kind plan cert)

-- an answer that names a number of splits names the limit
abbrev pub IsLimitedBy : ℕ → Kind → Type 0
IsLimitedBy limit (Found cost) = ⊤
IsLimitedBy limit Impossible = ⊤
IsLimitedBy limit (Limit (Splits splits) bound) = splits ≡ limit
IsLimitedBy limit (Limit Ticks bound) = ⊤
IsLimitedBy limit (Within bound cost) = ⊤
