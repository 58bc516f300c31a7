-- The objects that tell the answers of `solve` and the verdicts of `check`. (own)
use Rattle.std.specs.Prelude.{◌∷◌, [], ℕ, List, codes}
use Rattle.mapf_app.specs.declared.kind.Kind.{Kind}
use Rattle.mapf_app.specs.declared.kind.Kind.TheVariants.{Found, Impossible, Limit, Within}
use Rattle.mapf_checker.specs.declared.fault.Verdict.{Verdict}
use Rattle.mapf_checker.specs.declared.fault.Verdict.TheVariants as verdicts
use Rattle.mapf_json.specs.Objects.{number, object, word}
use Rattle.mapf_model.specs.declared.cause.Cause.TheVariants.{Splits, Ticks}

-- the sum of costs of a plan, in ticks
abbrev pub of_cost : ℕ → List ℕ
of_cost cost = number (codes "cost") cost

-- a bound: no valid plan has a smaller sum of costs, in ticks
abbrev pub of_bound : ℕ → List ℕ
of_bound bound = number (codes "bound") bound

-- the object of an answer of `solve`
abbrev pub kind_object : Kind → List ℕ
kind_object (Found cost) = object (codes "cost") (of_cost cost ∷ [])
kind_object Impossible = object (codes "impossible") []
kind_object (Limit (Splits splits) bound) = object (codes "limit")
    (word (codes "cause") (codes "splits") ∷ number (codes "splits") splits ∷ of_bound bound ∷ [])
kind_object (Limit Ticks bound) = object (codes "limit") (word (codes "cause") (codes "ticks") ∷ of_bound bound ∷ [])
kind_object (Within bound cost) = object (codes "within") (of_bound bound ∷ of_cost cost ∷ [])

-- the object of a verdict of `check`
abbrev pub verdict_object : Verdict → List ℕ
verdict_object (verdicts.Optimal cost) = object (codes "optimal") (of_cost cost ∷ [])
verdict_object (verdicts.Within bound cost) = object (codes "within") (of_bound bound ∷ of_cost cost ∷ [])
verdict_object (verdicts.Bound bound) = object (codes "bound") (of_bound bound ∷ [])
verdict_object verdicts.Impossible = object (codes "impossible") []
