-- What constraints forbid, and how splits on costs hand them on, on small problems.
use Rattle.std.proofs.Common.{ℕ, ◌<◌, ◌≤◌, [], ◌∷◌, refl, sym, subst, inl, arith}
use Rattle.std.proofs.lemmas.List.Elements.{Contains-get_or}
use Rattle.std.proofs.lemmas.Option.{same_Some}
use Rattle.mapf_lemmas.specs.declared.constraint.PathConstraint.{PathConstraint}
use Rattle.mapf_lemmas.specs.declared.constraint.PathConstraint.TheVariants.{NotAt, NotMove, Clear, Most, Least}
use Rattle.mapf_lemmas.specs.Examples.{task_under, ClearForbidsRest, NotForbidsRestUntilThen, LeastAllowsRestAtItsTick, MostBarsWhoIsLate, MostMeetsNoNot, CostSplitsByTheCost, crossing_statement, crossing_scope, unconstrained, CostsNeedsItsLemma, CostsRaisesTheOther}
use Rattle.mapf_lemmas.specs.Examples.{EqualMeets, StricterMeets, LaterClearMeetsNoNot}
use Rattle.mapf_lemmas.specs.Cases.{BoundsTwo}
use Rattle.mapf_lemmas.specs.SingleLabels.{IsBarred, ForbidsRest, Excludes, MayRest}
use Rattle.mapf_lemmas.specs.Statements.{Statement, Meets}
use Rattle.mapf_lemmas.proofs.CrossingLemmas.{only_member, walk_3_5}
use Rattle.mapf_lemmas.proofs.DistanceLemmas.{walk_apart}
use Rattle.mapf_model.specs.declared.label.Label.TheVariants.{Ticks}
use Rattle.mapf_model.specs.Examples.{open_square}
use Rattle.mapf_model.specs.Labels.{IsAtMost}
use Rattle.mapf_model.proofs.ContainsLemmas.{Contains-none, Contains-cons_new}

rest_under : (constraint : PathConstraint) (tick : ℕ) → (ForbidsRest (task_under constraint) tick constraint → ⊥) → MayRest (task_under constraint) 5 tick
rest_under constraint tick allowed = record {
  at_goal = refl;
  allowed = λ other held forbids. allowed (subst (ForbidsRest (task_under constraint) tick) (sym (only_member constraint other held)) forbids);
}

no_rest_under : (constraint : PathConstraint) (tick : ℕ) → ForbidsRest (task_under constraint) tick constraint → MayRest (task_under constraint) 5 tick → ⊥
no_rest_under constraint tick forbids rest = rest.allowed constraint (Contains-cons_new constraint []) forbids

pub clear_forbids_rest : ClearForbidsRest
clear_forbids_rest = no_rest_under (Clear 5 9) 2 refl

pub not_forbids_rest_until_then : NotForbidsRestUntilThen
not_forbids_rest_until_then =
    (no_rest_under (NotAt 5 4) 4 (refl, omega arith), rest_under (NotAt 5 4) 5 (λ forbids. let late = forbids.1 in omega arith))

pub least_allows_rest_at_its_tick : LeastAllowsRestAtItsTick
least_allows_rest_at_its_tick =
    (no_rest_under (Least 3) 2 (omega arith), rest_under (Least 3) 3 (λ forbids. let less : 3 < 3 = forbids in omega arith))

barred_under : (constraint : PathConstraint) (cell tick : ℕ) → Excludes (task_under constraint) cell tick constraint → IsBarred (task_under constraint) cell tick
barred_under constraint cell tick excludes = (constraint, Contains-cons_new constraint [], excludes)

pub most_bars_who_is_late : MostBarsWhoIsLate
most_bars_who_is_late = (
  λ (constraint, held, excludes).
      let late = subst (Excludes (task_under (Most 2)) 3 0) (sym (only_member (Most 2) constraint held)) excludes in
      let less : 2 < 2 = late 2 walk_3_5 in
      omega arith,
  barred_under (Most 2) 3 1 (λ steps walk. omega (arith, walk_apart open_square 5 steps 3 walk)),
  barred_under (Most 2) 5 3 (λ steps walk. omega arith),
)

pub most_meets_no_not : MostMeetsNoNot
most_meets_no_not = (
  λ (constraint, held, serves). subst (λ one. Meets one (NotAt 5 3)) (sym (only_member (Most 2) constraint held)) serves,
  omega arith,
  λ away. away refl,
)

pub equal_meets : EqualMeets
equal_meets (NotAt cell tick) = (refl, refl)
equal_meets (NotMove from to tick) = (refl, refl, refl)
equal_meets (Clear cell tick) = (refl, omega arith)
equal_meets (Most ticks) = omega arith
equal_meets (Least ticks) = omega arith

pub stricter_meets : StricterMeets
stricter_meets = ((refl, omega arith), (refl, omega arith), (refl, omega arith), omega arith, omega arith)

pub later_clear_meets_no_not : LaterClearMeetsNoNot
later_clear_meets_no_not meets = let late = meets.1 in omega arith

pub cost_splits_by_the_cost : CostSplitsByTheCost
cost_splits_by_the_cost = (refl, refl, refl, refl)

crossing_bound : (total : ℕ) → BoundsTwo crossing_scope unconstrained 0 0 1 total → total ≤ 5
crossing_bound total bounds =
    let same = same_Some crossing_statement bounds.statement bounds.named in
    subst (λ (one : Statement). IsAtMost (Ticks total) one.bound) (sym same) bounds.enough

pub costs_needs_its_lemma : CostsNeedsItsLemma
costs_needs_its_lemma = (
  (
    (λ same. absurd (omega arith), omega arith, omega arith),
    record {
      statement = crossing_statement;
      named = refl;
      usable = record {
        inside = λ k d within. Contains-get_or (0 ∷ 1 ∷ []) k d within;
        met = λ agent needed held. absurd (Contains-none needed held);
      };
      agents = inl refl;
      unpriced = refl;
      enough = omega arith;
    },
  ),
  λ proper. let small = crossing_bound 6 proper.1 in omega arith,
)

pub costs_raises_the_other : CostsRaisesTheOther
costs_raises_the_other = (refl, refl, refl)
