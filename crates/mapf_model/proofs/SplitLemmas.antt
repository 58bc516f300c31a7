-- A split loses no valid plan.
use Rattle.std.proofs.Common.{◌≡◌, ◌⊎◌, ℕ, ◌+◌, List, ◌∷◌, Option, Some, None, Contains, slice_get, refl, sym, ◌∙◌, subst, inl, inr, ⊎_elim, nat_eq, arith}
use Rattle.std.proofs.lemmas.Bool.{cases_eq, cond_both, eqb-true}
use Rattle.std.proofs.lemmas.Option.{same_Some}
use Rattle.mapf_model.specs.declared.bar.Bar.{Bar}
use Rattle.mapf_model.specs.declared.bar.Bar.TheVariants.{Cell, Move}
use Rattle.mapf_model.specs.declared.conflict.Conflict.{Conflict}
use Rattle.mapf_model.specs.declared.conflict.Conflict.TheVariants.{Vertex, Swap}
use Rattle.mapf_model.specs.Path.{at}
use Rattle.mapf_model.specs.Bars.{Violates, Satisfies}
use Rattle.mapf_model.specs.Plan.{Instance, IsValid}
use Rattle.mapf_model.specs.Tree.{ConstraintTree, Split, Leaf, Clash, NodeContext, root, with_bar, with_constraint, left_constraint, right_constraint, left_child_context, right_child_context, AtEachNode, AtSomeEnd, IsProperSplit, IsProperNode, AllSatisfy}
use Rattle.mapf_model.proofs.ContainsLemmas.{Contains-cons_cases}

decide_meets : (bar : Bar) (path : List ℕ) → Violates bar path ⊎ (Violates bar path → ⊥)
decide_meets (Cell cell tick) path = cases_eq (at path tick) cell
decide_meets (Move from to tick) path =
    elim (cases_eq (at path tick) from) [
      | inl here ↦ elim (cases_eq (at path (tick + 1)) to) [ inl there ↦ inl (here, there) | inr not_there ↦ inr (λ m. not_there m.1) ]
      | inr not_here ↦ inr (λ m. not_here m.0)
    ]

-- plans that obey the bars, and one more that the agent's path doesn't meet
AllSatisfy-with_bar : (plan : List (List ℕ)) (bars : ℕ → List Bar) (i : ℕ) (bar : Bar) → AllSatisfy plan bars → ((path : List ℕ) → slice_get plan i ≡ Some path → Violates bar path → ⊥) → AllSatisfy plan (with_bar bars i bar)
AllSatisfy-with_bar plan bars i bar obey misses agent path is =
    cond_both (nat_eq agent i) (bar ∷ bars agent) (bars agent) (λ bs. Satisfies bs path)
    (λ same b in_it meets. ⊎_elim
    (λ (e : bar ≡ b). misses path (subst (λ k. slice_get plan k ≡ Some path) (eqb-true agent i same) is) (subst (λ x. Violates x path) (sym e) meets))
    (λ (rest : Contains (bars agent) b). obey agent path is b rest meets)
    (Contains-cons_cases bar b (bars agent) in_it))
    (λ other. obey agent path is)

-- if no two paths of the agents meet one bar each, the plan obeys the one or the other
choose : (plan : List (List ℕ)) (bars : ℕ → List Bar) (i j : ℕ) (left right : Bar) → AllSatisfy plan bars →
    ((p q : List ℕ) → slice_get plan i ≡ Some p → slice_get plan j ≡ Some q → Violates left p → Violates right q → ⊥) →
    AllSatisfy plan (with_bar bars i left) ⊎ AllSatisfy plan (with_bar bars j right)
choose plan bars i j left right obey apart = by_path (slice_get plan i) refl
  where
    by_path : (found : Option (List ℕ)) → slice_get plan i ≡ found → AllSatisfy plan (with_bar bars i left) ⊎ AllSatisfy plan (with_bar bars j right)
    by_path None none = inl (AllSatisfy-with_bar plan bars i left obey (λ path is meets. cc))
    by_path (Some p) first = ⊎_elim
        (λ (meets : Violates left p). inr (AllSatisfy-with_bar plan bars j right obey (λ q second. apart p q first second meets)))
        (λ (misses : Violates left p → ⊥). inl (AllSatisfy-with_bar plan bars i left obey (λ path is meets. misses (subst (λ x. Violates left x) (same_Some path p (sym is ∙ first)) meets))))
        (decide_meets left p)

pub split : (problem : Instance) (plan : List (List ℕ)) (bars : ℕ → List Bar) (conflict : Conflict) → IsProperSplit problem conflict → IsValid problem plan → AllSatisfy plan bars →
    AllSatisfy plan (with_constraint bars (left_constraint conflict)) ⊎ AllSatisfy plan (with_constraint bars (right_constraint conflict))
split problem plan bars (Vertex i j cell tick) proper valid obey =
    choose plan bars i j (Cell cell tick) (Cell cell tick) obey
    (λ p q first second here there. valid.apart i j tick p q proper.0.0 first second (inl (here ∙ sym there)))
split problem plan bars (Swap i j from to tick) proper valid obey =
    choose plan bars i j (Move from to tick) (Move to from tick) obey
    (λ p q first second there back. valid.apart i j tick p q proper.0.0 first second (inr (there.0 ∙ sym back.1, there.1 ∙ sym back.0)))

pub some_end_obeyed : (problem : Instance) (plan : List (List ℕ)) → IsValid problem plan → (tree : ConstraintTree) (context : NodeContext) → AtEachNode (λ to node. IsProperNode problem node) context tree → AllSatisfy plan context.bars → AtSomeEnd (λ to. AllSatisfy plan to.bars) context tree
some_end_obeyed problem plan valid (Split conflict blocks left right) context proper obey = ⊎_elim
    (λ (on_left : AllSatisfy plan (with_constraint context.bars (left_constraint conflict))). inl (some_end_obeyed problem plan valid left (left_child_context context conflict blocks) proper.1 on_left))
    (λ (on_right : AllSatisfy plan (with_constraint context.bars (right_constraint conflict))). inr (some_end_obeyed problem plan valid right (right_child_context context conflict blocks) proper.2 on_right))
    (split problem plan context.bars conflict proper.0.0 valid obey)
some_end_obeyed problem plan valid (Leaf blocks) context proper obey = obey
some_end_obeyed problem plan valid (Clash i j) context proper obey = obey

pub AllSatisfy-root : (plan : List (List ℕ)) → AllSatisfy plan root.bars
AllSatisfy-root plan i path is bar (k, within, same) = absurd (omega arith)
