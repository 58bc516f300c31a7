-- What a tree of cases shows is true.
use Rattle.std.proofs.Common.{◌≡◌, ◌⊎◌, ℕ, ◌+◌, ◌<◌, ◌≤◌, List, [], ◌∷◌, Some, All, Contains, length, sum_by, slice_get, slice_index, slice_index_or, nat_eq, refl, sym, ◌∙◌, inl, inr, ⊎_elim, arith}
use Rattle.std.proofs.lemmas.Bool.{eqb-true, eqb-false, cases_eq, cases_lt, cond_both}
use Rattle.std.proofs.lemmas.Option.{slice_get-get_or, slice_get_within, get_or_from_slice_get}
use Rattle.mapf_lemmas.specs.declared.constraint.PathConstraint.{PathConstraint}
use Rattle.mapf_lemmas.specs.declared.constraint.PathConstraint.TheVariants.{NotAt, NotMove, Clear, Most, Least}
use Rattle.mapf_lemmas.specs.declared.split.Split.{Split}
use Rattle.mapf_lemmas.specs.declared.split.Split.TheVariants.{Vertex, Swap, Cost, Costs}
use Rattle.mapf_lemmas.specs.Constraints.{Satisfies}
use Rattle.mapf_lemmas.specs.Lemmas.{AreDifferentAgents}
use Rattle.mapf_lemmas.specs.Prices.{no_list}
use Rattle.mapf_lemmas.specs.Statements.{priced_cost_of, AllSatisfy, IsCosted, StatementHolds}
use Rattle.mapf_lemmas.specs.Groups.{Scope}
use Rattle.mapf_lemmas.specs.Cases.{CaseTree, Branch, Leaf, Clash, with_constraint, with_cost, left_constraints, right_constraints, BoundsTwo, IsProperSplit, TreeShows}
use Rattle.mapf_lemmas.proofs.PlanLemmas.{path_of, path_is, cost_is, cost_of, apart_of}
use Rattle.mapf_lemmas.proofs.GroupLemmas.{usable_true, leaf_true}
use Rattle.mapf_model.specs.declared.label.Label.{Label}
use Rattle.mapf_model.specs.declared.label.Label.TheVariants.{Ticks, Never}
use Rattle.mapf_model.specs.declared.problem.Agent.{Agent}
use Rattle.mapf_model.specs.Labels.{IsAtMost}
use Rattle.mapf_model.specs.Path.{at}
use Rattle.mapf_model.specs.Tree.{ShareGoal}
use Rattle.mapf_model.proofs.ContainsLemmas.{Contains-cons_cases}

through : (m n : ℕ) (label : Label) → IsAtMost (Ticks m) label → IsAtMost label (Ticks n) → m ≤ n
through m n (Ticks k) p q = omega arith
through m n Never p q = absurd q

module _ (scope : Scope) (plan : List (List ℕ)) (costs : List ℕ) (costed : IsCosted scope.problem plan costs) where
  abbrev path : ℕ → List ℕ
  path agent = path_of scope.problem plan costs costed agent

  -- one more constraint of each agent, or none
  AllSatisfy-more : (before after : ℕ → List PathConstraint) → AllSatisfy plan costs before →
      ((agent : ℕ) → agent < length scope.problem.agents → (more : PathConstraint) → Contains (after agent) more → (Contains (before agent) more) ⊎ Satisfies (path agent) (slice_index costs agent) more) →
      AllSatisfy plan costs after
  AllSatisfy-more before after obey each agent cost found path_is cost_is more held =
      let count = costed.valid.count in
      let within = slice_get_within plan agent found path_is in
      ⊎_elim
      (λ (old : Contains (before agent) more). obey agent cost found path_is cost_is more old)
      (λ (new : Satisfies (path agent) (slice_index costs agent) more).
      rw (sym (get_or_from_slice_get plan agent found [] path_is), sym (get_or_from_slice_get costs agent cost 0 cost_is)) new)
      (each agent (omega arith) more held)

  -- one agent's constraint more
  with_one : (constraints : ℕ → List PathConstraint) (i : ℕ) (constraint : PathConstraint) → AllSatisfy plan costs constraints → Satisfies (path i) (slice_index costs i) constraint → AllSatisfy plan costs (with_constraint constraints i constraint)
  with_one constraints i constraint obey fits = AllSatisfy-more constraints (with_constraint constraints i constraint) obey (λ agent within more.
      cond_both (nat_eq agent i) (constraint ∷ constraints agent) (constraints agent) (λ list. Contains list more → Contains (constraints agent) more ⊎ Satisfies (path agent) (slice_index costs agent) more)
      (λ same held. ⊎_elim
      (λ (is : constraint ≡ more). inr (rw (eqb-true agent i same, sym is) fits))
      (λ (old : Contains (constraints agent) more). inl old)
      (Contains-cons_cases constraint more (constraints agent) held))
      (λ other held. inl held))

  rests_of : (agent : ℕ) (a : Agent) → slice_get scope.problem.agents agent ≡ Some a → (tick : ℕ) → slice_index costs agent ≤ tick → at (path agent) tick ≡ a.goal
  rests_of agent a is = (cost_of scope.problem plan costs costed agent a is).rests

  clash_refuted : (i j : ℕ) → ShareGoal scope.problem i j → ⊥
  clash_refuted i j (differ, a, b, first, second, one_goal) =
      let tick : ℕ = slice_index costs i + slice_index costs j in
      apart_of scope.problem plan costs costed i j differ (slice_get_within scope.problem.agents i a first) (slice_get_within scope.problem.agents j b second) tick
      (inl (rests_of i a first tick (omega arith) ∙ one_goal ∙ sym (rests_of j b second tick (omega arith))))

  module _ (i ticks : ℕ) (within_i : i < length scope.problem.agents) where
    abbrev goal_of : Agent
    goal_of = slice_index_or scope.problem.agents i (record { start = 0; goal = 0 })

    is_goal : slice_get scope.problem.agents i ≡ Some goal_of
    is_goal = slice_get-get_or scope.problem.agents i (record { start = 0; goal = 0 }) within_i

    with_least_cost : (constraints : ℕ → List PathConstraint) → AllSatisfy plan costs constraints → slice_index costs i ≤ ticks → AllSatisfy plan costs (with_cost scope.problem constraints i ticks)
    with_least_cost constraints obey few = AllSatisfy-more constraints (with_cost scope.problem constraints i ticks) obey (λ agent within more.
        cond_both (nat_eq agent i) (Most ticks ∷ constraints agent) (Clear goal_of.goal ticks ∷ constraints agent) (λ list. Contains list more → Contains (constraints agent) more ⊎ Satisfies (path agent) (slice_index costs agent) more)
        (λ same held. ⊎_elim
        (λ (is : Most ticks ≡ more). inr (rw (eqb-true agent i same, sym is) few))
        (λ (old : Contains (constraints agent) more). inl old)
        (Contains-cons_cases (Most ticks) more (constraints agent) held))
        (λ other held. ⊎_elim
        (λ (is : Clear goal_of.goal ticks ≡ more). inr (rw (sym is) (λ later after same.
        apart_of scope.problem plan costs costed agent i (λ e. eqb-false agent i other e) within within_i later (inl (same ∙ sym (rests_of i goal_of is_goal later (omega arith)))))))
        (λ (old : Contains (constraints agent) more). inl old)
        (Contains-cons_cases (Clear goal_of.goal ticks) more (constraints agent) held)))

  module _ (known : All (StatementHolds scope.problem scope.lists) scope.known) (constraints : ℕ → List PathConstraint) (obey : AllSatisfy plan costs constraints) where
    two_cost : (lemma i j total : ℕ) → BoundsTwo scope constraints lemma i j total → total ≤ slice_index costs i + slice_index costs j
    two_cost lemma i j total bounds =
        let truth = usable_true scope constraints known plan costs costed obey lemma bounds.statement bounds.named bounds.usable no_list (rw bounds.unpriced refl) in
        let sum : sum_by (priced_cost_of no_list plan costs) bounds.statement.agents ≡ slice_index costs i + slice_index costs j = ⊎_elim
        (λ (same : bounds.statement.agents ≡ i ∷ j ∷ []). rw same (omega arith))
        (λ (same : bounds.statement.agents ≡ j ∷ i ∷ []). rw same (omega arith))
        bounds.agents in
        omega (arith, sum, through total _ bounds.statement.bound bounds.enough truth)

    pub child_kept : (split : Split) → IsProperSplit scope constraints split →
        AllSatisfy plan costs (left_constraints scope.problem constraints split) ⊎ AllSatisfy plan costs (right_constraints constraints split)
    child_kept (Vertex i j cell tick) (two, free) = ⊎_elim
        (λ (here : at (path i) tick ≡ cell). inr (with_one constraints j (NotAt cell tick) obey (λ there. apart_of scope.problem plan costs costed i j two.0 two.1 two.2 tick (inl (here ∙ sym there)))))
        (λ (away : at (path i) tick ≡ cell → ⊥). inl (with_one constraints i (NotAt cell tick) obey away))
        (cases_eq (at (path i) tick) cell)
    child_kept (Swap i j from to tick) (two, adjacent) = ⊎_elim
        (λ (here : at (path i) tick ≡ from). ⊎_elim
        (λ (there : at (path i) (tick + 1) ≡ to). inr (with_one constraints j (NotMove to from tick) obey (λ back. apart_of scope.problem plan costs costed i j two.0 two.1 two.2 tick (inr (here ∙ sym back.1, there ∙ sym back.0)))))
        (λ (away : at (path i) (tick + 1) ≡ to → ⊥). inl (with_one constraints i (NotMove from to tick) obey (λ move. away move.1)))
        (cases_eq (at (path i) (tick + 1)) to))
        (λ (away : at (path i) tick ≡ from → ⊥). inl (with_one constraints i (NotMove from to tick) obey (λ move. away move.0)))
        (cases_eq (at (path i) tick) from)
    child_kept (Cost i ticks) within = ⊎_elim
        (λ (more : ticks < slice_index costs i). inr (with_one constraints i (Least (ticks + 1)) obey (omega arith)))
        (λ (few : slice_index costs i ≤ ticks). inl (with_least_cost i ticks within constraints obey few))
        (cases_lt ticks (slice_index costs i))
    child_kept (Costs i ticks j least lemma) (two, bounds) = ⊎_elim
        (λ (more : ticks < slice_index costs i). inr (with_one constraints i (Least (ticks + 1)) obey (omega arith)))
        (λ (few : slice_index costs i ≤ ticks).
        let sum = two_cost lemma i j (ticks + least) bounds in
        inl (with_one (with_cost scope.problem constraints i ticks) j (Least least) (with_least_cost i ticks two.1 constraints obey few) (omega arith)))
        (cases_lt ticks (slice_index costs i))

  pub tree_true : All (StatementHolds scope.problem scope.lists) scope.known → AreDifferentAgents scope.problem scope.agents → (target : Label) (tree : CaseTree) (constraints : ℕ → List PathConstraint) →
      AllSatisfy plan costs constraints → TreeShows scope target constraints tree → IsAtMost target (Ticks (sum_by (slice_index costs) scope.agents))
  tree_true known are target (Branch split left right) constraints obey (proper, on_left, on_right) = ⊎_elim
      (λ (kept : AllSatisfy plan costs (left_constraints scope.problem constraints split)). tree_true known are target left (left_constraints scope.problem constraints split) kept on_left)
      (λ (kept : AllSatisfy plan costs (right_constraints constraints split)). tree_true known are target right (right_constraints constraints split) kept on_right)
      (child_kept known constraints obey split proper)
  tree_true known are target (Leaf uses) constraints obey shows = leaf_true scope constraints uses target are known shows plan costs costed obey
  tree_true known are target (Clash i j) constraints obey shows = absurd (clash_refuted i j shows)
