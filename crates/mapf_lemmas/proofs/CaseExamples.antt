-- A lemma by cases of two crossing agents.
use Rattle.std.proofs.Common.{◌≡◌, ◌≢◌, ℕ, zero, suc, ◌<◌, Bool, true, false, cond, List, [], ◌∷◌, Some, All, AllPairs, Contains, slice_get, refl, sym, subst, inl, inr, arith}
use Rattle.std.specs.Prelude.{◌==◌}
use Rattle.std.proofs.lemmas.Bool.{eqb-true}
use Rattle.std.proofs.lemmas.Option.{same_Some}
use Rattle.mapf_lemmas.specs.declared.constraint.PathConstraint.{PathConstraint}
use Rattle.mapf_lemmas.specs.declared.constraint.PathConstraint.TheVariants.{NotAt}
use Rattle.mapf_lemmas.specs.declared.split.Split.TheVariants.{Vertex}
use Rattle.mapf_lemmas.specs.Cases.{left_constraints, right_constraints}
use Rattle.mapf_lemmas.specs.Constraints.{IsConstraintOn}
use Rattle.mapf_lemmas.specs.Examples.{crossing_statement, away_lemma, one_single, cases_lemma, CasesShowFive, away_statement, UsesNeedTheirConstraints}
use Rattle.mapf_lemmas.specs.Groups.{Scope, LeafLabels, IsNamed, IsFloor, IsProperLeaf}
use Rattle.mapf_lemmas.specs.Lemmas.{scope_of, LemmaShows}
use Rattle.mapf_lemmas.specs.Prices.{no_list}
use Rattle.mapf_lemmas.specs.Statements.{Statement, constraints_of, Meets, IsMet}
use Rattle.mapf_lemmas.proofs.CertificateExamples.{crossing_leaf}
use Rattle.mapf_lemmas.proofs.CrossingLemmas.{only_member, distance_3_5, distance_1_7, after_step_of_3, after_step_of_1, away_sound}
use Rattle.mapf_lemmas.proofs.SmallLists.{all_of_one, three_show}
use Rattle.mapf_model.specs.declared.label.Label.TheVariants.{Ticks}
use Rattle.mapf_model.specs.Examples.{open_square, crossing, agent}
use Rattle.mapf_model.proofs.ContainsLemmas.{Contains-none, Contains-cons_new}

-- the lemmas of both agents away from the middle, and where they may be named
abbrev both_away : List Statement
both_away = away_statement 0 ∷ away_statement 1 ∷ []

abbrev away_scope : Scope
away_scope = scope_of crossing [] both_away (0 ∷ 1 ∷ [])

-- by one lemma its agent costs 3, the other one 2
abbrev away_labels : ℕ → LeafLabels
away_labels k = record { floor = λ agent. cond (agent == k) (Ticks 3) (Ticks 2); agents = λ lemma. lemma ∷ []; counted = λ lemma. Ticks 3 }

-- what stands at a node where one agent may not be in the middle
module _ (k : ℕ) (named : slice_get both_away k ≡ Some (away_statement k)) (inside : Contains (0 ∷ 1 ∷ []) k) (constraints : ℕ → List PathConstraint) (stands : Contains (constraints k) (NotAt 4 1)) where
  stand : (agent : ℕ) (needed : PathConstraint) → Contains (constraints_of (record { agent = k; constraint = NotAt 4 1 } ∷ []) agent) needed → IsMet (constraints agent) needed
  stand agent needed held = by (k == agent) refl held
    where
      by : (same : Bool) → (k == agent) ≡ same → Contains (cond same (NotAt 4 1 ∷ []) []) needed → IsMet (constraints agent) needed
      by true is found = (
        NotAt 4 1,
        subst (λ one. Contains (constraints one) (NotAt 4 1)) (eqb-true k agent is) stands,
        subst (Meets (NotAt 4 1)) (only_member (NotAt 4 1) needed found) (refl, refl),
      )
      by false is found = absurd (Contains-none needed found)

  lemma_is : IsNamed away_scope constraints (one_single k) 1 (away_labels k) k
  lemma_is = record {
    statement = away_statement k;
    named = named;
    usable = record { inside = all_of_one (Contains (0 ∷ 1 ∷ [])) k inside; met = stand };
    same_agents = refl;
    counts = inl (refl, refl);
  }

  pub leaf_is_proper : ((agent : ℕ) → Contains (0 ∷ 1 ∷ []) agent → IsFloor away_scope (one_single k) 1 (away_labels k) agent) → IsProperLeaf away_scope constraints (one_single k) no_list (away_labels k)
  leaf_is_proper floors = record {
    is_list = refl;
    positive = omega arith;
    alone = all_of_one (λ lemma. (agent : ℕ) × (lemma ∷ [] ≡ agent ∷ [])) k (k, refl);
    different = λ i j d lt within. absurd (omega arith);
    each = all_of_one (IsNamed away_scope constraints (one_single k) 1 (away_labels k)) k lemma_is;
    floors = floors;
    each_group = λ n d within. absurd (omega arith);
    apart = λ i j d lt within. absurd (omega arith);
  }

no_other_single : (k other : ℕ) → k ≢ other → (lemma : ℕ) → Contains (k ∷ []) lemma → lemma ∷ [] ≢ other ∷ []
no_other_single k other differ lemma held same =
    let first = only_member k lemma held in
    let equal : lemma ≡ other = cc in
    differ (subst (λ n. n ≡ other) (sym first) equal)

floors_of_0 : (agent : ℕ) → Contains (0 ∷ 1 ∷ []) agent → IsFloor away_scope (one_single 0) 1 (away_labels 0) agent
floors_of_0 a (zero, within, is) = subst (IsFloor away_scope (one_single 0) 1 (away_labels 0)) is (inl (0, Contains-cons_new 0 [], refl, refl))
floors_of_0 a (suc zero, within, is) = subst (IsFloor away_scope (one_single 0) 1 (away_labels 0)) is
    (inr (no_other_single 0 1 (λ same. absurd (omega arith)), agent 1 7, Ticks 2, refl, distance_1_7, refl))
floors_of_0 a (suc (suc n), within, is) = absurd (omega arith)

floors_of_1 : (agent : ℕ) → Contains (0 ∷ 1 ∷ []) agent → IsFloor away_scope (one_single 1) 1 (away_labels 1) agent
floors_of_1 a (zero, within, is) = subst (IsFloor away_scope (one_single 1) 1 (away_labels 1)) is
    (inr (no_other_single 1 0 (λ same. absurd (omega arith)), agent 3 5, Ticks 2, refl, distance_3_5, refl))
floors_of_1 a (suc zero, within, is) = subst (IsFloor away_scope (one_single 1) 1 (away_labels 1)) is (inl (1, Contains-cons_new 1 [], refl, refl))
floors_of_1 a (suc (suc n), within, is) = absurd (omega arith)

cases_show : LemmaShows crossing [] both_away cases_lemma crossing_statement
cases_show = record {
  are_agents = (different, λ k d within. below k d within);
  on_grid = λ k d within. absurd (omega arith);
  shows = (
    ((λ same. absurd (omega arith), omega arith, omega arith), refl),
    (no_list, away_labels 0, leaf_is_proper 0 refl (0, omega arith, refl) (left_constraints crossing (λ agent. []) (Vertex 0 1 4 1)) (Contains-cons_new (NotAt 4 1) []) floors_of_0, inr (omega arith)),
    (no_list, away_labels 1, leaf_is_proper 1 refl (1, omega arith, refl) (right_constraints (λ agent. []) (Vertex 0 1 4 1)) (Contains-cons_new (NotAt 4 1) []) floors_of_1, inr (omega arith)),
  );
  is_statement = refl;
}
  where
    different : AllPairs {X = ℕ} (λ i j. i ≢ j) (0 ∷ 1 ∷ [])
    different zero zero d before within = absurd (omega arith)
    different zero (suc zero) d before within = λ same. absurd (omega arith)
    different zero (suc (suc j)) d before within = absurd (omega arith)
    different (suc i) zero d before within = absurd (omega arith)
    different (suc i) (suc j) d before within = absurd (omega arith)

    below : All {X = ℕ} (λ i. i < 2) (0 ∷ 1 ∷ [])
    below zero d within = omega arith
    below (suc zero) d within = omega arith
    below (suc (suc k)) d within = absurd (omega arith)

pub cases_show_five : CasesShowFive
cases_show_five = record {
  proper_lists = λ k d within. absurd (omega arith);
  statements = away_statement 0 ∷ away_statement 1 ∷ crossing_statement ∷ [];
  each = three_show crossing [] (away_lemma 0 3) (away_lemma 1 1) cases_lemma (away_statement 0) (away_statement 1) crossing_statement
      (record {
        list = no_list;
        a = agent 3 5;
        label = Ticks 3;
        is_list = refl;
        is_agent = refl;
        on_grid = all_of_one (IsConstraintOn open_square) (NotAt 4 1) refl;
        sound = away_sound (agent 3 5) (λ same. absurd (omega arith)) distance_3_5 after_step_of_3;
        is_label = refl;
        is_statement = refl;
      })
      (record {
        list = no_list;
        a = agent 1 7;
        label = Ticks 3;
        is_list = refl;
        is_agent = refl;
        on_grid = all_of_one (IsConstraintOn open_square) (NotAt 4 1) refl;
        sound = away_sound (agent 1 7) (λ same. absurd (omega arith)) distance_1_7 after_step_of_1;
        is_label = refl;
        is_statement = refl;
      })
      cases_show;
  shows = crossing_leaf (away_statement 0 ∷ away_statement 1 ∷ crossing_statement ∷ []) 2 refl;
}

-- at the left child no constraint of the second agent stands
pub uses_need_their_constraints : UsesNeedTheirConstraints
uses_need_their_constraints statement shows =
    let leaf = shows.shows.1 in
    let lemma = leaf.2.each 0 1 (omega arith) in
    let same = same_Some (away_statement 1) lemma.statement lemma.named in
    let needed = subst (λ (one : Statement). Contains (constraints_of one.constraints 1) (NotAt 4 1)) same (Contains-cons_new (NotAt 4 1) []) in
    let stands = lemma.usable.met 1 (NotAt 4 1) needed in
    Contains-none stands.0 stands.1
