-- The agents of a scope, and whether a lemma may be used.
use Rattle.std.proofs.Common.{◌≡◌, ℕ, ◌+◌, ◌<◌, ◌≤◌, Bool, true, List, [], ◌∷◌, All, Contains, length, get_or, take, slice_set, refl, sym, subst, ⊎_elim, eq-eqb, arith}
use Rattle.std.proofs.lemmas.Bool.{cases_eq, ne_eqb}
use Rattle.std.proofs.lemmas.List.{take_more, take_all}
use Rattle.std.proofs.lemmas.List.Elements.{All-cons, All-head, All-tail, Contains-append_left, Contains-push, Contains-push_cases}
use Rattle.mapf_lemmas.specs.declared.constraint.PathConstraint.{PathConstraint}
use Rattle.mapf_lemmas.specs.declared.constraint.AgentConstraint.{AgentConstraint}
use Rattle.mapf_lemmas.specs.Groups.{Scope, MayBeUsed}
use Rattle.mapf_lemmas.specs.Statements.{Statement, IsMet, constraints_of}
use Rattle.mapf_model.proofs.ContainsLemmas.{Contains-none, Contains-cons_cases, Contains-cons_new, Contains-cons_old}
use Rattle.mapf_model.proofs.PlaceLemmas.{slice_get-set_same, slice_get-set_other}
use Rattle.mapf_cases.specs.Scopes.{Mark}

-- one more agent is marked
pub mark_more : (agents : List ℕ) (marks : List Bool) (n : ℕ) → n < length agents → get_or agents n 0 < length marks → Mark (take n agents) marks → Mark (take (n + 1) agents) (slice_set marks (get_or agents n 0) true)
mark_more agents marks n within inside mark agent = rw (take_more agents n 0 within) (⊎_elim
    (λ (same : agent ≡ get_or agents n 0). rw same (λ _. Contains-push (take n agents) (get_or agents n 0), λ _. slice_get-set_same marks (get_or agents n 0) true inside))
    (λ (apart : agent ≡ get_or agents n 0 → ⊥). rw (slice_get-set_other marks (get_or agents n 0) agent true apart) (
      λ marked. Contains-append_left (take n agents) (get_or agents n 0 ∷ []) agent ((mark agent).0 marked),
      λ held. ⊎_elim
          (λ (old : Contains (take n agents) agent). (mark agent).1 old)
          (λ (new : get_or agents n 0 ≡ agent). absurd (apart (sym new)))
          (Contains-push_cases (take n agents) (get_or agents n 0) agent held),
    ))
    (cases_eq agent (get_or agents n 0)))

pub mark_all : (agents : List ℕ) (marks : List Bool) (n : ℕ) → length agents ≤ n → Mark (take n agents) marks → Mark agents marks
mark_all agents marks n all mark = subst (λ (xs : List ℕ). Mark xs marks) (take_all n agents all) mark

-- a property of each constraint of a list, by agent
module _ (Holds : ℕ → PathConstraint → Type 0) where
  abbrev HoldsOwn : AgentConstraint → Type 0
  HoldsOwn own = Holds own.agent own.constraint

  each_of : (constraints : List AgentConstraint) → All HoldsOwn constraints → (agent : ℕ) (needed : PathConstraint) → Contains (constraints_of constraints agent) needed → Holds agent needed
  each_of [] all agent needed held = absurd (Contains-none needed held)
  each_of (own ∷ constraints) all agent needed held =
      let rest = All-tail HoldsOwn own constraints all in
      ⊎_elim
      (λ (same : own.agent ≡ agent). ⊎_elim
      (λ (is : own.constraint ≡ needed). subst (λ a. Holds a needed) same (subst (λ k. Holds own.agent k) is (All-head HoldsOwn own constraints all)))
      (λ (old : Contains (constraints_of constraints agent) needed). each_of constraints rest agent needed old)
      (Contains-cons_cases own.constraint needed (constraints_of constraints agent) (rw (eq-eqb own.agent agent same) at held)))
      (λ (apart : own.agent ≡ agent → ⊥). each_of constraints rest agent needed (rw (ne_eqb own.agent agent apart) at held))
      (cases_eq own.agent agent)

  of_first : (own : AgentConstraint) (constraints : List AgentConstraint) → Contains (constraints_of (own ∷ constraints) own.agent) own.constraint
  of_first own constraints = rw (eq-eqb own.agent own.agent refl) (Contains-cons_new own.constraint (constraints_of constraints own.agent))

  of_rest : (own : AgentConstraint) (constraints : List AgentConstraint) (agent : ℕ) (needed : PathConstraint) → Contains (constraints_of constraints agent) needed → Contains (constraints_of (own ∷ constraints) agent) needed
  of_rest own constraints agent needed held = ⊎_elim
      (λ (same : own.agent ≡ agent). rw (eq-eqb own.agent agent same) (Contains-cons_old own.constraint needed (constraints_of constraints agent) held))
      (λ (apart : own.agent ≡ agent → ⊥). rw (ne_eqb own.agent agent apart) held)
      (cases_eq own.agent agent)

  all_from : (constraints : List AgentConstraint) → ((agent : ℕ) (needed : PathConstraint) → Contains (constraints_of constraints agent) needed → Holds agent needed) → All HoldsOwn constraints
  all_from [] each = λ k d within. absurd (omega arith)
  all_from (own ∷ constraints) each =
      All-cons HoldsOwn own constraints (each own.agent own.constraint (of_first own constraints)) (all_from constraints (λ agent needed held. each agent needed (of_rest own constraints agent needed held)))

-- the tests of a use
module _ (scope : Scope) (constraints : ℕ → List PathConstraint) (statement : Statement) (agents : List ℕ) (same : scope.agents ≡ agents) where
  abbrev pub AllMet : Type 0
  AllMet = All (λ (own : AgentConstraint). IsMet (constraints own.agent) own.constraint) statement.constraints

  pub usable : All (Contains agents) statement.agents → AllMet → MayBeUsed scope constraints statement
  usable inside met = record {
    inside = subst (λ (list : List ℕ). All (Contains list) statement.agents) (sym same) inside;
    met = each_of (λ agent needed. IsMet (constraints agent) needed) statement.constraints met;
  }

  pub usable_inside : MayBeUsed scope constraints statement → All (Contains agents) statement.agents
  usable_inside may = subst (λ (list : List ℕ). All (Contains list) statement.agents) same may.inside

  pub usable_met : MayBeUsed scope constraints statement → AllMet
  usable_met may = all_from (λ agent needed. IsMet (constraints agent) needed) statement.constraints may.met
