-- What a split has to meet, and what it adds.
use Rattle.std.proofs.Common.{◌≡◌, ℕ, List, [], ◌∷◌, ◌++◌, Some, map, slice_get, refl, sym, ◌∙◌, ap, subst, ⊎_elim, eq-eqb}
use Rattle.std.proofs.lemmas.Bool.{cases_eq, ne_eqb}
use Rattle.std.proofs.lemmas.Option.{same_Some}
use Rattle.mapf_lemmas.specs.declared.constraint.PathConstraint.{PathConstraint}
use Rattle.mapf_lemmas.specs.declared.constraint.PathConstraint.TheVariants.{Least}
use Rattle.mapf_lemmas.specs.declared.constraint.AgentConstraint.{AgentConstraint}
use Rattle.mapf_lemmas.specs.declared.split.Split.{Split}
use Rattle.mapf_lemmas.specs.declared.split.Split.TheVariants.{Vertex, Swap, Cost, Costs}
use Rattle.mapf_lemmas.specs.Cases.{BoundsTwo, IsProperSplit, left_constraints, right_constraints, with_constraint, with_cost}
use Rattle.mapf_lemmas.specs.Groups.{Scope, MayBeUsed}
use Rattle.mapf_lemmas.specs.Statements.{Statement, constraints_of}
use Rattle.mapf_model.specs.Plan.{Instance}
use Rattle.mapf_cases.specs.declared.addition.Addition.{Addition}
use Rattle.mapf_cases.specs.declared.addition.Addition.TheVariants.{One}
use Rattle.mapf_cases.specs.Splits.{IsBoundOfTwo, IsScopeWith, IsWellFormed, NamesBound, cost_additions, left_additions, right_constraint}
use Rattle.mapf_cases.specs.Standing.{constraints_after}

-- a split is proper if it is well formed, and its lemma says what it needs
pub proper : (problem : Instance) (known : List Statement) (agents : List ℕ) (scope : Scope) (constraints : ℕ → List PathConstraint) (split : Split) → IsScopeWith problem known agents scope →
    IsWellFormed problem split → NamesBound scope constraints split → IsProperSplit scope constraints split
proper problem known agents scope constraints split are formed named =
    by split (subst (λ p. IsWellFormed p split) (sym are.problem_is) formed) named
  where
    by : (split : Split) → IsWellFormed scope.problem split → NamesBound scope constraints split → IsProperSplit scope constraints split
    by (Vertex i j cell tick) formed named = formed
    by (Swap i j from to tick) formed named = formed
    by (Cost i ticks) formed named = formed
    by (Costs i ticks j least lemma) formed named = (formed, named)

-- what the lemma with this number says is that of the known statement
module _ (scope : Scope) (constraints : ℕ → List PathConstraint) (lemma i j total : ℕ) where
  pub bound_named : (statement : Statement) → slice_get scope.known lemma ≡ Some statement → IsBoundOfTwo statement i j total → MayBeUsed scope constraints statement → BoundsTwo scope constraints lemma i j total
  bound_named statement named bound usable = record {
    statement = statement;
    named = named;
    usable = usable;
    agents = bound.agents_are;
    unpriced = bound.unpriced;
    enough = bound.enough;
  }

  same_statement : (statement : Statement) → slice_get scope.known lemma ≡ Some statement → (bounds : BoundsTwo scope constraints lemma i j total) → bounds.statement ≡ statement
  same_statement statement named bounds = same_Some bounds.statement statement (sym bounds.named ∙ named)

  pub bound_of : (statement : Statement) → slice_get scope.known lemma ≡ Some statement → BoundsTwo scope constraints lemma i j total → IsBoundOfTwo statement i j total
  bound_of statement named bounds = subst (λ s. IsBoundOfTwo s i j total) (same_statement statement named bounds) (record { agents_are = bounds.agents; unpriced = bounds.unpriced; enough = bounds.enough })

  pub usable_of : (statement : Statement) → slice_get scope.known lemma ≡ Some statement → BoundsTwo scope constraints lemma i j total → MayBeUsed scope constraints statement
  usable_of statement named bounds = subst (λ s. MayBeUsed scope constraints s) (same_statement statement named bounds) bounds.usable

-- what was added for the children is what stands there
module _ (problem : Instance) (before : List Addition) where
  cost_added : (i ticks : ℕ) → constraints_after (cost_additions problem i ticks ++ before) ≡ with_cost problem (constraints_after before) i ticks
  cost_added i ticks = λ k agent. by agent k
    where
      by : (agent : ℕ) → constraints_after (cost_additions problem i ticks ++ before) agent ≡ with_cost problem (constraints_after before) i ticks agent
      by agent = ⊎_elim
          (λ (same : agent ≡ i). rw (eq-eqb agent i same) refl)
          (λ (apart : agent ≡ i → ⊥). rw (ne_eqb agent i apart) refl)
          (cases_eq agent i)

  pub left_added : (split : Split) → constraints_after (left_additions problem split ++ before) ≡ left_constraints problem (constraints_after before) split
  left_added (Vertex i j cell tick) = refl
  left_added (Swap i j from to tick) = refl
  left_added (Cost i ticks) = cost_added i ticks
  left_added (Costs i ticks j least lemma) = ap (λ (c : ℕ → List PathConstraint). with_constraint c j (Least least)) (cost_added i ticks)

pub right_added : (constraints : ℕ → List PathConstraint) (split : Split) →
    with_constraint constraints (right_constraint split).agent (right_constraint split).constraint ≡ right_constraints constraints split
right_added constraints (Vertex i j cell tick) = refl
right_added constraints (Swap i j from to tick) = refl
right_added constraints (Cost i ticks) = refl
right_added constraints (Costs i ticks j least lemma) = refl

-- those of a list stand after all of them were added
pub all_added : (constraints : List AgentConstraint) → constraints_after (map One constraints) ≡ constraints_of constraints
all_added constraints = λ k agent. by constraints agent k
  where
    by : (constraints : List AgentConstraint) (agent : ℕ) → constraints_after (map One constraints) agent ≡ constraints_of constraints agent
    by [] agent = refl
    by (own ∷ constraints) agent = ⊎_elim
        (λ (same : agent ≡ own.agent). rw (eq-eqb agent own.agent same, eq-eqb own.agent agent (sym same)) (ap (λ (list : List PathConstraint). own.constraint ∷ list) (by constraints agent)))
        (λ (apart : agent ≡ own.agent → ⊥). rw (ne_eqb agent own.agent apart, ne_eqb own.agent agent (λ same. apart (sym same))) (by constraints agent))
        (cases_eq agent own.agent)
