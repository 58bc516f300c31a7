-- What the judge of one agent's entries rests on.
use Rattle.std.proofs.Common.{◌≡◌, ◌↔◌, ℕ, zero, suc, ◌+◌, ◌<◌, ◌≤◌, nat_lt, not, Bool, true, false, List, [], ◌∷◌, Some, None, Contains, IsTrue, refl, sym, ◌∙◌, ap, subst, inl, inr, ⊎_elim, arith}
use Rattle.std.proofs.lemmas.Bool.{cases_lt, lt-ltb, ltb-true, iff_false, not_from_false, not-true}
use Rattle.mapf_lemmas.specs.declared.constraint.PathConstraint.{PathConstraint}
use Rattle.mapf_lemmas.specs.declared.constraint.PathConstraint.TheVariants.{NotAt, NotMove, Clear, Most, Least}
use Rattle.mapf_lemmas.specs.Constraints.{demanded_by, demanded_cost}
use Rattle.mapf_lemmas.specs.SingleLabels.{Task, MayRest, ForbidsRest, IsDefault}
use Rattle.mapf_model.specs.declared.label.Label.{Label}
use Rattle.mapf_model.specs.declared.label.Label.TheVariants.{Ticks, Never}
use Rattle.mapf_model.specs.Grid.{IsFree}
use Rattle.mapf_model.specs.Labels.{IsAtMost, label_plus}
use Rattle.mapf_model.proofs.StepLemmas.{step_start}
use Rattle.mapf_model.specs.Distance.{Walk, IsDistance}
use Rattle.mapf_model.proofs.ContainsLemmas.{Contains-none, Contains-cons_new, Contains-cons_old, Contains-cons_cases}
use Rattle.mapf_single_labels.specs.Ranges.{IsLabelUpTo}
use Rattle.mapf_single_labels.specs.TaskConstraints.{IsForbiddenFrom, IsLeastMost}
use Rattle.mapf_single_labels.specs.Tasks.{IsTooLate}

pub up_to_more : (label : Label) (m n : ℕ) → IsLabelUpTo m label → m ≤ n → IsLabelUpTo n label
up_to_more (Ticks k) m n low le = omega arith
up_to_more Never m n low le = tt

pub sum_up_to : (a b : Label) (m n : ℕ) → IsLabelUpTo m a → IsLabelUpTo n b → IsLabelUpTo (m + n) (label_plus a b)
sum_up_to (Ticks a) (Ticks b) m n p q = omega arith
sum_up_to (Ticks a) Never m n p q = tt
sum_up_to Never b m n p q = tt

-- a bound, which is the sum of this price and of the label
pub bound_up_to : (price most : ℕ) (label bound : Label) → bound ≡ label_plus (Ticks price) label → IsLabelUpTo most label → IsLabelUpTo (price + most) bound
bound_up_to price most label bound is low = subst (IsLabelUpTo (price + most)) (sym is) (sum_up_to (Ticks price) label price most (omega arith) low)

-- a demanded cost is among the constraints
demanded_held : (constraints : List PathConstraint) (ticks : ℕ) → Contains constraints (Least ticks) → ticks ≤ demanded_cost constraints
demanded_held [] ticks held = absurd (Contains-none (Least ticks) held)
demanded_held (one ∷ constraints) ticks held = elim (Contains-cons_cases one (Least ticks) constraints held) [
  | inl same ↦ let e : demanded_by one ≡ ticks = ap demanded_by same in omega arith
  | inr later ↦ let low = demanded_held constraints ticks later in omega arith
]

demanding_one : (one : PathConstraint) (tick : ℕ) → tick < demanded_by one → (ticks : ℕ) × (one ≡ Least ticks) × (tick < ticks)
demanding_one (Least ticks) tick less = (ticks, refl, less)
demanding_one (NotAt c t) tick less = absurd (omega arith)
demanding_one (NotMove c d t) tick less = absurd (omega arith)
demanding_one (Clear c t) tick less = absurd (omega arith)
demanding_one (Most t) tick less = absurd (omega arith)

demanding : (constraints : List PathConstraint) (tick : ℕ) → tick < demanded_cost constraints → (ticks : ℕ) × Contains constraints (Least ticks) × (tick < ticks)
demanding [] tick less = absurd (omega arith)
demanding (one ∷ constraints) tick less = ⊎_elim
    (λ (here : tick < demanded_by one). let (ticks, is, more) = demanding_one one tick here in (ticks, subst (λ x. Contains (one ∷ constraints) x) is (Contains-cons_new one constraints), more))
    (λ (past : demanded_by one ≤ tick). let (ticks, held, more) = demanding constraints tick (omega arith) in (ticks, Contains-cons_old one (Least ticks) constraints held, more))
    (cases_lt tick (demanded_by one))

module _ (task : Task) (cell tick : ℕ) where
  pub late_none : IsLeastMost task.constraints None → IsTooLate task cell tick → ⊥
  late_none none (ticks, held, late) = none ticks held

  pub late_some : (most distance : ℕ) → IsLeastMost task.constraints (Some most) → IsDistance task.grid task.agent.goal cell distance → IsTrue (nat_lt most (tick + distance)) ↔ IsTooLate task cell tick
  late_some most distance is far = (
    λ yes. let less = ltb-true most (tick + distance) yes in (most, is.0, λ steps walk. let low = far.least steps walk in omega arith),
    λ there. let (ticks, held, late) = there in
        let low = is.1 ticks held in
        let less = late distance far.walk in
        lt-ltb most (tick + distance) (omega arith),
  )

  pub no_rest_yet : tick < demanded_cost task.constraints → MayRest task cell tick → ⊥
  no_rest_yet less may = let (ticks, held, more) = demanding task.constraints tick less in may.allowed (Least ticks) held more

  pub may_rest_if : (held : Bool) → cell ≡ task.agent.goal → demanded_cost task.constraints ≤ tick → IsTrue held ↔ IsForbiddenFrom task.constraints cell tick → IsTrue (not held) ↔ MayRest task cell tick
  may_rest_if held at enough decided = (
    λ yes. let open_from = iff_false decided (not-true held yes) in record { at_goal = at; allowed = λ one stands. allows open_from one stands },
    λ may. not_from_false held (by may held refl),
  )
    where
      allows : (IsForbiddenFrom task.constraints cell tick → ⊥) → (one : PathConstraint) → Contains task.constraints one → ForbidsRest task tick one → ⊥
      allows free (NotAt c later) stands forbids = free (inl (later, forbids.1, subst (λ x. Contains task.constraints (NotAt x later)) (forbids.0 ∙ sym at) stands))
      allows free (Clear c from) stands forbids = free (inr (from, subst (λ x. Contains task.constraints (Clear x from)) (forbids ∙ sym at) stands))
      allows free (Least ticks) stands forbids = let low = demanded_held task.constraints ticks stands in omega arith
      allows free (NotMove c d t) stands forbids = forbids
      allows free (Most t) stands forbids = forbids

      by : MayRest task cell tick → (b : Bool) → held ≡ b → held ≡ false
      by may false e = e
      by may true e = absurd (elim (decided.0 e) [
        | inl there ↦ let (later, late, stands) = there in may.allowed (NotAt cell later) stands (at, late)
        | inr there ↦ let (from, stands) = there in may.allowed (Clear cell from) stands at
      ])

-- the label exceeds the default
abbrev pub IsRaised : Task → ℕ → ℕ → Label → Type 0
IsRaised task cell tick label = (default : ℕ) × IsDefault task cell tick (Ticks default) × IsAtMost (Ticks (default + 1)) label

pub raised : (task : Task) (cell tick : ℕ) (label default : Label) → IsDefault task cell tick default → (IsAtMost label default → ⊥) → IsRaised task cell tick label
raised task cell tick (Ticks m) (Ticks n) is more = (n, is, ⊎_elim (λ (less : n < m). omega arith) (λ (low : m ≤ n). absurd (more low)) (cases_lt n m))
raised task cell tick Never (Ticks n) is more = (n, is, tt)
raised task cell tick label Never is more = absurd (more (below_never label))
  where
    below_never : (l : Label) → IsAtMost l Never
    below_never (Ticks n) = tt
    below_never Never = tt

walk_free : (task : Task) (cell steps : ℕ) → Walk task.grid cell task.agent.goal steps → IsFree task.grid cell
walk_free task cell zero walk = walk.0
walk_free task cell (suc n) (next, step, rest) = step_start task.grid cell next step

pub raised_free : (task : Task) (cell tick : ℕ) (label : Label) → IsRaised task cell tick label → IsFree task.grid cell
raised_free task cell tick label (default, (distance, far, same), more) = walk_free task cell distance far.walk
