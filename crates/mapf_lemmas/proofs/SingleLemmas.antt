-- Sound labels of one agent bound what is left of its priced cost.
use Rattle.std.proofs.Common.{◌≡◌, ℕ, zero, suc, ◌+◌, ◌-◌, ◌≤◌, max, List, [], ◌∷◌, Option, Some, None, refl, sym, ◌∙◌, ap, arith}
use Rattle.std.proofs.lemmas.Nat.{mul-le}
use Rattle.mapf_lemmas.specs.declared.constraint.PathConstraint.{PathConstraint}
use Rattle.mapf_lemmas.specs.declared.constraint.PathConstraint.TheVariants.{NotAt, NotMove, Clear, Most, Least}
use Rattle.mapf_lemmas.specs.Constraints.{Satisfies, SatisfiesAll, demanded_by, demanded_cost}
use Rattle.mapf_lemmas.specs.Prices.{rest_price, cell_price, priced_cost}
use Rattle.mapf_lemmas.specs.SingleLabels.{Task, IsBarred, ForbidsRest, MayStep, MayRest, IsDefault, IsListedOr, IsSingleLabel, step_price, AreSound}
use Rattle.mapf_lemmas.proofs.PriceLemmas.{left, paid_at_start, left_after_step, rest_is_left}
use Rattle.mapf_model.specs.declared.label.Label.{Label}
use Rattle.mapf_model.specs.declared.label.Label.TheVariants.{Ticks, Never}
use Rattle.mapf_model.specs.Grid.{Step}
use Rattle.mapf_model.specs.Path.{at, RestsFrom}
use Rattle.mapf_model.specs.Distance.{Walk}
use Rattle.mapf_model.proofs.StepLemmas.{step_start}
use Rattle.mapf_model.specs.Labels.{Entries, IsAtMost, label_plus}

pub within_bound : (a b : Label) (price m n : ℕ) → IsAtMost a (label_plus (Ticks price) b) → IsAtMost b (Ticks m) → price + m ≤ n → IsAtMost a (Ticks n)
within_bound (Ticks a) (Ticks b) price m n p q r = omega arith
within_bound a Never price m n p q r = absurd q
within_bound Never (Ticks b) price m n p q r = p

pub at_most_later : (a : Label) (m n : ℕ) → IsAtMost a (Ticks m) → m ≤ n → IsAtMost a (Ticks n)
at_most_later (Ticks a) m n p q = omega arith
at_most_later Never m n p q = p

pub plus_bound : (a : Label) (price m n : ℕ) → IsAtMost a (Ticks m) → price + m ≤ n → IsAtMost (label_plus (Ticks price) a) (Ticks n)
plus_bound (Ticks a) price m n p q = omega arith
plus_bound Never price m n p q = p

demanded_allowed : (path : List ℕ) (cost : ℕ) (constraint : PathConstraint) → Satisfies path cost constraint → demanded_by constraint ≤ cost
demanded_allowed path cost (Least ticks) obeys = obeys
demanded_allowed path cost (NotAt cell tick) obeys = omega arith
demanded_allowed path cost (NotMove from to tick) obeys = omega arith
demanded_allowed path cost (Clear cell tick) obeys = omega arith
demanded_allowed path cost (Most ticks) obeys = omega arith

pub demanded_cost_allowed : (path : List ℕ) (cost : ℕ) (constraints : List PathConstraint) → SatisfiesAll path cost constraints → demanded_cost constraints ≤ cost
demanded_cost_allowed path cost [] obeys = omega arith
demanded_cost_allowed path cost (constraint ∷ constraints) obeys =
    let first = demanded_allowed path cost constraint (obeys constraint (0, omega arith, refl)) in
    let rest = demanded_cost_allowed path cost constraints (λ other (k, within, is). obeys other (suc k, omega arith, is)) in
    omega arith

module _
    (task : Task) (entries : Entries) (path : List ℕ) (cost : ℕ)
    (sound : AreSound task entries)
    (steps : (tick : ℕ) → Step task.grid (at path tick) (at path (tick + 1)))
    (obeys : SatisfiesAll path cost task.constraints)
    (rests : RestsFrom task.agent.goal path cost)
  where
    pub walk_left : (k tick : ℕ) → tick + k ≡ cost → Walk task.grid (at path tick) task.agent.goal k
    walk_left zero tick e = (step_start task.grid (at path tick) (at path (tick + 1)) (steps tick), rests tick (omega arith))
    walk_left (suc k) tick e = (at path (tick + 1), steps tick, walk_left k (tick + 1) (omega arith))

    pub free : (tick : ℕ) → tick ≤ cost → IsBarred task (at path tick) tick → ⊥
    free tick within (NotAt cell then, held, excludes) = obeys (NotAt cell then) held (ap (at path) excludes.1 ∙ sym excludes.0)
    free tick within (Clear cell then, held, excludes) = obeys (Clear cell then) held tick excludes.1 (sym excludes.0)
    free tick within (Most ticks, held, late) =
        let most : cost ≤ ticks = obeys (Most ticks) held in
        let more = late (cost - tick) (walk_left (cost - tick) tick (omega arith)) in
        absurd (omega arith)
    free tick within (NotMove from to then, held, none) = none
    free tick within (Least ticks, held, none) = none

    pub default_left : (k tick : ℕ) → tick + k ≡ cost → (label : Label) → IsDefault task (at path tick) tick label → IsAtMost label (Ticks (left task.list path k tick))
    default_left k tick e (Ticks n) (distance, is, same) =
        let far = is.least k (walk_left k tick e) in
        let least = demanded_cost_allowed path cost task.constraints obeys in
        let both : max distance (demanded_cost task.constraints - tick) ≤ k = omega arith in
        let worth = mul-le task.list.unit (max distance (demanded_cost task.constraints - tick)) task.list.unit k (omega arith) both in
        omega (arith, same, worth)
    default_left k tick e Never none = none k (walk_left k tick e)

    rest_allowed : (tick : ℕ) → tick ≡ cost → (constraint : PathConstraint) → Satisfies path cost constraint → ForbidsRest task tick constraint → ⊥
    rest_allowed tick e (NotAt cell later) fits forbids = fits (rests later (let past = forbids.1 in omega arith) ∙ sym forbids.0)
    rest_allowed tick e (Clear cell from) fits forbids = fits (cost + from) (omega arith) (rests (cost + from) (omega arith) ∙ sym forbids)
    rest_allowed tick e (Least ticks) fits forbids = absurd (omega arith)
    rest_allowed tick e (NotMove from to then) fits forbids = forbids
    rest_allowed tick e (Most ticks) fits forbids = forbids

    pub may_rest : (tick : ℕ) → tick ≡ cost → MayRest task (at path tick) tick
    may_rest tick e = record {
      at_goal = rests tick (omega arith);
      allowed = λ constraint held. rest_allowed tick e constraint (obeys constraint held);
    }

    pub may_step : (tick : ℕ) → tick + 1 ≤ cost → MayStep task (at path tick) (at path (tick + 1)) tick
    may_step tick before = record {
      step = steps tick;
      arrival = free (tick + 1) before;
      move = λ held. obeys (NotMove (at path tick) (at path (tick + 1)) tick) held (refl, refl);
    }

    -- backwards from the last arrival, if the state has no entry
    pub label_left : (k tick : ℕ) → tick + k ≡ cost → (entry : Option Label) → entries (at path tick) tick ≡ entry → (label : Label) → IsListedOr entry (IsDefault task (at path tick) tick) label → IsAtMost label (Ticks (left task.list path k tick))
    label_left k tick e None is label default = default_left k tick e label default
    label_left zero tick e (Some entry) is label same =
        let still = rest_is_left task.list.prices path tick (λ later past. rests later (omega arith) ∙ sym (rests tick (omega arith))) in
        rw same (at_most_later entry (rest_price task.list.prices (at path tick) tick) (left task.list path zero tick)
        ((sound (at path tick) tick entry is).at_rest (free tick (omega arith)) (may_rest tick (omega arith))) (omega (arith, still)))
    label_left (suc k) tick e (Some entry) is label same =
        let next = (sound (at path tick) tick entry is).onward (free tick (omega arith)) (at path (tick + 1)) (may_step tick (omega arith)) in
        let after = label_left k (tick + 1) (omega arith) (entries (at path (tick + 1)) (tick + 1)) refl next.0 next.1 in
        let pays = left_after_step task.list.prices path tick in
        rw same (within_bound entry next.0 (step_price task.list (at path tick) (at path (tick + 1)) tick) (left task.list path k (tick + 1)) (left task.list path (suc k) tick) next.2 after (omega (arith, pays)))

    -- at the start
    pub start_bound : at path 0 ≡ task.agent.start → (label : Label) → IsSingleLabel task entries task.agent.start 0 label →
        IsAtMost (label_plus (Ticks (cell_price task.list.prices task.agent.start 0)) label) (Ticks (priced_cost task.list path cost))
    start_bound here label is =
        let bound = label_left cost 0 (omega arith) (entries (at path 0) 0) refl label (rw here is) in
        let pays = paid_at_start task.list.prices path in
        let same = ap (λ cell. cell_price task.list.prices cell 0) here in
        plus_bound label (cell_price task.list.prices task.agent.start 0) (left task.list path cost 0) (priced_cost task.list path cost) bound (omega (arith, pays, same))
