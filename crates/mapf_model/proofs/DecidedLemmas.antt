-- The relations of the specifications have one answer.
use Rattle.std.proofs.Common.{◌≡◌, ◌↔◌, ℕ, zero, suc, ◌+◌, ◌-◌, ◌<◌, ◌≤◌, min, List, [], ◌∷◌, Option, Some, None, Contains, length, slice_index, slice_get, refl, sym, ◌∙◌, ap, subst, inl, inr, ⊎_elim, arith}
use Rattle.std.proofs.lemmas.Bool.{cases_lt}
use Rattle.std.proofs.lemmas.Option.{slice_get_within, slice_get_read, get_or_from_slice_get}
use Rattle.mapf_model.specs.declared.problem.Agent.{Agent}
use Rattle.mapf_model.specs.declared.label.Label.{Label}
use Rattle.mapf_model.specs.declared.label.Label.TheVariants.{Ticks, Never}
use Rattle.mapf_model.specs.declared.item.Claim.TheVariants.{Impossible}
use Rattle.mapf_model.specs.Grid.{GridMap, IsFree, Step}
use Rattle.mapf_model.specs.Path.{at, IsPath, IsCost}
use Rattle.mapf_model.specs.Labels.{Entries, IsLabel, IsEntryOrDistance, IsDistanceLabel, IsAtMost, label_sum}
use Rattle.mapf_model.specs.Plan.{Instance}
use Rattle.mapf_model.specs.Tree.{AreStartLabels, StartsReach, StartsShow}
use Rattle.mapf_model.specs.Laws.{IsPathByNeighbours}
use Rattle.mapf_model.proofs.ClaimLemmas.{slice_get_inside}

distance_label_unique : (grid : GridMap) (goal cell : ℕ) (a b : Label) → IsDistanceLabel grid goal cell a → IsDistanceLabel grid goal cell b → a ≡ b
distance_label_unique grid goal cell (Ticks m) (Ticks n) p q =
    let low = p.least n q.walk in let high = q.least m p.walk in
    ap Ticks (omega arith)
distance_label_unique grid goal cell (Ticks m) Never p q = absurd (q m p.walk)
distance_label_unique grid goal cell Never (Ticks n) p q = absurd (p n q.walk)
distance_label_unique grid goal cell Never Never p q = refl

by_entry : (grid : GridMap) (goal cell : ℕ) (entry : Option Label) (a b : Label) → IsEntryOrDistance grid goal cell entry a → IsEntryOrDistance grid goal cell entry b → a ≡ b
by_entry grid goal cell (Some entry) a b p q = p ∙ sym q
by_entry grid goal cell None a b p q = distance_label_unique grid goal cell a b p q

pub label_unique : (grid : GridMap) (goal : ℕ) (entries : Entries) (cell tick : ℕ) (a b : Label) → IsLabel grid goal entries cell tick a → IsLabel grid goal entries cell tick b → a ≡ b
label_unique grid goal entries cell tick a b p q = by_entry grid goal cell (entries cell tick) a b p q

-- two lists are equal if their elements are
pub same_list : {X : Type 0} (xs ys : List X) → length xs ≡ length ys → ((i : ℕ) (x y : X) → slice_get xs i ≡ Some x → slice_get ys i ≡ Some y → x ≡ y) → xs ≡ ys
same_list [] [] e each = refl
same_list [] (y ∷ ys) e each = absurd (omega arith)
same_list (x ∷ xs) [] e each = absurd (omega arith)
same_list (x ∷ xs) (y ∷ ys) e each =
    let head = each 0 x y refl refl in
    let tail = same_list xs ys (omega arith) (λ i a b. each (suc i) a b) in
    cc

module _ (problem : Instance) (entries : ℕ → Entries) where
  start_labels_unique : (a b : List Label) → AreStartLabels problem entries a → AreStartLabels problem entries b → a ≡ b
  start_labels_unique a b p q =
      let one = p.count in let two = q.count in
      same_list a b (omega arith) (λ i x y this other.
      let within : i < length a = slice_get_within a i x this in
      let found : (agent : Agent) × (slice_get problem.agents i ≡ Some agent) = slice_get_inside problem.agents i (omega arith) in
      label_unique problem.grid found.0.goal (entries i) found.0.start 0 x y (p.each i found.0 x found.1 this) (q.each i found.0 y found.1 other))

  pub start_labels_decide : (labels : List Label) (total : ℕ) → AreStartLabels problem entries labels → StartsReach problem total entries ↔ IsAtMost (Ticks total) (label_sum labels)
  start_labels_decide labels total are = (
    λ shows. subst (λ ls. IsAtMost (Ticks total) (label_sum ls)) (start_labels_unique shows.0 labels shows.1 are) shows.2,
    λ enough. (labels, are, enough),
  )

  pub start_labels_decide_impossible : (labels : List Label) → AreStartLabels problem entries labels → StartsShow problem Impossible entries ↔ Contains labels Never
  start_labels_decide_impossible labels are = (
    λ (i, agent, this, never).
        let count = are.count in
        let within : i < length labels = (let inside = slice_get_within problem.agents i agent this in omega arith) in
        let found = slice_get_inside labels i within in
        let same = label_unique problem.grid agent.goal (entries i) agent.start 0 found.0 Never (are.each i agent found.0 this found.1) never in
        (i, within, get_or_from_slice_get labels i Never Never (found.1 ∙ ap Some same)),
    λ (i, within, is).
        let count = are.count in
        let found = slice_get_inside problem.agents i (omega arith) in
        (i, found.0, found.1, are.each i found.0 Never found.1 (slice_get_read labels (length labels) i Never refl within (sym is))),
  )

pub cost_unique : (goal : ℕ) (path : List ℕ) (a b : ℕ) → IsCost goal path a → IsCost goal path b → a ≡ b
cost_unique goal path a b p q = let low = p.least b q.rests in let high = q.least a p.rests in omega arith

module _ (grid : GridMap) where
  step_from : (u v : ℕ) → Step grid u v → IsFree grid u
  step_from u v (inl wait) = wait.0
  step_from u v (inr move) = move.from_free

  step_to : (u v : ℕ) → Step grid u v → IsFree grid v
  step_to u v (inl wait) = subst (λ c. IsFree grid c) wait.1 wait.0
  step_to u v (inr move) = move.to_free

  pub to_neighbours : (path : List ℕ) → IsPath grid path → IsPathByNeighbours grid path
  to_neighbours path p = record {
    nonempty = p.nonempty;
    first =
        let here : min 0 (length path - 1) ≡ 0 = omega arith in
        rw here at (step_from (at path 0) (at path (0 + 1)) (p.steps 0));
    neighbours = λ k within.
        let here : min k (length path - 1) ≡ k = omega arith in
        let next : min (k + 1) (length path - 1) ≡ k + 1 = omega arith in
        rw next at (rw here at (p.steps k));
  }

  -- each cell of the list is free
  each_free : (path : List ℕ) → IsPathByNeighbours grid path → (k : ℕ) → k < length path → IsFree grid (slice_index path k)
  each_free path p zero within = p.first
  each_free path p (suc k) within =
      let next : k + 1 ≡ suc k = omega arith in
      rw next at (step_to (slice_index path k) (slice_index path (k + 1)) (p.neighbours k (omega arith)))

  from_neighbours : (path : List ℕ) → 0 < length path → IsPathByNeighbours grid path → (tick : ℕ) → Step grid (at path tick) (at path (tick + 1))
  from_neighbours path some p tick = ⊎_elim
      (λ (within : tick + 1 < length path).
      let here : min tick (length path - 1) ≡ tick = omega arith in
      let next : min (tick + 1) (length path - 1) ≡ tick + 1 = omega arith in
      rw (here, next) (p.neighbours tick within))
      (λ (past : length path ≤ tick + 1).
      let here : min tick (length path - 1) ≡ length path - 1 = omega arith in
      let next : min (tick + 1) (length path - 1) ≡ length path - 1 = omega arith in
      rw (here, next) (inl (each_free path p (length path - 1) (omega arith), refl)))
      (cases_lt (tick + 1) (length path))

  pub from_neighbours_path : (path : List ℕ) → IsPathByNeighbours grid path → IsPath grid path
  from_neighbours_path [] p = absurd (p.nonempty refl)
  from_neighbours_path (u ∷ path) p = record { nonempty = p.nonempty; steps = from_neighbours (u ∷ path) (omega arith) p }
