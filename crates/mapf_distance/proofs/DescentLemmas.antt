-- Shortest paths to the goal, from the distances of their cells.
use Rattle.std.proofs.Common.{◌≡◌, ◌≢◌, ℕ, suc, ◌+◌, ◌-◌, ◌<◌, ◌≤◌, min, List, [], ◌∷◌, ◌++◌, length, slice_index, add-one, refl, sym, ◌∙◌, ap, subst, inl, inr, ⊎_elim, arith}
use Rattle.std.proofs.Math.ListN.{get_or-append}
use Rattle.std.proofs.Math.Seq.{get_or-append_seam}
use Rattle.std.proofs.lemmas.Bool.{cases_lt}
use Rattle.std.proofs.lemmas.List.{length_push}
use Rattle.mapf_model.specs.Distance.{Walk, IsDistance}
use Rattle.mapf_model.specs.Grid.{GridMap, Step, free_cell_count}
use Rattle.mapf_model.specs.Path.{IsCost}
use Rattle.mapf_model.proofs.DecidedLemmas.{from_neighbours_path}
use Rattle.mapf_model.proofs.PathLemmas.{IsCost-from_end}
use Rattle.mapf_distance.specs.Distances.{IsShortestPath}
use Rattle.mapf_distance.proofs.StepLemmas.{Walk-from_free}

pub IsDistance-one : (grid : GridMap) (goal cell a b : ℕ) → IsDistance grid goal cell a → IsDistance grid goal cell b → a ≡ b
IsDistance-one grid goal cell a b p q =
    let s = p.least b q.walk in
    let t = q.least a p.walk in
    omega arith

-- a cell that is not the goal has a step to a cell that is nearer by one
pub nearer_step : (grid : GridMap) (goal cell distance : ℕ) → IsDistance grid goal cell (distance + 1) → (next : ℕ) × Step grid cell next × IsDistance grid goal next distance
nearer_step grid goal cell distance is =
    let (next, step, walk) = subst (λ n. Walk grid cell goal n) (add-one distance) is.walk in (
      next,
      step,
      record {
        walk = walk;
        least = λ n other. (let a = is.least (suc n) (next, step, other) in omega arith);
      },
    )

-- the cells lead in so many steps from the first cell towards the goal, each step to the least cell that is nearer
pub record IsDescent (grid : GridMap) (goal cell distance steps : ℕ) (cells : List ℕ) : Type 0 where
  pub count : length cells ≡ steps + 1
  pub bound : steps ≤ distance
  pub first : slice_index cells 0 ≡ cell
  pub each : (k : ℕ) → k ≤ steps → IsDistance grid goal (slice_index cells k) (distance - k)
  pub moves : (k : ℕ) → k < steps → Step grid (slice_index cells k) (slice_index cells (k + 1))
  pub least : (k other : ℕ) → k < steps → Step grid (slice_index cells k) other → IsDistance grid goal other (distance - (k + 1)) → slice_index cells (k + 1) ≤ other

pub descent_start : (grid : GridMap) (goal cell distance : ℕ) → IsDistance grid goal cell distance → IsDescent grid goal cell distance 0 (cell ∷ [])
descent_start grid goal cell distance is = record {
  count = omega arith;
  bound = omega arith;
  first = refl;
  each = λ k none.
      let zero_is : 0 ≡ k = omega arith in
      let whole : distance ≡ distance - 0 = omega arith in
      subst (λ n. IsDistance grid goal (slice_index (cell ∷ []) n) (distance - n)) zero_is (subst (λ n. IsDistance grid goal cell n) whole is);
  moves = λ k none. absurd (omega arith);
  least = λ k other none. absurd (omega arith);
}

pub descent_more : (grid : GridMap) (goal cell distance steps : ℕ) (cells : List ℕ) (next : ℕ) → IsDescent grid goal cell distance steps cells → steps < distance →
    Step grid (slice_index cells steps) next → IsDistance grid goal next (distance - steps - 1) →
    ((other : ℕ) → Step grid (slice_index cells steps) other → IsDistance grid goal other (distance - steps - 1) → next ≤ other) →
    IsDescent grid goal cell distance (steps + 1) (cells ++ next ∷ [])
descent_more grid goal cell distance steps cells next d more step nearer least_next = record {
  count = (let total = length_push cells next in let before = d.count in omega arith);
  bound = omega arith;
  first = old 0 (omega arith) ∙ d.first;
  each = λ k within. ⊎_elim
      (λ (earlier : k < steps + 1). subst (λ at. IsDistance grid goal at (distance - k)) (sym (old k earlier)) (d.each k (omega arith)))
      (λ (past : steps + 1 ≤ k).
      let is_last : steps + 1 ≡ k = omega arith in
      let left : distance - steps - 1 ≡ distance - (steps + 1) = omega arith in
      subst (λ n. IsDistance grid goal (slice_index (cells ++ next ∷ []) n) (distance - n)) is_last
      (subst (λ at. IsDistance grid goal at (distance - (steps + 1))) (sym new) (subst (λ n. IsDistance grid goal next n) left nearer)))
      (cases_lt k (steps + 1));
  moves = λ k within. ⊎_elim
      (λ (earlier : k < steps). subst (λ to. Step grid (slice_index (cells ++ next ∷ []) k) to) (sym (old (k + 1) (omega arith)))
      (subst (λ from. Step grid from (slice_index cells (k + 1))) (sym (old k (omega arith))) (d.moves k earlier)))
      (λ (past : steps ≤ k).
      let is_last : steps ≡ k = omega arith in
      subst (λ n. Step grid (slice_index (cells ++ next ∷ []) n) (slice_index (cells ++ next ∷ []) (n + 1))) is_last
      (subst (λ to. Step grid (slice_index (cells ++ next ∷ []) steps) to) (sym new)
      (subst (λ from. Step grid from next) (sym (old steps (omega arith))) step)))
      (cases_lt k steps);
  least = λ k other within to_other near. ⊎_elim
      (λ (earlier : k < steps). subst (λ to. to ≤ other) (sym (old (k + 1) (omega arith)))
      (d.least k other earlier (subst (λ from. Step grid from other) (old k (omega arith)) to_other) near))
      (λ (past : steps ≤ k).
      let is_last : k ≡ steps = omega arith in
      let left : distance - (k + 1) ≡ distance - steps - 1 = omega arith in
      subst (λ to. to ≤ other) (sym (ap (λ n. slice_index (cells ++ next ∷ []) (n + 1)) is_last ∙ new))
      (least_next other
      (subst (λ from. Step grid from other) (ap (λ n. slice_index (cells ++ next ∷ []) n) is_last ∙ old steps (omega arith)) to_other)
      (subst (λ n. IsDistance grid goal other n) left near)))
      (cases_lt k steps);
}
  where
    old : (k : ℕ) → k < steps + 1 → slice_index (cells ++ next ∷ []) k ≡ slice_index cells k
    old k within = get_or-append cells (next ∷ []) 0 k (let total = d.count in omega arith)

    new : slice_index (cells ++ next ∷ []) (steps + 1) ≡ next
    new = ap (λ n. slice_index (cells ++ next ∷ []) n) (sym d.count) ∙ get_or-append_seam cells next [] 0

module _ {grid : GridMap} {goal cell distance : ℕ} {path : List ℕ} (d : IsDescent grid goal cell distance distance path) where
  distance_at : (k rest : ℕ) → k ≤ distance → distance - k ≡ rest → IsDistance grid goal (slice_index path k) rest
  distance_at k rest within is = subst (λ n. IsDistance grid goal (slice_index path k) n) is (d.each k within)

  -- only the last cell is the goal
  away : (k : ℕ) → k < distance → slice_index path k ≢ goal
  away k before same =
      let end = distance_at distance 0 (omega arith) (omega arith) in
      let last_goal = end.walk.1 in
      let e = IsDistance-one grid goal goal (distance - k) 0
      (subst (λ at. IsDistance grid goal at (distance - k)) same (d.each k (omega arith)))
      (subst (λ at. IsDistance grid goal at 0) last_goal end) in
      omega arith

  descent_last : slice_index path (length path - 1) ≡ goal
  descent_last =
      let total = d.count in
      let last : length path - 1 ≡ distance = omega arith in
      ap (λ n. slice_index path n) last ∙ (distance_at distance 0 (omega arith) (omega arith)).walk.1

  pub descent_cost : IsCost goal path (length path - 1)
  descent_cost =
      let total = d.count in
      IsCost-from_end goal path (length path - 1) (omega arith)
      (λ k from within. (let last : k ≡ length path - 1 = omega arith in ap (λ n. slice_index path n) last ∙ descent_last))
      (λ some. away (length path - 1 - 1) (omega arith))

  pub descent_whole : distance < free_cell_count grid → IsShortestPath grid cell goal path
  descent_whole few =
      let total = d.count in
      record {
        is_path = from_neighbours_path grid path (record {
          nonempty = λ none. (let e = ap length none in omega arith);
          first = Walk-from_free grid (slice_index path 0) goal (distance - 0) (d.each 0 (omega arith)).walk;
          neighbours = λ k within. d.moves k (omega arith);
        });
        from_start = let here : min 0 (length path - 1) ≡ 0 = omega arith in ap (λ n. slice_index path n) here ∙ d.first;
        to_goal = let here : min (length path - 1) (length path - 1) ≡ length path - 1 = omega arith in ap (λ n. slice_index path n) here ∙ descent_last;
        tight = ⊎_elim
            (λ (one : distance < 1). inl (omega arith))
            (λ (more : 1 ≤ distance). inr (λ same. away (length path - 2) (omega arith) (sym same ∙ descent_last)))
            (cases_lt distance 1);
        few = omega arith;
        short = subst (λ at. IsDistance grid goal at (length path - 1)) d.first (distance_at 0 (length path - 1) (omega arith) (omega arith));
        least = λ k other within step near.
            let left : length path - 1 - (k + 1) ≡ distance - (k + 1) = omega arith in
            d.least k other (omega arith) step (subst (λ n. IsDistance grid goal other n) left near);
      }
