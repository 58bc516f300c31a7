-- Paths that wait at the start and walk afterwards.
use Rattle.std.proofs.Common.{◌≡◌, ℕ, zero, suc, ◌+◌, ◌-◌, ◌≤◌, min, List, [], ◌∷◌, length, refl, ◌∙◌, subst, inl, inr, arith}
use Rattle.mapf_model.specs.declared.problem.Agent.{Agent}
use Rattle.mapf_model.specs.Distance.{Walk}
use Rattle.mapf_model.specs.Grid.{GridMap, IsFree, Step}
use Rattle.mapf_model.specs.Path.{at, IsLawful}

-- the path is in the cell from tick 0 to this tick
abbrev pub StaysTo : ℕ → ℕ → List ℕ → Type 0
StaysTo last cell path = (tick : ℕ) → tick ≤ last → at path tick ≡ cell

-- an agent by its parts
abbrev pub agent : ℕ → ℕ → Agent
agent start goal = record { start = start; goal = goal }

at-cons : (cell u : ℕ) (path : List ℕ) (tick : ℕ) → at (cell ∷ u ∷ path) (suc tick) ≡ at (u ∷ path) tick
at-cons cell u path tick =
    let later : min (suc tick) (length (cell ∷ u ∷ path) - 1) ≡ suc (min tick (length (u ∷ path) - 1)) = omega arith in
    rw later refl

at-first : (cell : ℕ) (path : List ℕ) → at (cell ∷ path) 0 ≡ cell
at-first cell path =
    let first : min 0 (length (cell ∷ path) - 1) ≡ 0 = omega arith in
    rw first refl

-- a step before a path
lawful-cons : (grid : GridMap) (cell from to : ℕ) (path : List ℕ) → Step grid cell from → IsLawful grid (agent from to) path → IsLawful grid (agent cell to) (cell ∷ path)
lawful-cons grid cell from to [] step is = absurd (is.is_path.nonempty refl)
lawful-cons grid cell from to (u ∷ path) step is = record {
  is_path = record { nonempty = λ e. cc; steps = steps };
  start = at-first cell (u ∷ path);
  goal =
      let last : suc (length (u ∷ path) - 1) ≡ length (cell ∷ u ∷ path) - 1 = omega arith in
      subst (λ tick. at (cell ∷ u ∷ path) tick ≡ to) last (at-cons cell u path (length (u ∷ path) - 1) ∙ is.goal);
}
  where
    steps : (tick : ℕ) → Step grid (at (cell ∷ u ∷ path) tick) (at (cell ∷ u ∷ path) (tick + 1))
    steps zero =
        let next : at (cell ∷ u ∷ path) (0 + 1) ≡ from = at-cons cell u path 0 ∙ is.start in
        rw (at-first cell (u ∷ path), next) step
    steps (suc tick) =
        let more : suc tick + 1 ≡ suc (tick + 1) = omega arith in
        rw (more, at-cons cell u path tick, at-cons cell u path (tick + 1)) (is.is_path.steps tick)

lawful-single : (grid : GridMap) (cell : ℕ) → IsFree grid cell → IsLawful grid (agent cell cell) (cell ∷ [])
lawful-single grid cell free = record {
  is_path = record { nonempty = λ e. cc; steps = λ tick. rw (here tick, here (tick + 1)) (inl (free, refl)) };
  start = here 0;
  goal = here 0;
}
  where
    here : (tick : ℕ) → at (cell ∷ []) tick ≡ cell
    here tick = let first : min tick 0 ≡ 0 = omega arith in rw first refl

walk_path : (grid : GridMap) (to n from : ℕ) → Walk grid from to n → (path : List ℕ) × IsLawful grid (agent from to) path
walk_path grid to zero from (free, same) = (from ∷ [], rw (← same) (lawful-single grid from free))
walk_path grid to (suc n) from (next, step, rest) =
    let walked = walk_path grid to n next rest in
    (from ∷ walked.0, lawful-cons grid from next to walked.0 step walked.1)

pub walk_free : (grid : GridMap) (to n from : ℕ) → Walk grid from to n → IsFree grid from
walk_free grid to zero from (free, same) = free
walk_free grid to (suc n) from (next, inl wait, rest) = wait.0
walk_free grid to (suc n) from (next, inr move, rest) = move.from_free

wait_first : (grid : GridMap) (from to : ℕ) (path : List ℕ) → IsFree grid from → IsLawful grid (agent from to) path → (last : ℕ) → (waits : List ℕ) × IsLawful grid (agent from to) waits × StaysTo last from waits
wait_first grid from to path free is zero = (path, is, λ tick low. let first : tick ≡ 0 = omega arith in rw first is.start)
wait_first grid from to path free is (suc last) = longer (wait_first grid from to path free is last)
  where
    longer : (waits : List ℕ) × IsLawful grid (agent from to) waits × StaysTo last from waits → (waits : List ℕ) × IsLawful grid (agent from to) waits × StaysTo (suc last) from waits
    longer ([], before, stays) = absurd (before.is_path.nonempty refl)
    longer (u ∷ waits, before, stays) = (from ∷ u ∷ waits, lawful-cons grid from from to (u ∷ waits) (inl (free, refl)) before, still)
      where
        still : StaysTo (suc last) from (from ∷ u ∷ waits)
        still zero low = at-first from (u ∷ waits)
        still (suc tick) low = at-cons from u waits tick ∙ stays tick (omega arith)

-- if the goal can be reached, it can be reached after any number of waits
pub wait_and_walk : (grid : GridMap) (from to n : ℕ) → Walk grid from to n → (last : ℕ) → (path : List ℕ) × IsLawful grid (agent from to) path × StaysTo last from path
wait_and_walk grid from to n walk last =
    let walked = walk_path grid to n from walk in
    wait_first grid from to walked.0 (walk_free grid to n from walk) walked.1 last
