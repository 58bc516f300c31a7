-- Paths of which a few take the places of others.
use Rattle.std.proofs.Common.{◌≡◌, ℕ, suc, ◌+◌, List, [], ◌∷◌, ◌++◌, Some, All, length, take, slice_get, slice_set, refl, ◌∙◌, ap, arith}
use Rattle.std.proofs.lemmas.List.{map-set}
use Rattle.std.proofs.lemmas.List.Elements.{All-set}
use Rattle.mapf_model.proofs.PlaceLemmas.{length-slice_set, take-next}
use Rattle.mapf_model.specs.Path.{at}
use Rattle.mapf_conflicts.specs.Pairs.{cells_at}
use Rattle.mapf_conflicts.specs.Replacements.{with_replacements}
use Rattle.mapf_conflicts.specs.declared.patched_paths.Replacement.{Replacement}

pub replaced_count : (paths : List (List ℕ)) (all : List Replacement) → length (with_replacements paths all) ≡ length paths
replaced_count paths [] = refl
replaced_count paths (one ∷ others) = replaced_count (slice_set paths one.agent one.path.now) others ∙ length-slice_set paths one.agent one.path.now

pub replaced_last : (paths : List (List ℕ)) (first : List Replacement) (one : Replacement) → with_replacements paths (first ++ one ∷ []) ≡ slice_set (with_replacements paths first) one.agent one.path.now
replaced_last paths [] one = refl
replaced_last paths (other ∷ first) one = replaced_last (slice_set paths other.agent other.path.now) first one

-- the paths after one replacement more
pub replaced_next : (paths : List (List ℕ)) (all : List Replacement) (n : ℕ) (one : Replacement) → slice_get all n ≡ Some one → with_replacements paths (take (n + 1) all) ≡ slice_set (with_replacements paths (take n all)) one.agent one.path.now
replaced_next paths all n one is =
    let next : n + 1 ≡ suc n = omega arith in
    ap (λ m. with_replacements paths (take m all)) next ∙ ap (with_replacements paths) (take-next all n one is) ∙ replaced_last paths (take n all) one

-- and the agents' cells
pub cells_next : (paths : List (List ℕ)) (all : List Replacement) (n : ℕ) (one : Replacement) (tick : ℕ) → slice_get all n ≡ Some one → cells_at (with_replacements paths (take (n + 1) all)) tick ≡ slice_set (cells_at (with_replacements paths (take n all)) tick) one.agent (at one.path.now tick)
cells_next paths all n one tick is =
    ap (λ ps. cells_at ps tick) (replaced_next paths all n one is) ∙ map-set (λ path. at path tick) (with_replacements paths (take n all)) one.agent one.path.now

-- what holds of each of the paths and of the new one
pub all_next : (P : List ℕ → Type 0) (paths : List (List ℕ)) (all : List Replacement) (n : ℕ) (one : Replacement) → slice_get all n ≡ Some one → P one.path.now → All P (with_replacements paths (take n all)) → All P (with_replacements paths (take (n + 1) all))
all_next P paths all n one is new old = rw (replaced_next paths all n one is) (All-set P (with_replacements paths (take n all)) one.agent one.path.now new old)
