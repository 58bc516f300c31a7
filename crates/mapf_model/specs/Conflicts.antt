-- Conflicts of paths. (Stern et al. 2019)
use Rattle.std.specs.Prelude.{◌≡◌, ◌≢◌, ℕ, ◌<◌, List, Some, slice_get}
use Rattle.mapf_model.specs.declared.bar.Bar.TheVariants.{Cell, Move}
use Rattle.mapf_model.specs.declared.conflict.Conflict.{Conflict}
use Rattle.mapf_model.specs.declared.conflict.Conflict.TheVariants.{Vertex, Swap}
use Rattle.mapf_model.specs.Bars.{Violates}
use Rattle.mapf_model.specs.Plan.{ConflictAt}

-- the tick of the conflict
abbrev pub tick_of : Conflict → ℕ
tick_of (Vertex i j cell tick) = tick
tick_of (Swap i j from to tick) = tick

-- the paths have the conflict
abbrev pub HasConflict : List (List ℕ) → Conflict → Type 0
HasConflict paths (Vertex i j cell tick) =
    (i ≢ j) × (p : List ℕ) × (q : List ℕ) × (slice_get paths i ≡ Some p) × (slice_get paths j ≡ Some q)
    × Violates (Cell cell tick) p × Violates (Cell cell tick) q
HasConflict paths (Swap i j from to tick) =
    (i ≢ j) × (from ≢ to) × (p : List ℕ) × (q : List ℕ) × (slice_get paths i ≡ Some p) × (slice_get paths j ≡ Some q)
    × Violates (Move from to tick) p × Violates (Move to from tick) q

-- no two of the paths conflict before this tick
abbrev pub AreConflictFreeBefore : List (List ℕ) → ℕ → Type 0
AreConflictFreeBefore paths end =
    (i j tick : ℕ) (p q : List ℕ) → tick < end → i ≢ j → slice_get paths i ≡ Some p → slice_get paths j ≡ Some q →
    ConflictAt p q tick → ⊥

-- some two of the paths conflict
abbrev pub HaveSomeConflict : List (List ℕ) → Type 0
HaveSomeConflict paths =
    (i : ℕ) × (j : ℕ) × (tick : ℕ) × (p : List ℕ) × (q : List ℕ) × (i ≢ j) × (slice_get paths i ≡ Some p)
    × (slice_get paths j ≡ Some q) × ConflictAt p q tick

-- the paths have a conflict before this tick
abbrev pub HaveConflictBefore : List (List ℕ) → ℕ → Type 0
HaveConflictBefore paths end = (conflict : Conflict) × HasConflict paths conflict × (tick_of conflict < end)
