-- Marks by which the entries of one tick are found.
use Rattle.std.specs.Prelude.{◌≡◌, ℕ, ◌+◌, ◌*◌, ◌<◌, ◌≤◌, List, All, length, slice_index, slice_index_or}
use Rattle.mapf_model.specs.declared.label.Entry.{Entry}
use Rattle.mapf_model.specs.Grid.{GridMap}

-- a mark for each cell, an index with only earlier entries before it, and the tick whose entries are marked from this
-- index on
pub record Marks : Type 0 where
  pub offsets : List ℕ
  pub first : ℕ
  pub tick : ℕ

-- each cell of the grid has a mark
abbrev pub CoverGrid : GridMap → Marks → Type 0
CoverGrid grid marks = grid.width * grid.height ≤ length marks.offsets

-- the entry is that of the state
abbrev pub IsOf : ℕ → ℕ → Entry → Type 0
IsOf cell tick entry = (entry.cell ≡ cell) × (entry.tick ≡ tick)

-- the entries before this index are of earlier ticks
abbrev pub AreEarlier : List Entry → ℕ → ℕ → Type 0
AreEarlier entries place tick =
    (k : ℕ) (d : Entry) → k < place → k < length entries → (slice_index_or entries k d).tick < tick

-- the entries from this index on are of this tick or of later ones
abbrev pub AreNotEarlier : List Entry → ℕ → ℕ → Type 0
AreNotEarlier entries place tick =
    (k : ℕ) (d : Entry) → place ≤ k → k < length entries → tick ≤ (slice_index_or entries k d).tick

-- there is an entry at this index, and it is of the tick
abbrev pub IsOfTick : List Entry → ℕ → ℕ → Type 0
IsOfTick entries place tick = (place < length entries) × ((d : Entry) → (slice_index_or entries place d).tick ≡ tick)

-- for each entry of the tick, the mark of its cell says how far after the index `first` the entry is
abbrev pub AreMarked : List ℕ → List Entry → ℕ → ℕ → Type 0
AreMarked offsets entries first tick =
    (k : ℕ) (d : Entry) → k < length entries → (slice_index_or entries k d).tick ≡ tick
    → k ≡ first + slice_index offsets (slice_index_or entries k d).cell

-- the entries of the marks' tick are marked, those before the index `first` are of earlier ticks, and each entry's
-- cell has a mark
pub record IsMarking (entries : List Entry) (marks : Marks) : Type 0 where
  pub within : marks.first ≤ length entries
  pub earlier : AreEarlier entries marks.first marks.tick
  pub marked : AreMarked marks.offsets entries marks.first marks.tick
  pub cells : All (λ entry. entry.cell < length marks.offsets) entries
