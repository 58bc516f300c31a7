-- Conflicts of agents, by the lists of their cells at one tick and at the next.
use Rattle.std.specs.Prelude.{◌≡◌, ◌≢◌, ◌⊎◌, ℕ, ◌<◌, List, Some, length, map, slice_get, slice_index}
use Rattle.std.specs.Borrow.{Bor}
use Rattle.mapf_model.specs.declared.conflict.Conflict.{Conflict}
use Rattle.mapf_model.specs.declared.conflict.Conflict.TheVariants.{Vertex, Swap}
use Rattle.mapf_model.specs.Conflicts.{tick_of, HasConflict}
use Rattle.mapf_model.specs.Pairs.{IsFirstPair, HoldsOfNoPair}
use Rattle.mapf_model.specs.Path.{at}
use Rattle.mapf_model.specs.Plan.{ConflictAt}

-- the agents' cells at the tick
abbrev pub cells_at : List (List ℕ) → ℕ → List ℕ
cells_at paths tick = map (λ path. at path tick) paths

-- the values behind references to paths
abbrev pub paths_behind : List (Bor (List ℕ)) → List (List ℕ)
paths_behind paths = map (λ path. path.now) paths

-- the mark of each agent's cell names this agent
abbrev pub ArePlaced : List ℕ → List ℕ → Type 0
ArePlaced marks here = (i : ℕ) → i < length here → slice_index marks (slice_index here i) ≡ i

-- the two agents are in one cell
abbrev pub ShareCell : List ℕ → ℕ → ℕ → Type 0
ShareCell here i j = slice_index here i ≡ slice_index here j

-- each of the two agents goes to the cell of the other
abbrev pub ExchangeCells : List ℕ → List ℕ → ℕ → ℕ → Type 0
ExchangeCells here next i j = (slice_index here j ≡ slice_index next i) × (slice_index next j ≡ slice_index here i)

-- the relation holds of an agent and a greater one
abbrev pub HoldsOfSomePair : (ℕ → ℕ → Type 0) → ℕ → Type 0
HoldsOfSomePair Fact count = (i : ℕ) × (j : ℕ) × (i < j) × (j < count) × Fact i j

-- the two agents share a cell or exchange their cells
abbrev pub ShareOrExchangeCells : List ℕ → List ℕ → ℕ → ℕ → Type 0
ShareOrExchangeCells here next i j = ShareCell here i j ⊎ ExchangeCells here next i j

-- no two agents other than this one share a cell or exchange their cells
abbrev pub AreOthersApart : List ℕ → List ℕ → ℕ → Type 0
AreOthersApart here next agent =
    (i j : ℕ) → i < j → j < length here → i ≢ agent → j ≢ agent → ShareOrExchangeCells here next i j → ⊥

-- the conflict is one of agents that are in these cells at the tick, and in those at the next
abbrev pub IsConflictOf : List ℕ → List ℕ → ℕ → Conflict → Type 0
IsConflictOf here next now (Vertex i j cell tick) =
    (i < j) × (j < length here) × (tick ≡ now) × (slice_index here i ≡ cell) × (slice_index here j ≡ cell)
IsConflictOf here next now (Swap i j from to tick) = (i < j) × (j < length here) × (tick ≡ now) × (from ≢ to)
    × (slice_index here i ≡ from) × (slice_index next i ≡ to) × (slice_index here j ≡ to) × (slice_index next j ≡ from)

-- no conflict of agents that are in these cells comes before this one: vertex conflicts come first, then the pairs in
-- the order of their agents
abbrev pub IsFirstOf : List ℕ → List ℕ → Conflict → Type 0
IsFirstOf here next (Vertex i j cell tick) = IsFirstPair (ShareCell here) (length here) (i, j)
IsFirstOf here next (Swap i j from to tick) =
    HoldsOfNoPair (ShareCell here) (length here) × IsFirstPair (ExchangeCells here next) (length here) (i, j)

-- before the tick `end` no two agents other than this one conflict
abbrev pub AreOthersFreeBefore : List (List ℕ) → ℕ → ℕ → Type 0
AreOthersFreeBefore paths agent end = (i j tick : ℕ) (p q : List ℕ) → tick < end → i ≢ agent → j ≢ agent → i ≢ j
    → slice_get paths i ≡ Some p → slice_get paths j ≡ Some q → ConflictAt p q tick → ⊥

-- the first agent has the smaller number
abbrev pub IsOrdered : Conflict → Type 0
IsOrdered (Vertex i j cell tick) = i < j
IsOrdered (Swap i j from to tick) = i < j

-- the first agent is smaller, or the first agents are equal and the second agent is smaller
abbrev pub AreLess : ℕ → ℕ → ℕ → ℕ → Type 0
AreLess i j k l = (i < k) ⊎ ((i ≡ k) × (j < l))

-- of two conflicts of one tick: a vertex conflict comes before a swapping conflict, then the one of the smaller agents
abbrev pub ComesBefore : Conflict → Conflict → Type 0
ComesBefore (Vertex i j cell tick) (Vertex k l other_cell other_tick) = AreLess i j k l
ComesBefore (Vertex i j cell tick) (Swap k l from to other_tick) = Unit {0}
ComesBefore (Swap i j from to tick) (Vertex k l cell other_tick) = ⊥
ComesBefore (Swap i j from to tick) (Swap k l other_from other_to other_tick) = AreLess i j k l

-- no conflict of the paths at its tick comes before this one
abbrev pub IsFirstOfItsTick : List (List ℕ) → Conflict → Type 0
IsFirstOfItsTick paths conflict =
    (other : Conflict) → IsOrdered other → HasConflict paths other → tick_of other ≡ tick_of conflict →
    ComesBefore other conflict → ⊥
