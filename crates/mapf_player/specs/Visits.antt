-- The visits of agents that follow a plan. (Own, after the plan-execution literature: Ma et al. 2017, Hönig et al.
-- 2019)
use Rattle.std.specs.Prelude.{◌≡◌, ◌≢◌, ◌⊎◌, ℕ, ◌+◌, ◌<◌, List, length, Some, slice_get}
use Rattle.mapf_model.specs.Path.{at}
use Rattle.mapf_player.specs.declared.visit.Visit.{Visit}

-- at this tick an agent on the path enters a cell: the path begins, or the agent was elsewhere a tick earlier
abbrev pub IsEntry : List ℕ → ℕ → Type 0
IsEntry path tick = (tick ≡ 0) ⊎ ((before : ℕ) × (tick ≡ before + 1) × (at path tick ≢ at path before))

-- the visits of a path: each tick at which an agent on it enters a cell, in rising order, with this cell
pub record AreVisitsOf (path : List ℕ) (visits : List Visit) : Type 0 where
  pub entered : (n : ℕ) (visit : Visit) → slice_get visits n ≡ Some visit → IsEntry path visit.entry
      × (visit.cell ≡ at path visit.entry)
  pub all : (tick : ℕ) → IsEntry path tick → (n : ℕ) × (visit : Visit) × (slice_get visits n ≡ Some visit)
      × (visit.entry ≡ tick)
  pub rising : (m n : ℕ) (a b : Visit) → m < n → slice_get visits m ≡ Some a → slice_get visits n ≡ Some b →
      a.entry < b.entry

-- the visits of each agent's path
pub record AreVisitsOfAll (plan : List (List ℕ)) (visits : List (List Visit)) : Type 0 where
  pub count : length visits ≡ length plan
  pub each : (i : ℕ) (path : List ℕ) (own : List Visit) → slice_get plan i ≡ Some path → slice_get visits i ≡ Some own →
      AreVisitsOf path own

-- this is the agent's visit of this number, counted from 0
abbrev pub IsVisit : List (List Visit) → ℕ → ℕ → Visit → Type 0
IsVisit visits agent number visit =
    (own : List Visit) × (slice_get visits agent ≡ Some own) × (slice_get own number ≡ Some visit)

-- a path has at most one list of visits
abbrev pub VisitsAreOne : Type 0
VisitsAreOne = (path : List ℕ) (a b : List Visit) → AreVisitsOf path a → AreVisitsOf path b → a ≡ b
