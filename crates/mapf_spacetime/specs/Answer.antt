-- What a result of the search means.
use Rattle.std.specs.Prelude.{◌≡◌, ℕ, ◌<◌, ◌≤◌, List, length, All, AllPairs}
use Rattle.mapf_model.specs.declared.label.Entry.{Entry}
use Rattle.mapf_model.specs.declared.label.Label.TheVariants.{Ticks, Never}
use Rattle.mapf_model.specs.Bars.{Satisfies}
use Rattle.mapf_model.specs.Distance.{IsDistance}
use Rattle.mapf_model.specs.Labels.{AreSound, IsLabel, entries_of}
use Rattle.mapf_model.specs.Path.{at, IsLawful, IsCost, IsTight}
use Rattle.mapf_model.specs.Printed.{IsBefore, IsEntryInRange}
use Rattle.mapf_spacetime.specs.declared.found.Found.{Found}
use Rattle.mapf_spacetime.specs.declared.found.Found.TheVariants.{Arrives, Dead}
use Rattle.mapf_spacetime.specs.Task.{Task, agent_of}
use Rattle.mapf_spacetime.specs.States.{IsBelowLimit}

-- the labels are sound, rise by tick and cell, and can be printed
pub record AreGoodLabels (task : Task) (entries : List Entry) : Type 0 where
  pub sound : AreSound task.grid task.goal task.bars (entries_of entries)
  pub rising : AllPairs IsBefore entries
  pub ranges : All (IsEntryInRange task.grid) entries

-- the paths are in the same cells before the tick
abbrev pub AgreeBefore : ℕ → List ℕ → List ℕ → Type 0
AgreeBefore tick path other = (earlier : ℕ) → earlier < tick → at path earlier ≡ at other earlier

-- no lawful path of this cost that satisfies the constraints comes before this one, in the lexicographic order of cell
-- numbers
abbrev pub IsFirstOfCost : Task → ℕ → List ℕ → Type 0
IsFirstOfCost task cost path = (other : List ℕ) (tick : ℕ) → IsLawful task.grid (agent_of task) other →
    Satisfies task.bars other → IsCost task.goal other cost → AgreeBefore tick path other → at path tick ≤ at other tick

-- the distance of the start is less than this
abbrev pub IsStartNearer : Task → ℕ → Type 0
IsStartNearer task cost = (distance : ℕ) × IsDistance task.grid task.goal task.start distance × (distance < cost)

-- a lawful path without trailing waits that satisfies the constraints, whose cost the labels show to be the least, and
-- before which no path of that cost comes. If the cost is the distance there are no labels
pub record IsArrival (task : Task) (path : List ℕ) (entries : List Entry) : Type 0 where
  pub cost : ℕ
  pub lawful : IsLawful task.grid (agent_of task) path
  pub satisfies : Satisfies task.bars path
  pub is_cost : IsCost task.goal path cost
  pub tight : IsTight path
  pub limit : IsBelowLimit task cost
  pub first : IsFirstOfCost task cost path
  pub labels : AreGoodLabels task entries
  pub start : IsLabel task.grid task.goal (entries_of entries) task.start 0 (Ticks cost)
  pub needed : 1 ≤ length entries → IsStartNearer task cost

-- the labels show that no path arrives
pub record IsDeath (task : Task) (entries : List Entry) : Type 0 where
  pub labels : AreGoodLabels task entries
  pub start : IsLabel task.grid task.goal (entries_of entries) task.start 0 Never

-- the entries are sound and show that no path arrives
pub record ShowNone (task : Task) (entries : List Entry) : Type 0 where
  pub sound : AreSound task.grid task.goal task.bars (entries_of entries)
  pub start : IsLabel task.grid task.goal (entries_of entries) task.start 0 Never

-- a path that arrives at the least cost, or labels that show that none arrives
abbrev pub IsPathAnswer : Task → Found (List Entry) → Type 0
IsPathAnswer task (Arrives path labels) = IsArrival task path labels
IsPathAnswer task (Dead labels) = IsDeath task labels
