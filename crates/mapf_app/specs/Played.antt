-- What a run that plays a plan writes.
use Rattle.std.specs.Prelude.{ℕ, List, Option}
use Rattle.std.specs.Io.KnownBytes.{Appends}
use Rattle.mapf_app.specs.Planned.{SpellsPlanned}
use Rattle.mapf_model.specs.Plan.{Instance}
use Rattle.mapf_player.specs.Play.{IsPlayText}

-- the text shows, tick by tick, the valid plan that the plan text spells for the problem that the map and the scenario
-- spell
pub record PlaysTruly (map scen plan : Option (List ℕ)) (count : ℕ) (text : List ℕ) : Type 0 where
  pub problem : Instance
  pub paths : List (List ℕ)
  pub planned : SpellsPlanned map scen plan count problem paths
  pub played : IsPlayText problem paths text

-- a text that shows the plan, tick by tick, was written
abbrev pub ShowsPlan : Instance → List (List ℕ) → Option (List ℕ) → Option (List ℕ) → Type 0
ShowsPlan problem paths old new = (text : List ℕ) × IsPlayText problem paths text × Appends old new text
