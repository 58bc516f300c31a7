-- What was read before an input is read: those before it, each whole and accepted.
use Rattle.std.specs.Prelude.{◌≡◌, ℕ, Bool, false, List, Option}
use Rattle.std.specs.Io.KnownBytes.{IsAtEnd}
use Rattle.mapf_app.specs.Planned.{SpellsPlanned}
use Rattle.mapf_app.specs.Problems.{SpellsGrid, SpellsProblem}
use Rattle.mapf_app.specs.Runs.{IsWithin}
use Rattle.mapf_model.specs.Grid.{GridMap}
use Rattle.mapf_model.specs.Limits.{most_text_bytes}
use Rattle.mapf_model.specs.Plan.{Instance}

-- a source gave a text whole: it hasn't failed, it has nothing left, and it had no more bytes than are allowed
pub record IsReadWhole (failed : Bool) (had left : Option (List ℕ)) : Type 0 where
  pub works : failed ≡ false
  pub end : IsAtEnd left
  pub within : IsWithin had most_text_bytes

-- a map was read whole, and it spells a grid
pub record HasReadGrid (failed : Bool) (had left : Option (List ℕ)) : Type 0 where
  pub whole : IsReadWhole failed had left
  pub grid : GridMap
  pub spelled : SpellsGrid had grid

-- a map and a scenario were read whole, and they spell a problem of so many agents
pub record HasReadProblem (map_failed : Bool) (map map_left : Option (List ℕ)) (scen_failed : Bool)
    (scen scen_left : Option (List ℕ)) (count : ℕ) : Type 0 where
  pub map_whole : IsReadWhole map_failed map map_left
  pub scen_whole : IsReadWhole scen_failed scen scen_left
  pub problem : Instance
  pub spelled : SpellsProblem map scen count problem

-- a map, a scenario and a plan text were read whole, and they spell a problem of so many agents and a valid plan for it
pub record HasReadPlan (map_failed : Bool) (map map_left : Option (List ℕ)) (scen_failed : Bool)
    (scen scen_left : Option (List ℕ)) (plan_failed : Bool) (plan plan_left : Option (List ℕ)) (count : ℕ)
    : Type 0 where
  pub problem_whole : HasReadProblem map_failed map map_left scen_failed scen scen_left count
  pub plan_whole : IsReadWhole plan_failed plan plan_left
  pub problem : Instance
  pub paths : List (List ℕ)
  pub spelled : SpellsPlanned map scen plan count problem paths
