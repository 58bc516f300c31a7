-- The order in which agents visit cells, as a list.
use Rattle.std.specs.Prelude.{◌≡◌, ℕ, ◌+◌, ◌*◌, ◌≤◌, ◌<◌, List, [], ◌∷◌, Contains}
use Rattle.std.specs.List.Sorted.{IsNonDecreasingBy}
use Rattle.mapf_model.specs.Limits.{most_path_cells}
use Rattle.mapf_player.specs.declared.visit.Visit.{Visit}
use Rattle.mapf_player.specs.declared.dispatch.Turn.{Turn}
use Rattle.mapf_player.specs.Dispatching.{Progress, IsLeft}
use Rattle.mapf_player.specs.Visits.{IsVisit}

-- the cell and the tick of entry as one number, which orders visits by cell and then by entry
abbrev pub key_of : Visit → ℕ
key_of visit = visit.cell * most_path_cells + visit.entry

-- the turn is this visit, entered at a tick below the greatest number of cells of a path
abbrev pub IsTurnOf : List (List Visit) → Turn → Visit → Type 0
IsTurnOf visits turn visit =
    IsVisit visits turn.agent turn.number visit × (turn.key ≡ key_of visit) × (visit.entry < most_path_cells)

-- the turns are all visits
pub record AreTurns (visits : List (List Visit)) (turns : List Turn) : Type 0 where
  pub each : (turn : Turn) → Contains turns turn → (visit : Visit) × IsTurnOf visits turn visit
  pub all : (agent number : ℕ) (visit : Visit) → IsVisit visits agent number visit →
      Contains turns (record { key = key_of visit; agent = agent; number = number })

-- all visits by cell and then by entry
pub record AreSortedTurns (visits : List (List Visit)) (turns : List Turn) : Type 0 where
  pub complete : AreTurns visits turns
  pub sorted : IsNonDecreasingBy (λ turn. turn.key) turns

-- the turns of one agent, whose visits are numbered from this one on
abbrev pub own_turns : ℕ → ℕ → List Visit → List Turn
own_turns agent number [] = []
own_turns agent number (visit ∷ visits) =
    record { key = key_of visit; agent = agent; number = number } ∷ own_turns agent (number + 1) visits

-- the turn is one of an agent's visits
abbrev pub IsTurn : Progress → Turn → Type 0
IsTurn progress turn = (visit : Visit) × IsTurnOf progress.visits turn visit

-- the turn has at least this key, and its agent hasn't left it
abbrev pub IsDue : Progress → Turn → ℕ → Type 0
IsDue progress turn from = (from ≤ turn.key) × (IsLeft progress turn.agent turn.number → ⊥)
