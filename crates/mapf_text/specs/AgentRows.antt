-- Rows of a scenario: the agent that a row's words spell, and the errors.
use Rattle.std.specs.Prelude.{◌≡◌, ◌≢◌, ◌⊎◌, ℕ, ◌+◌, ◌-◌, ◌*◌, ◌^◌, ◌<◌, List, [], ◌∷◌, length, slice_index_or}
use Rattle.mapf_model.specs.Grid.{GridMap, IsFree}
use Rattle.mapf_model.specs.declared.problem.Agent.{Agent}
use Rattle.mapf_text.specs.Numbers.{SpellsNumber}
use Rattle.mapf_text.specs.Decimals.{IsDecimal}
use Rattle.mapf_text.specs.declared.agent_row.Numbers.{Numbers}
use Rattle.mapf_text.specs.declared.scenario_fault.ScenFault.{ScenFault}
use Rattle.mapf_text.specs.declared.scenario_fault.ScenFault.TheVariants.{S2, S3, S4, S5, S6}

-- a field of a row, counted from 1
abbrev pub field : List (List ℕ) → ℕ → List ℕ
field words n = slice_index_or words (n - 1) []

-- digits of a number of at most 4,294,967,295
abbrev pub IsNumber : List ℕ → ℕ → Type 0
IsNumber word n = SpellsNumber word n × (n < 2 ^ 32)

-- nine words, with these numbers in fields 3 to 8 and some number in field 1
pub record HasNumbers (words : List (List ℕ)) (numbers : Numbers) : Type 0 where
  pub nine : length words ≡ 9
  pub bucket : (n : ℕ) × IsNumber (field words 1) n
  pub width : IsNumber (field words 3) numbers.width
  pub height : IsNumber (field words 4) numbers.height
  pub start_x : IsNumber (field words 5) numbers.start_x
  pub start_y : IsNumber (field words 6) numbers.start_y
  pub goal_x : IsNumber (field words 7) numbers.goal_x
  pub goal_y : IsNumber (field words 8) numbers.goal_y

-- the same, and the width and the height are the grid's
pub record HasSize (grid : GridMap) (words : List (List ℕ)) (numbers : Numbers) : Type 0 where
  pub has_numbers : HasNumbers words numbers
  pub width : numbers.width ≡ grid.width
  pub height : numbers.height ≡ grid.height

-- the free cell in this column and row of the grid
pub record IsCellAt (grid : GridMap) (x y cell : ℕ) : Type 0 where
  pub column : x < grid.width
  pub row : y < grid.height
  pub number : cell ≡ y * grid.width + x
  pub free : IsFree grid cell

-- the same, and the start and the goal are free cells of the grid
pub record HasFreeCells (grid : GridMap) (words : List (List ℕ)) (agent : Agent) : Type 0 where
  pub numbers : Numbers
  pub size : HasSize grid words numbers
  pub start : IsCellAt grid numbers.start_x numbers.start_y agent.start
  pub goal : IsCellAt grid numbers.goal_x numbers.goal_y agent.goal

-- the same, and field 9 is decimal text; field 2 is any word
pub record SpellsAgent (grid : GridMap) (words : List (List ℕ)) (agent : Agent) : Type 0 where
  pub cells : HasFreeCells grid words agent
  pub length_text : IsDecimal (field words 9)

-- the fields that have to be numbers, each with its place in the row, counted from 1
abbrev pub numbered : List (List ℕ) → List (ℕ × List ℕ)
numbered words =
    (1, field words 1) ∷ (3, field words 3) ∷ (4, field words 4) ∷ (5, field words 5) ∷ (6, field words 6)
    ∷ (7, field words 7) ∷ (8, field words 8) ∷ []

-- the first of these words that isn't a number has this place
abbrev pub IsFirstNoNumber : List (ℕ × List ℕ) → ℕ → Type 0
IsFirstNoNumber [] place = ⊥
IsFirstNoNumber (p ∷ more) place =
    ((place ≡ p.0) × ((n : ℕ) → IsNumber p.1 n → ⊥)) ⊎ (((n : ℕ) × IsNumber p.1 n) × IsFirstNoNumber more place)

-- what each error of a row says of its words: what is judged before its location is correct, and its defect is there
abbrev pub HasRowFault : GridMap → List (List ℕ) → ℕ → ScenFault → Type 0
HasRowFault grid words row (S2 at) = (at ≡ row) × (length words ≢ 9)
HasRowFault grid words row (S3 at place) = (at ≡ row) × (length words ≡ 9) × IsFirstNoNumber (numbered words) place
HasRowFault grid words row (S4 at) =
    (at ≡ row) × ((numbers : Numbers) × HasNumbers words numbers
    × ((numbers.width ≢ grid.width) ⊎ (numbers.height ≢ grid.height)))
HasRowFault grid words row (S5 at) =
    (at ≡ row) × ((numbers : Numbers) × HasSize grid words numbers
    × (((cell : ℕ) → IsCellAt grid numbers.start_x numbers.start_y cell → ⊥)
    ⊎ ((cell : ℕ) → IsCellAt grid numbers.goal_x numbers.goal_y cell → ⊥)))
HasRowFault grid words row (S6 at) =
    (at ≡ row) × ((agent : Agent) × HasFreeCells grid words agent × (IsDecimal (field words 9) → ⊥))
HasRowFault grid words row _ = ⊥
