-- The least priced costs of single agents at a leaf.
use Rattle.std.specs.Prelude.{◌≡◌, ◌≢◌, ℕ, ◌*◌, ◌≤◌, ◌∷◌, [], Bool, true, false, List, Option, Some, None, All}
use Rattle.std.specs.Prelude.{Contains, length, slice_index_or}
use Rattle.mapf_cases.specs.Ranges.{greatest_counted}
use Rattle.mapf_cases.specs.declared.floors.Floors.{Floors}
use Rattle.mapf_lemmas.specs.Groups.{LeafLabels, times, ticks_of}
use Rattle.mapf_lemmas.specs.Statements.{Statement}
use Rattle.mapf_model.specs.declared.label.Label.{Label}
use Rattle.mapf_model.specs.declared.label.Label.TheVariants.{Ticks, Never}

-- there is a floor for each of so many agents, which is small if it is finite
pub record CoverAgents (agents : ℕ) (floors : Floors) : Type 0 where
  pub amounts : length floors.amounts.items ≡ agents
  pub named : length floors.named.items ≡ agents
  pub small : All (λ floor. ticks_of floor ≤ greatest_counted) floors.amounts.items

-- the floor of an agent
abbrev pub floor_at : List Label → ℕ → Label
floor_at amounts agent = slice_index_or amounts agent (Ticks 0)

-- what a distance is worth, in units of the price list
abbrev pub distance_worth : ℕ → Option ℕ → Label
distance_worth unit (Some distance) = Ticks (unit * distance)
distance_worth unit None = Never

-- what stands in for the statement of a number that no lemma has
abbrev pub no_statement : Statement
no_statement = record { agents = []; constraints = []; list_number = None; bound = Ticks 0 }

-- the agents of the lemma with this number
abbrev pub agents_of : List Statement → ℕ → List ℕ
agents_of known lemma = (slice_index_or known lemma no_statement).agents

-- what a bound counts, of a lemma with this price list or without one, at a leaf whose list has this unit
abbrev pub counted_under : Option ℕ → ℕ → Label → Label
counted_under (Some number) unit bound = bound
counted_under None unit bound = times unit bound

-- what the bound of the statement counts
abbrev pub counted_by : ℕ → Statement → Label
counted_by unit statement = counted_under statement.list_number unit statement.bound

-- what the lemma with this number counts
abbrev pub counted_of : List Statement → ℕ → ℕ → Label
counted_of known unit lemma = counted_by unit (slice_index_or known lemma no_statement)

-- the labels of a leaf with these floors
abbrev pub labels_of : List Statement → ℕ → List Label → LeafLabels
labels_of known unit amounts = record {
  floor = floor_at amounts;
  agents = agents_of known;
  counted = counted_of known unit;
}

-- the floor of an agent: what one of these lemmas counts, which is of the agent alone, or what the agent's distance is
-- worth
abbrev pub IsFloorOf : List Statement → ℕ → List (Option ℕ) → List ℕ → ℕ → Label → Bool → Type 0
IsFloorOf known unit distances singles agent floor true =
    (lemma : ℕ) × Contains singles lemma × (agents_of known lemma ≡ agent ∷ []) × (floor ≡ counted_of known unit lemma)
IsFloorOf known unit distances singles agent floor false =
    ((lemma : ℕ) → Contains singles lemma → agents_of known lemma ≢ agent ∷ [])
    × (floor ≡ distance_worth unit (slice_index_or distances agent None))

-- the floors of these agents, at a leaf that names these lemmas outside groups
abbrev pub AreFloors : List Statement → ℕ → List (Option ℕ) → List ℕ → List ℕ → Floors → Type 0
AreFloors known unit distances singles agents floors =
    (agent : ℕ) → Contains agents agent →
    IsFloorOf known unit distances singles agent (floor_at floors.amounts.items agent)
    (slice_index_or floors.named.items agent false)
