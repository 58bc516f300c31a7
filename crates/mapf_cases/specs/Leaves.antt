-- What a leaf shows, as its judge computes it.
use Rattle.std.specs.Prelude.{◌≡◌, ℕ, ◌+◌, ◌-◌, ◌<◌, ◌≤◌, List, Option, Some, None, All, length, slice_get}
use Rattle.std.specs.Prelude.{slice_index_or, sum_by, take}
use Rattle.mapf_cases.specs.Floors.{CoverAgents}
use Rattle.mapf_cases.specs.Loads.{HaveLoads}
use Rattle.mapf_cases.specs.declared.floors.Floors.{Floors}
use Rattle.mapf_cases.specs.declared.loads.Loads.{Loads}
use Rattle.mapf_cases.specs.Places.{LeafPlace, AreSingles, AreGroups, IsFirstBadSingle, IsFirstBadUse, no_group}
use Rattle.mapf_cases.specs.Ranges.{IsGroupInRange, IsStatementInRange, greatest_unit}
use Rattle.mapf_cases.specs.Totals.{label_total}
use Rattle.mapf_cases.specs.declared.known.LeafProblem.{LeafProblem}
use Rattle.mapf_cases.specs.declared.known.LeafList.{LeafList}
use Rattle.mapf_cases.specs.declared.known.ListTotal.{ListTotal}
use Rattle.mapf_cases.specs.declared.leaf_fault.LeafFault.{LeafFault}
use Rattle.mapf_cases.specs.declared.leaf_fault.LeafFault.TheVariants.{NotAllowed, TooWeak}
use Rattle.mapf_cases.specs.declared.leaf_fault.UsePlace.{UsePlace}
use Rattle.mapf_cases.specs.declared.leaf_fault.UsePlace.TheVariants.{Single, InGroup}
use Rattle.mapf_distance.specs.Tables.{AreStartDistances}
use Rattle.mapf_lemmas.specs.declared.leaf.Use.{Use}
use Rattle.mapf_lemmas.specs.Groups.{Group, LeafUses, LeafLabels, Scope, excess, divided, times}
use Rattle.mapf_lemmas.specs.Prices.{PriceList, total_price}
use Rattle.mapf_model.specs.declared.label.Label.{Label}
use Rattle.mapf_model.specs.declared.label.Label.TheVariants.{Ticks, Never}
use Rattle.mapf_model.specs.Limits.{most_agents}

-- the unit of a price list, and the sum of its prices
abbrev pub IsTotalOf : PriceList → ListTotal → Type 0
IsTotalOf list total = (list.unit ≡ total.unit) × (total_price list.prices ≡ total.total)

-- the units of the lists, and the sums of their prices
pub record AreTotalsOf (lists : List PriceList) (totals : List ListTotal) : Type 0 where
  pub count : length totals ≡ length lists
  pub each : (number : ℕ) (list : PriceList) (total : ListTotal) → slice_get lists number ≡ Some list →
      slice_get totals number ≡ Some total → IsTotalOf list total

-- what the judge is given is of this scope
pub record IsScopeOf (leaf : LeafProblem) (scope : Scope) : Type 0 where
  pub known : scope.known ≡ leaf.known.now
  pub agents : scope.agents ≡ leaf.agents.now
  pub lists : AreTotalsOf scope.lists leaf.list_totals.now
  pub distances : AreStartDistances scope.problem leaf.start_distances.now

-- a unit is 1 to 1,000
pub record IsUnitInRange (total : ListTotal) : Type 0 where
  pub some : 1 ≤ total.unit
  pub few : total.unit ≤ greatest_unit

-- what the judge is given is in range: statements and units are small, and the agents, at most 200, have distances
pub record IsLeafProblemInRange (leaf : LeafProblem) : Type 0 where
  pub known : All IsStatementInRange leaf.known.now
  pub units : All IsUnitInRange leaf.list_totals.now
  pub few : length leaf.agents.now ≤ most_agents
  pub agents : All (λ agent. agent < length leaf.start_distances.now) leaf.agents.now

-- the price list that the leaf names, if it names one, is one of so many
abbrev pub IsListIn : ℕ → Option ℕ → Type 0
IsListIn count None = Unit {0}
IsListIn count (Some number) = number < count

-- what a leaf names is in range: its price list is one of so many, and it has at most 200 groups
pub record AreUsesInRange (lists : ℕ) (uses : LeafUses) : Type 0 where
  pub list : IsListIn lists uses.list_number
  pub few : length uses.groups ≤ most_agents
  pub groups : All IsGroupInRange uses.groups

-- the list that the leaf names, if it names one: its unit and the sum of its prices
abbrev pub IsLeafList : List ListTotal → Option ℕ → LeafList → Type 0
IsLeafList totals None list = (list.list_number ≡ None) × (list.unit ≡ 1) × (list.total ≡ 0)
IsLeafList totals (Some number) list =
    (list.list_number ≡ Some number)
    × (slice_get totals number ≡ Some (record { unit = list.unit; total = list.total }))

-- what a lemma counts beyond what its agents cost at least, infinite if it counts infinite
abbrev pub excess_label : LeafLabels → ℕ → Label → Label
excess_label labels lemma (Ticks counted) = Ticks (excess labels lemma)
excess_label labels lemma Never = Never

-- what a use adds to its group's sum
abbrev pub use_worth : LeafLabels → Use → Label
use_worth labels used = times used.weight (excess_label labels used.lemma (labels.counted used.lemma))

-- a quotient, rounded up
abbrev pub divided_label : Label → ℕ → Label
divided_label (Ticks n) divisor = Ticks (divided n divisor)
divided_label Never divisor = Never

-- what a group is worth
abbrev pub group_worth : LeafLabels → Group → Label
group_worth labels group = divided_label (label_total (use_worth labels) group.uses) group.divisor

-- less the sum of all prices, but at least 0
abbrev pub label_less : Label → ℕ → Label
label_less (Ticks n) total = Ticks (n - total)
label_less Never total = Never

-- the use at the place, which is in a group, is the first that isn't allowed
abbrev pub IsFirstBadIn : LeafPlace → Option ℕ → List Group → UsePlace → Type 0
IsFirstBadIn place list_number groups (Single index) = ⊥
IsFirstBadIn place list_number groups (InGroup group index) = IsFirstBadUse place list_number groups group index

-- what is kept from leaf to leaf is of so many agents
pub record IsWork (agents : ℕ) (floors : Floors) (loads : Loads) : Type 0 where
  pub floors_cover : CoverAgents agents floors
  pub loads_have : HaveLoads agents loads

-- the use at the place is the first that rule 8 doesn't allow
abbrev pub IsFirstNotAllowed : LeafPlace → LeafUses → UsePlace → Type 0
IsFirstNotAllowed place uses (Single index) = IsFirstBadSingle place uses.list_number uses.singles index
IsFirstNotAllowed place uses (InGroup group index) =
    AreSingles place uses.list_number uses.singles
    × IsFirstBadUse place uses.list_number uses.groups group index

-- rule 8 holds
pub record AreUsesAllowed (place : LeafPlace) (uses : LeafUses) : Type 0 where
  pub singles : AreSingles place uses.list_number uses.singles
  pub groups : AreGroups place uses.list_number uses.groups

-- what is wrong with the leaf, if it is anything
abbrev pub IsLeafFault : LeafPlace → LeafUses → LeafFault → Type 0
IsLeafFault place uses (NotAllowed use_place) = IsFirstNotAllowed place uses use_place
IsLeafFault place uses TooWeak = AreUsesAllowed place uses

-- how many uses a leaf names outside groups, how many groups and how many uses in each
pub record AreLinesInRange (uses : LeafUses) : Type 0 where
  pub singles : length uses.singles ≤ most_agents
  pub groups : length uses.groups ≤ most_agents
  pub each : All (λ group. length group.uses ≤ 200000) uses.groups

-- the leaf has a use at the place
abbrev pub IsPlaceIn : LeafUses → UsePlace → Type 0
IsPlaceIn uses (Single index) = index < length uses.singles
IsPlaceIn uses (InGroup group index) =
    (group < length uses.groups) × (index < length (slice_index_or uses.groups group no_group).uses)

-- how many lines after that of the leaf the use stands: each use outside groups, each group and each of its uses has a
-- line
abbrev pub lines_to : LeafUses → UsePlace → ℕ
lines_to uses (Single index) = index + 1
lines_to uses (InGroup group index) =
    length uses.singles + sum_by (λ one. length one.uses + 1) (take group uses.groups) + index + 2
