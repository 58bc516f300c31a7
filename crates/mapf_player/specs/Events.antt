-- Event texts: the agents that ask to move on, one after another, and the errors. (Own)
use Rattle.std.specs.Prelude.{◌≡◌, ◌≢◌, ◌⊎◌, ℕ, ◌+◌, ◌<◌, ◌≤◌, ◌^◌, true, List, [], ◌∷◌, ◌++◌, All, codes, length}
use Rattle.std.specs.Prelude.{Result, Err}
use Rattle.std.specs.Fmt.{decimal}
use Rattle.std.specs.Str.Parse.{AllDigits, digits_value}
use Rattle.mapf_fields.specs.Ends.{IsCut, lacks_end}
use Rattle.mapf_fields.specs.Numbers.{begins_well}
use Rattle.mapf_player.specs.declared.events.EventFault.{EventFault}
use Rattle.mapf_player.specs.declared.events.EventFault.TheVariants.{E1, E2, E3, E4, Memory}

-- the line of an agent that asks
abbrev pub event_line : ℕ → List ℕ
event_line agent = decimal agent ++ (10 ∷ [])

-- the lines of these agents
abbrev pub asked_lines : List ℕ → List ℕ
asked_lines [] = []
asked_lines (agent ∷ agents) = event_line agent ++ asked_lines agents

-- the lines of all agents that ask, and the last line
abbrev pub event_lines : List ℕ → List ℕ
event_lines [] = codes "end\n"
event_lines (agent ∷ agents) = event_line agent ++ event_lines agents

-- the whole text
abbrev pub event_text : List ℕ → List ℕ
event_text agents = codes "mapf-events 1\n" ++ event_lines agents

-- these bytes spell these events of so many agents
pub record SpellsEvents (bytes : List ℕ) (count : ℕ) (agents : List ℕ) : Type 0 where
  pub in_range : All (λ agent. agent < count) agents
  pub spelled : bytes ≡ event_text agents

-- for so many agents no bytes spell two lists of events
abbrev pub SpellsOneListOfEvents : Type 0
SpellsOneListOfEvents =
    (bytes : List ℕ) (count : ℕ) (a b : List ℕ) → count < 2 ^ 32 → SpellsEvents bytes count a →
    SpellsEvents bytes count b → a ≡ b

-- the result is as it has to be, or it is out of memory
abbrev pub OrMemory : {T : Type 0} → Result T EventFault → Type 0 → Type 0
OrMemory result is = is ⊎ (result ≡ Err Memory)

-- `0`, or any number of digits of which the first isn't `0`
abbrev pub IsNumberText : List ℕ → Type 0
IsNumberText line = AllDigits 10 line × (begins_well line ≡ true)

-- the text has a first line, and it isn't the title
pub record HasOtherTitle (bytes : List ℕ) : Type 0 where
  pub line : List ℕ
  pub rest : List ℕ
  pub cut : IsCut bytes line rest
  pub other : line ≢ codes "mapf-events 1"

-- the text begins with the title and the lines of agents, each below the count; the rest begins in this line
pub record HasRestAt (bytes : List ℕ) (count line : ℕ) (rest : List ℕ) : Type 0 where
  pub agents : List ℕ
  pub in_range : All (λ agent. agent < count) agents
  pub spelled : bytes ≡ codes "mapf-events 1\n" ++ (asked_lines agents ++ rest)
  pub number : line ≡ 2 + length agents

-- the rest has a first line, and it is neither `end` nor a number
pub record HasNoNumber (rest : List ℕ) : Type 0 where
  pub line : List ℕ
  pub after : List ℕ
  pub cut : IsCut rest line after
  pub no_end : line ≢ codes "end"
  pub no_number : IsNumberText line → ⊥

-- the rest has a first line, and it is a number that isn't below the count
pub record HasNoAgent (rest : List ℕ) (count : ℕ) : Type 0 where
  pub line : List ℕ
  pub after : List ℕ
  pub cut : IsCut rest line after
  pub is_number : IsNumberText line
  pub great : count ≤ digits_value 10 line

-- what each error says of an event text of so many agents: the lines before its location are correct, and its defect is
-- there; out of memory says nothing
abbrev pub HasEventFault : List ℕ → ℕ → EventFault → Type 0
HasEventFault bytes count (E1 line) =
    ((line ≡ 1) × HasOtherTitle bytes)
    ⊎ ((rest : List ℕ) × HasRestAt bytes count line rest × HasNoNumber rest)
HasEventFault bytes count (E2 line) =
    ((line ≡ 1) × (lacks_end bytes ≡ true))
    ⊎ ((rest : List ℕ) × HasRestAt bytes count line rest × (lacks_end rest ≡ true))
HasEventFault bytes count (E3 line) = (rest : List ℕ) × HasRestAt bytes count line rest × HasNoAgent rest count
HasEventFault bytes count (E4 line) =
    (last : ℕ) × (rest : List ℕ) × HasRestAt bytes count last (codes "end\n" ++ rest) × (line ≡ last + 1) × (rest ≢ [])
HasEventFault bytes count Memory = Unit {0}

-- why a line names no agent below the count: it isn't a number, or the number isn't below the count
abbrev pub GivesNoAgent : List ℕ → ℕ → ℕ → EventFault → Type 0
GivesNoAgent line count number (E1 at) = (at ≡ number) × (IsNumberText line → ⊥)
GivesNoAgent line count number (E3 at) = (at ≡ number) × IsNumberText line × (count ≤ digits_value 10 line)
GivesNoAgent line count number _ = ⊥
