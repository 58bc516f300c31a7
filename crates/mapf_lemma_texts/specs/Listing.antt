-- Values that are listed one after another in a part, each in a line of its own.
use Rattle.std.specs.Prelude.{◌<◌, ℕ, List, ⊤, Contains, All, AllPairs}
use Rattle.std.specs.List.{flat_map}
use Rattle.mapf_certificate.specs.Bounded.{AreInOrder}
use Rattle.mapf_certificate.specs.Window.{BeginsWith}
use Rattle.mapf_lemmas.specs.declared.constraint.AgentConstraint.{AgentConstraint}
use Rattle.mapf_lemmas.specs.declared.price.Price.{Price}
use Rattle.mapf_lemmas.specs.declared.price.Price.TheVariants.{Cell, Edge}
use Rattle.mapf_lemma_texts.specs.declared.line.LemmaLine.{LemmaLine}
use Rattle.mapf_lemma_texts.specs.declared.sizes.LineSizes.{LineSizes}
use Rattle.mapf_lemma_texts.specs.Lines.{IsLaterLine, line_text}

-- the line of a value, with its LF
abbrev pub value_text : {A : Type 0} → ℕ → (A → LemmaLine) → A → List ℕ
value_text width line value = line_text width (line value)

-- the lines of values
abbrev pub values_text : {A : Type 0} → ℕ → (A → LemmaLine) → List A → List ℕ
values_text width line values = flat_map (value_text width line) values

-- the value's line is in range, and the value fits its list
abbrev pub IsListed : {A : Type 0} → LineSizes → (A → LemmaLine) → (A → Type 0) → A → Type 0
IsListed sizes line Fits value = IsLaterLine sizes (line value) × Fits value

-- the values are in range, fit their list, and come in this order
pub record AreListed (A : Type 0) (sizes : LineSizes) (line : A → LemmaLine) (Fits : A → Type 0)
    (Precedes : A → A → Type 0) (values : List A) : Type 0 where
  pub each : All (IsListed sizes line Fits) values
  pub rising : AllPairs Precedes values

-- the bytes begin with the lines of so many such values
abbrev pub BeginsWithList : (A : Type 0) → LineSizes → (A → LemmaLine) → (A → Type 0) → (A → A → Type 0) → ℕ →
    List ℕ → Type 0
BeginsWithList A sizes line Fits Precedes count =
    BeginsWith (List A) (AreInOrder A (IsListed sizes line Fits) Precedes count) (values_text sizes.width line)

-- the first cell of an edge has the smaller number
abbrev pub IsFirstSmaller : Price → Type 0
IsFirstSmaller (Cell cell tick amount) = ⊤
IsFirstSmaller (Edge from to tick amount) = from < to

-- the constraint is of one of these agents
abbrev pub IsOfAgents : List ℕ → AgentConstraint → Type 0
IsOfAgents agents constraint = Contains agents constraint.agent

-- any value fits
abbrev pub FitsAnyhow : {A : Type 0} → A → Type 0
FitsAnyhow value = Unit {0}

-- values may come in any order
abbrev pub InAnyOrder : {A : Type 0} → A → A → Type 0
InAnyOrder a b = Unit {0}
