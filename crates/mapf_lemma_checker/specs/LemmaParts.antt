-- The lemmas that parts spell, and the ranges in which a judge is given parts.
use Rattle.std.specs.Prelude.{◌≡◌, ◌≤◌, ℕ, List, [], ◌∷◌, Option, None, Some, length, slice_get}
use Rattle.mapf_cases.specs.Ranges.{greatest_bound}
use Rattle.mapf_lemmas.specs.declared.constraint.PathConstraint.{PathConstraint}
use Rattle.mapf_lemmas.specs.SingleLabels.{Task}
use Rattle.mapf_lemmas.specs.Groups.{ticks_of}
use Rattle.mapf_lemmas.specs.Lemmas.{Lemma, One, Two, NeverArrive, LemmaShows}
use Rattle.mapf_lemmas.specs.Prices.{PriceList, cell_price}
use Rattle.mapf_lemmas.specs.Statements.{Statement, IsListOf, constraints_of}
use Rattle.mapf_lemma_texts.specs.declared.part.Part.{Part}
use Rattle.mapf_lemma_texts.specs.declared.sizes.LineSizes.{LineSizes}
use Rattle.mapf_lemma_texts.specs.PartValues.{OneValue, TwoValue, NeverValue}
use Rattle.mapf_lemma_texts.specs.Parts.{IsPart}
use Rattle.mapf_lemma_texts.specs.Ranges.{greatest_price}
use Rattle.mapf_model.specs.declared.label.Label.{Label}
use Rattle.mapf_model.specs.declared.label.Label.TheVariants.{Never}
use Rattle.mapf_model.specs.Plan.{Instance}

-- the lemma of one agent that the part spells
abbrev pub one_of : OneValue → Lemma
one_of lemma = One lemma.agent (constraints_of lemma.constraints lemma.agent) lemma.list_number lemma.entries

-- the lemma of two agents by labels that the part spells
abbrev pub two_of : TwoValue → Lemma
two_of lemma =
    Two lemma.i lemma.j lemma.constraints lemma.list_number lemma.first lemma.second lemma.joint

-- the lemma of two agents by joint cells that the part spells
abbrev pub never_of : NeverValue → Lemma
never_of lemma = NeverArrive lemma.i lemma.j lemma.cells

-- the statement of a lemma of one agent with this bound
abbrev pub one_statement : OneValue → Label → Statement
one_statement lemma least = record {
  agents = lemma.agent ∷ [];
  constraints = lemma.constraints;
  list_number = lemma.list_number;
  bound = least;
}

-- the statement of a lemma of two agents by labels with this bound
abbrev pub two_statement : TwoValue → Label → Statement
two_statement lemma least = record {
  agents = lemma.i ∷ lemma.j ∷ [];
  constraints = lemma.constraints;
  list_number = lemma.list_number;
  bound = least;
}

-- the statement of a lemma of two agents by joint cells
abbrev pub never_statement : NeverValue → Statement
never_statement lemma =
    record { agents = lemma.i ∷ lemma.j ∷ []; constraints = []; list_number = None; bound = Never }

-- the sizes by which the lines of a certificate for the problem are judged
pub record AreSizesOf (problem : Instance) (sizes : LineSizes) : Type 0 where
  pub width_is : sizes.width ≡ problem.grid.width
  pub height_is : sizes.height ≡ problem.grid.height
  pub agents_are : sizes.agents ≡ length problem.agents

-- a part of a certificate for the problem, with so many price lists, in its ranges and orders
pub record IsPartOf (problem : Instance) (lists : ℕ) (part : Part) : Type 0 where
  pub sizes : LineSizes
  pub of_problem : AreSizesOf problem sizes
  pub lists_are : sizes.lists ≡ lists
  pub in_range : IsPart sizes part

-- the task of the agent of this number, with this list and under these constraints
pub record IsAgentTask (problem : Instance) (prices : PriceList) (own : List PathConstraint) (i : ℕ) (task : Task) :
    Type 0 where
  pub grid_is : task.grid ≡ problem.grid
  pub agent_is : slice_get problem.agents i ≡ Some task.agent
  pub list_is : task.list ≡ prices
  pub constraints_are : task.constraints ≡ own

-- whatever lists and statements come before it, if this is the list of its number the lemma has the statement
abbrev pub HasStatement : Instance → PriceList → Lemma → Option ℕ → Statement → Type 0
HasStatement problem list lemma number statement =
    (lists : List PriceList) (known : List Statement) → IsListOf lists number list →
    LemmaShows problem lists known lemma statement

-- whatever lists and statements come before it, if this is the list of its number the lemma has no statement
abbrev pub HasNoStatement : Instance → PriceList → Lemma → Option ℕ → Type 0
HasNoStatement problem list lemma number =
    (lists : List PriceList) (known : List Statement) (statement : Statement) → IsListOf lists number list →
    LemmaShows problem lists known lemma statement → ⊥

-- a cell costs at most the greatest price at each tick
abbrev pub AreCellPricesSmall : PriceList → Type 0
AreCellPricesSmall list = (cell tick : ℕ) → cell_price list.prices cell tick ≤ greatest_price

-- the bound of a lemma with the list of this number, or without one, is small if it is finite
abbrev pub IsSmallBound : Option ℕ → Label → Type 0
IsSmallBound number least = ticks_of least ≤ greatest_bound number
