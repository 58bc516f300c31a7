-- The whole of a certificate of version 3: its parts, one after another, and how it is spelled.
use Rattle.std.specs.Prelude.{◌≡◌, ℕ, List, [], ◌∷◌, ◌++◌, All, length, map}
use Rattle.std.specs.List.{flat_map}
use Rattle.mapf_lemmas.specs.Cases.{CaseTree, Branch, Leaf, Clash}
use Rattle.mapf_lemmas.specs.Lemmas.{Lemma, One, Two, NeverArrive, ByCases}
use Rattle.mapf_lemmas.specs.Prices.{PriceList}
use Rattle.mapf_lemmas.specs.declared.constraint.AgentConstraint.{AgentConstraint}
use Rattle.mapf_lemmas.specs.declared.constraint.PathConstraint.{PathConstraint}
use Rattle.mapf_lemmas.specs.declared.split.Split.{Split}
use Rattle.mapf_lemmas.specs.declared.split.Split.TheVariants as splits
use Rattle.mapf_lemma_texts.specs.declared.line.LemmaLine.TheVariants as lines
use Rattle.mapf_lemma_texts.specs.declared.part.Part.{Part}
use Rattle.mapf_lemma_texts.specs.declared.part.Part.TheVariants as parts
use Rattle.mapf_lemma_texts.specs.declared.due.Due.TheVariants as dues
use Rattle.mapf_lemma_texts.specs.declared.sizes.LineSizes.{LineSizes}
use Rattle.mapf_lemma_texts.specs.Lines.{line_text}
use Rattle.mapf_lemma_texts.specs.PartReading.{IsLemmaText, header_text}
use Rattle.mapf_lemma_texts.specs.Parts.{IsPart, part_text}
use Rattle.mapf_lemma_texts.specs.Ranges.{IsOneTo}
use Rattle.mapf_model.specs.Limits.{most_agents}
use Rattle.mapf_model.specs.Printed.{IsClaimInRange}
use Rattle.mapf_model.specs.declared.item.Claim.{Claim}

-- the part of a split
abbrev pub split_part : Split → Part
split_part (splits.Vertex i j cell tick) = parts.Vertex i j cell tick
split_part (splits.Swap i j from to tick) = parts.Swap i j from to tick
split_part (splits.Cost i ticks) = parts.Cost i ticks
split_part (splits.Costs i ticks j least lemma) = parts.Costs i ticks j least lemma

-- the parts of a tree: its nodes in pre-order
abbrev pub tree_parts : CaseTree → List Part
tree_parts (Branch split left right) = split_part split ∷ (tree_parts left ++ tree_parts right)
tree_parts (Leaf uses) = parts.Leaf uses ∷ []
tree_parts (Clash i j) = parts.Clash i j ∷ []

-- the constraint, of this agent
abbrev pub constraint_of : ℕ → PathConstraint → AgentConstraint
constraint_of i constraint = record { agent = i; constraint = constraint }

-- the parts of a lemma: by cases its head, and then its tree
abbrev pub lemma_parts : Lemma → List Part
lemma_parts (One i constraints number entries) =
    parts.One (record {
      agent = i;
      constraints = map (constraint_of i) constraints;
      list_number = number;
      entries = entries;
    }) ∷ []
lemma_parts (Two i j constraints number first second joint) =
    parts.Two (record {
      i = i;
      j = j;
      constraints = constraints;
      list_number = number;
      first = first;
      second = second;
      joint = joint;
    }) ∷ []
lemma_parts (NeverArrive i j cells) = parts.Never (record { i = i; j = j; cells = cells }) ∷ []
lemma_parts (ByCases agents constraints bound tree) =
    parts.Cases (record { agents = agents; constraints = constraints; bound = bound }) ∷ tree_parts tree

-- the parts of lemmas and of the last tree
abbrev pub lemmas_parts : List Lemma → CaseTree → List Part
lemmas_parts lemmas tree = flat_map lemma_parts lemmas ++ tree_parts tree

-- the parts of price lists, lemmas and the last tree
abbrev pub lists_parts : List PriceList → List Lemma → CaseTree → List Part
lists_parts lists lemmas tree = map parts.List lists ++ (parts.Lemmas (length lemmas) ∷ lemmas_parts lemmas tree)

-- all parts of a certificate
abbrev pub parts_of : List PriceList → List Lemma → CaseTree → List Part
parts_of lists lemmas tree = parts.Prices (length lists) ∷ lists_parts lists lemmas tree

-- the bytes spell, on a grid of this width and height, this number of agents, this claim, these price lists, these
-- lemmas and this last tree: the header, the parts and the end, each with its numbers in their ranges and its lists in
-- their orders
pub record SpellsCertificate (width height : ℕ) (bytes : List ℕ) (agents : ℕ) (claim : Claim) (lists : List PriceList)
    (lemmas : List Lemma) (tree : CaseTree) : Type 0 where
  pub agents_in_range : IsOneTo most_agents agents
  pub claim_in_range : IsClaimInRange claim
  pub sizes : LineSizes
  pub width_is : sizes.width ≡ width
  pub height_is : sizes.height ≡ height
  pub agents_are : sizes.agents ≡ agents
  pub lists_are : sizes.lists ≡ length lists
  pub in_range : All (IsPart sizes) (parts_of lists lemmas tree)
  pub spelled : bytes ≡ header_text width agents claim
      ++ (flat_map (part_text width) (parts_of lists lemmas tree) ++ line_text width lines.End)

-- a text of which each part is in its place spells price lists, lemmas and a tree, whose parts these are
abbrev pub TextsHaveTrees : Type 0
TextsHaveTrees =
    (width height : ℕ) (agents : ℕ) (claim : Claim) (parts : List Part) (bytes : List ℕ) →
    IsLemmaText width height dues.Prices agents claim parts bytes →
    (lists : List PriceList) × (lemmas : List Lemma) × (tree : CaseTree) × (parts ≡ parts_of lists lemmas tree)
    × SpellsCertificate width height bytes agents claim lists lemmas tree

-- the text of price lists, lemmas and a tree has their parts, each in its place
abbrev pub TreesHaveTexts : Type 0
TreesHaveTexts =
    (width height : ℕ) (bytes : List ℕ) (agents : ℕ) (claim : Claim) (lists : List PriceList) (lemmas : List Lemma)
    (tree : CaseTree) → SpellsCertificate width height bytes agents claim lists lemmas tree →
    IsLemmaText width height dues.Prices agents claim (parts_of lists lemmas tree) bytes

-- no bytes spell two certificates
abbrev pub SpellsOneCertificate : Type 0
SpellsOneCertificate =
    (width height : ℕ) (bytes : List ℕ) (agents agents' : ℕ) (claim claim' : Claim) (lists lists' : List PriceList)
    (lemmas lemmas' : List Lemma) (tree tree' : CaseTree) →
    SpellsCertificate width height bytes agents claim lists lemmas tree →
    SpellsCertificate width height bytes agents' claim' lists' lemmas' tree' →
    (agents ≡ agents') × (claim ≡ claim') × (lists ≡ lists') × (lemmas ≡ lemmas') × (tree ≡ tree')
