-- What a writer of parts asks of them, and the text that it makes of all of them.
use Rattle.std.specs.Prelude.{◌<◌, ◌^◌, ◌++◌, ℕ, List, All, length}
use Rattle.std.specs.List.{flat_map}
use Rattle.mapf_lemmas.specs.Groups.{Group}
use Rattle.mapf_lemma_texts.specs.declared.line.LemmaLine.TheVariants as lines
use Rattle.mapf_lemma_texts.specs.declared.part.Part.{Part}
use Rattle.mapf_lemma_texts.specs.declared.part.Part.TheVariants as parts
use Rattle.mapf_lemma_texts.specs.Lines.{line_text}
use Rattle.mapf_lemma_texts.specs.PartReading.{header_text}
use Rattle.mapf_lemma_texts.specs.Parts.{part_text}
use Rattle.mapf_model.specs.declared.item.Claim.{Claim}

-- few enough for a count of 32 bits
abbrev pub AreFew : {A : Type 0} → List A → Type 0
AreFew values = length values < 2 ^ 32

-- a group with few uses
abbrev pub HasFewUses : Group → Type 0
HasFewUses group = AreFew group.uses

-- what the part counts in 32 bits are few; a part in range has fewer
abbrev pub HasFewValues : Part → Type 0
HasFewValues (parts.One lemma) = AreFew lemma.constraints
HasFewValues (parts.Two lemma) = AreFew lemma.constraints
HasFewValues (parts.Cases lemma) = AreFew lemma.agents × AreFew lemma.constraints
HasFewValues (parts.Leaf leaf) = AreFew leaf.singles × AreFew leaf.groups × All HasFewUses leaf.groups
HasFewValues part = Unit {0}

-- the text of this header, these parts and the end, on a grid of this width
abbrev pub certificate_text : ℕ → ℕ → Claim → List Part → List ℕ
certificate_text width agents claim parts =
    header_text width agents claim ++ (flat_map (part_text width) parts ++ line_text width lines.End)
