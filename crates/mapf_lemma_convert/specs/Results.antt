-- What the result of the call says of the texts.
use Rattle.std.specs.Prelude.{◌≡◌, ℕ, ⊤, List}
use Rattle.mapf_certificate.specs.Certificates.{SpellsCert}
use Rattle.mapf_certificate.specs.declared.version.Version.{Version}
use Rattle.mapf_model.specs.declared.item.Claim.{Claim}
use Rattle.mapf_model.specs.Grid.{GridMap}
use Rattle.mapf_model.specs.Tree.{ConstraintTree}
use Rattle.mapf_lemma_convert.specs.Conversion.{CanBeConverted, converted_text}
use Rattle.mapf_lemma_convert.specs.Laws.{SpellsConverted}
use Rattle.mapf_lemma_convert.specs.declared.converter.ConvertFault.{ConvertFault}
use Rattle.mapf_lemma_convert.specs.declared.converter.ConvertFault.TheVariants as faults

-- the old text spells a certificate of version 1 or 2 that can be converted, and the new text is the converted one
pub record IsConversion (grid : GridMap) (old new : List ℕ) : Type 0 where
  pub version : Version
  pub agents : ℕ
  pub claim : Claim
  pub tree : ConstraintTree
  pub spelled : SpellsCert grid old version agents claim tree
  pub fits : CanBeConverted tree
  pub text : new ≡ converted_text grid agents claim tree
  pub converted : SpellsConverted grid new agents claim tree

-- the tree can be converted, and this is the text of the converted certificate
abbrev pub IsConvertedText : GridMap → ℕ → Claim → ConstraintTree → List ℕ → Type 0
IsConvertedText grid agents claim tree new =
    CanBeConverted tree × (new ≡ converted_text grid agents claim tree) × SpellsConverted grid new agents claim tree

-- what an error says of the tree of a certificate that was read
abbrev pub IsRefusedTree : ConstraintTree → ConvertFault → Type 0
IsRefusedTree tree (faults.Text fault) = ⊥
IsRefusedTree tree faults.TooLarge = CanBeConverted tree → ⊥
IsRefusedTree tree faults.Memory = ⊤

-- the text spells no certificate of version 1 or 2
abbrev pub SpellsNone : GridMap → List ℕ → Type 0
SpellsNone grid text =
    (version : Version) (agents : ℕ) (claim : Claim) (tree : ConstraintTree) →
    SpellsCert grid text version agents claim tree → ⊥

-- the text spells a certificate of version 1 or 2 that can't be converted
abbrev pub SpellsTooLarge : GridMap → List ℕ → Type 0
SpellsTooLarge grid text =
    (version : Version) × (agents : ℕ) × (claim : Claim) × (tree : ConstraintTree)
    × SpellsCert grid text version agents claim tree × (CanBeConverted tree → ⊥)

-- what an error says of the text
abbrev pub IsRefused : GridMap → List ℕ → ConvertFault → Type 0
IsRefused grid text (faults.Text fault) = SpellsNone grid text
IsRefused grid text faults.TooLarge = SpellsTooLarge grid text
IsRefused grid text faults.Memory = ⊤
