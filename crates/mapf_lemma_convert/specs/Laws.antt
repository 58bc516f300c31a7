-- The laws of converted certificates.
use Rattle.std.specs.Prelude.{◌↔◌, ℕ, List, []}
use Rattle.mapf_certificate.specs.Certificates.{SpellsCert}
use Rattle.mapf_certificate.specs.declared.version.Version.{Version}
use Rattle.mapf_model.specs.declared.item.Claim.{Claim}
use Rattle.mapf_model.specs.Grid.{GridMap, IsGridMap}
use Rattle.mapf_model.specs.Plan.{Instance}
use Rattle.mapf_model.specs.Tree.{ConstraintTree, Shows}
use Rattle.mapf_lemmas.specs.Lemmas.{CertificateShows}
use Rattle.mapf_lemma_texts.specs.WholeTexts.{SpellsCertificate}
use Rattle.mapf_lemma_convert.specs.Conversion.{CanBeConverted, lemmas_of, cases_of}

-- what a tree shows in version 1 or 2, its lemmas and its proof by cases show in version 3
abbrev pub ConversionShows : Type 0
ConversionShows =
    (problem : Instance) (claim : Claim) (tree : ConstraintTree) → Shows problem claim tree →
    CertificateShows problem [] (lemmas_of tree) (cases_of tree) claim

-- the text spells the converted certificate on the grid
abbrev pub SpellsConverted : GridMap → List ℕ → ℕ → Claim → ConstraintTree → Type 0
SpellsConverted grid text agents claim tree =
    SpellsCertificate grid.width grid.height text agents claim [] (lemmas_of tree) (cases_of tree)

-- the tree of a certificate of version 1 or 2 can be converted exactly if a text spells the converted certificate
abbrev pub ConvertedAreSpelled : Type 0
ConvertedAreSpelled =
    (grid : GridMap) (old : List ℕ) (version : Version) (agents : ℕ) (claim : Claim) (tree : ConstraintTree) →
    IsGridMap grid → SpellsCert grid old version agents claim tree →
    CanBeConverted tree ↔ ((new : List ℕ) × SpellsConverted grid new agents claim tree)
