-- What the results of the two calls say.
use Rattle.std.proofs.Common.{◌≡◌, ℕ, List, Ok, Err, Result, IfOk, IfErr, MatchResult, refl}
use Rattle.mapf_certificate.specs.Certificates.{SpellsCert}
use Rattle.mapf_certificate.specs.declared.version.Version.{Version}
use Rattle.mapf_model.specs.declared.item.Claim.{Claim}
use Rattle.mapf_model.specs.Grid.{GridMap}
use Rattle.mapf_model.specs.Tree.{ConstraintTree}
use Rattle.mapf_lemma_convert.specs.Conversion.{CanBeConverted, converted_text}
use Rattle.mapf_lemma_convert.specs.Results.{IsConversion, IsConvertedText, IsRefused, IsRefusedTree}
use Rattle.mapf_lemma_convert.specs.declared.converter.ConvertFault.{ConvertFault}
use Rattle.mapf_lemma_convert.specs.declared.converter.ConvertFault.TheVariants as faults

module _ {T : Type 0} (items : T → List ℕ) (grid : GridMap) (agents : ℕ) (claim : Claim) (tree : ConstraintTree) where
  pub found_of : (old : List ℕ) (version : Version) → SpellsCert grid old version agents claim tree → (r : Result T ConvertFault) →
      MatchResult r (λ new. IsConvertedText grid agents claim tree (items new)) (IsRefusedTree tree) → IfOk r (λ new. IsConversion grid old (items new))
  found_of old version spells (Ok new) (fits, text, converted) = record {
    version = version;
    agents = agents;
    claim = claim;
    tree = tree;
    spelled = spells;
    fits = fits;
    text = text;
    converted = converted;
  }
  found_of old version spells (Err fault) is = tt

  pub refused_of : (old : List ℕ) (version : Version) → SpellsCert grid old version agents claim tree → (r : Result T ConvertFault) →
      MatchResult r (λ new. IsConvertedText grid agents claim tree (items new)) (IsRefusedTree tree) → IfErr r (IsRefused grid old)
  refused_of old version spells (Ok new) is = tt
  refused_of old version spells (Err (faults.Text fault)) is = absurd is
  refused_of old version spells (Err faults.TooLarge) is = (version, agents, claim, tree, spells, is)
  refused_of old version spells (Err faults.Memory) is = tt

  pub only_of : CanBeConverted tree → (r : Result T ConvertFault) →
      MatchResult r (λ new. IsConvertedText grid agents claim tree (items new)) (IsRefusedTree tree) →
      MatchResult r (λ new. items new ≡ converted_text grid agents claim tree) (λ fault. fault ≡ faults.Memory)
  only_of can (Ok new) is = is.1
  only_of can (Err (faults.Text fault)) is = absurd is
  only_of can (Err faults.TooLarge) is = absurd (is can)
  only_of can (Err faults.Memory) is = refl
