use Rattle.mapf_lemma_convert.specs.Conversion.{converted_text}
use Rattle.mapf_lemma_convert.proofs.TextLemmas.{spelled, convertible}
use Rattle.mapf_lemma_convert.proofs.laws.converted_certificates_are_spelled.Goals as goal

pub returns : goal.returns
returns c grid old version agents claim tree is_grid spells = (
  λ can. (converted_text grid agents claim tree, spelled grid agents claim tree is_grid spells.agents_in_range spells.claim_in_range spells.tree_in_range can),
  λ new. convertible grid agents claim tree new.0 new.1,
)
