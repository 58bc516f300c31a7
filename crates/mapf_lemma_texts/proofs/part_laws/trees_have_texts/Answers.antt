use Rattle.mapf_lemma_texts.proofs.PartRuns.{trees_have_texts}
use Rattle.mapf_lemma_texts.proofs.part_laws.trees_have_texts.Goals as goal

pub returns : goal.returns
returns c = trees_have_texts
