use Rattle.mapf_lemma_texts.proofs.PartShapes.{texts_have_trees}
use Rattle.mapf_lemma_texts.proofs.part_laws.texts_have_trees.Goals as goal

pub returns : goal.returns
returns c = texts_have_trees
