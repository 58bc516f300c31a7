use Rattle.mapf_lemma_texts.proofs.PlainLines.{same_words, same_line}
use Rattle.mapf_lemma_texts.proofs.laws.lines_are_spelled_apart.Goals as goal

pub returns-clause-words : goal.returns-clause-words
returns-clause-words c = same_words

pub returns-clause-texts : goal.returns-clause-texts
returns-clause-texts c = same_line
