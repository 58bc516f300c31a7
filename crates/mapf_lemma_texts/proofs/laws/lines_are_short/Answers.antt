use Rattle.mapf_lemma_texts.proofs.PlainLines.{plain_line, some_words}
use Rattle.mapf_lemma_texts.proofs.laws.lines_are_short.Goals as goal

pub returns-clause-ends : goal.returns-clause-ends
returns-clause-ends c = λ place line is. (plain_line place line is).ends

pub returns-clause-short : goal.returns-clause-short
returns-clause-short c = λ place line is. (some_words place line is, (plain_line place line is).short)
