use Rattle.mapf_lemma_checker.proofs.lemma_judge.LemmaJudge.part.Goals as goal

pub returns-in-One-clause-refused : goal.returns-in-One-clause-refused
returns-in-One-clause-refused c = rw c.in-One.is c.one.ensures.refused

pub returns-in-Two-clause-refused : goal.returns-in-Two-clause-refused
returns-in-Two-clause-refused c = rw c.in-Two.is c.two.ensures.refused

pub returns-in-Never-clause-refused : goal.returns-in-Never-clause-refused
returns-in-Never-clause-refused c = rw c.in-Never.is c.never.ensures.refused
