use Rattle.mapf_lemmas.proofs.DecidedLemmas.{single_unique, joint_unique, statement_unique, leaf_decides}
use Rattle.mapf_lemmas.proofs.laws.lemmas_are_decided.Goals as goal

pub returns-clause-single : goal.returns-clause-single
returns-clause-single c = single_unique

pub returns-clause-joint : goal.returns-clause-joint
returns-clause-joint c = joint_unique

pub returns-clause-statement : goal.returns-clause-statement
returns-clause-statement c = statement_unique

pub returns-clause-leaf : goal.returns-clause-leaf
returns-clause-leaf c = leaf_decides
