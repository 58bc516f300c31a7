use Rattle.mapf_lemmas.proofs.CaseExamples.{cases_show_five, uses_need_their_constraints}
use Rattle.mapf_lemmas.proofs.CrossingLemmas.{no_greater_label_is_sound}
use Rattle.mapf_lemmas.proofs.CertificateExamples.{a_lemma_of_two_shows_five, prices_show_five, joint_cells_show_impossibility}
use Rattle.mapf_lemmas.proofs.examples.certificates_by_example.Goals as goal

pub returns-clause-two : goal.returns-clause-two
returns-clause-two c = a_lemma_of_two_shows_five

pub returns-clause-greater : goal.returns-clause-greater
returns-clause-greater c = no_greater_label_is_sound

pub returns-clause-prices : goal.returns-clause-prices
returns-clause-prices c = prices_show_five

pub returns-clause-never : goal.returns-clause-never
returns-clause-never c = joint_cells_show_impossibility

pub returns-clause-cases : goal.returns-clause-cases
returns-clause-cases c = cases_show_five

pub returns-clause-uses : goal.returns-clause-uses
returns-clause-uses c = uses_need_their_constraints
