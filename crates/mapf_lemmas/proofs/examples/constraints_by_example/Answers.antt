use Rattle.mapf_lemmas.proofs.ConstraintExamples.{clear_forbids_rest, not_forbids_rest_until_then, least_allows_rest_at_its_tick, most_bars_who_is_late, most_meets_no_not}
use Rattle.mapf_lemmas.proofs.ConstraintExamples.{equal_meets, stricter_meets, later_clear_meets_no_not}
use Rattle.mapf_lemmas.proofs.examples.constraints_by_example.Goals as goal

pub returns-clause-clear : goal.returns-clause-clear
returns-clause-clear c = clear_forbids_rest

pub returns-clause-not : goal.returns-clause-not
returns-clause-not c = not_forbids_rest_until_then

pub returns-clause-least : goal.returns-clause-least
returns-clause-least c = least_allows_rest_at_its_tick

pub returns-clause-most : goal.returns-clause-most
returns-clause-most c = most_bars_who_is_late

pub returns-clause-meets : goal.returns-clause-meets
returns-clause-meets c = most_meets_no_not

pub returns-clause-equal : goal.returns-clause-equal
returns-clause-equal c = equal_meets

pub returns-clause-stricter : goal.returns-clause-stricter
returns-clause-stricter c = stricter_meets

pub returns-clause-later : goal.returns-clause-later
returns-clause-later c = later_clear_meets_no_not
