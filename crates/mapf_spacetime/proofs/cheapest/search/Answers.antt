use Rattle.std.proofs.Common.{subst}
use Rattle.std.proofs.lemmas.Result.{IfOk-weaker}
use Rattle.mapf_spacetime.specs.Answer.{IsPathAnswer}
use Rattle.mapf_spacetime.specs.Listing.{ListsReached}
use Rattle.mapf_spacetime.proofs.cheapest.search.Goals as goal

pub returns-clause-answer : goal.returns-clause-answer
returns-clause-answer g c =
    IfOk-weaker c.with_labels.result _ _ (λ found is. subst (λ task. IsPathAnswer task found) c.of-task.ensures is)
    (c.with_labels.ensures.answer c.of-task.result c.in_ok-search_states.ensures.answer)

pub returns-clause-listed : goal.returns-clause-listed
returns-clause-listed g c =
    IfOk-weaker c.with_labels.result _ _ (λ found is. subst (λ task. ListsReached task found) c.of-task.ensures is)
    (c.with_labels.ensures.listed c.of-task.result c.in_ok-search_states.ensures.listed)
