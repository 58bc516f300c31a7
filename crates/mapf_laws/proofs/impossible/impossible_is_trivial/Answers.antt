use Rattle.mapf_laws.proofs.ImpossibleLemmas.{impossible_is_trivial}
use Rattle.mapf_laws.proofs.TrivialLemmas.{trivial_is_shown}
use Rattle.mapf_laws.proofs.impossible.impossible_is_trivial.Goals as goal

pub returns-clause-only : goal.returns-clause-only
returns-clause-only c = impossible_is_trivial c.label_bound.ensures.none

pub returns-clause-shown : goal.returns-clause-shown
returns-clause-shown c = trivial_is_shown
