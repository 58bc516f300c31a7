use Rattle.mapf_spacetime.proofs.AnswerLemmas.{ranges_none}
use Rattle.mapf_spacetime.proofs.cheapest.dead.Goals as goal

pub returns-clause-answer : goal.returns-clause-answer
returns-clause-answer g c =
    let task = c.args.task.now in
    let listed = c.in_ok-labels.labels in
    let a = c.in_ok-labels.ensures in
    let shows = c.requires.none listed a in
    record {
      labels = record { sound = shows.sound; rising = a.rising; ranges = ranges_none task c.requires.shape c.args.states.now listed c.requires.few a };
      start = shows.start;
    }

pub returns-clause-listed : goal.returns-clause-listed
returns-clause-listed g c = c.requires.all c.in_ok-labels.labels c.in_ok-labels.ensures
