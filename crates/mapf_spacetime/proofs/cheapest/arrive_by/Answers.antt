use Rattle.std.proofs.Common.{sym, subst}
use Rattle.mapf_spacetime.specs.Answer.{IsArrival}
use Rattle.mapf_spacetime.specs.Listing.{ListsReached}
use Rattle.mapf_spacetime.specs.declared.found.Found.TheVariants.{Arrives}
use Rattle.mapf_spacetime.proofs.ListLemmas.{swept_listed}
use Rattle.mapf_spacetime.proofs.WayLemmas.{walk_first}
use Rattle.mapf_spacetime.proofs.PathLemmas.{walk_lawful, walk_satisfies, walk_cost, walk_tight}
use Rattle.mapf_spacetime.proofs.LabelLemmas.{sound_arrives, start_arrives}
use Rattle.mapf_spacetime.proofs.AnswerLemmas.{ranges_some, start_nearer}
use Rattle.mapf_spacetime.proofs.cheapest.arrive_by.Goals as goal

pub of-requires : goal.of-requires
of-requires g c = c.requires.arrived.swept.rising

pub returns-clause-answer : goal.returns-clause-answer
returns-clause-answer g c =
    let task = c.args.task.now in
    let cost = c.args.cost in
    let states = c.args.states.now in
    let h = c.requires.arrived in
    let cells = c.args.cells.items in
    let listed = c.in_ok-labels.labels in
    let way = c.requires.walk in
    let a = c.in_ok-labels.ensures in
    let path_is = rw c.unwrap.ensures at c.of-2.ensures.value in
    subst (λ path. IsArrival task path listed) (sym path_is) (record {
      cost = cost;
      lawful = walk_lawful task cost states cells h way c.requires.start c.definitions_are_decided.ensures.path;
      satisfies = walk_satisfies task cost states cells h way c.requires.start;
      is_cost = walk_cost task cost states cells h way c.requires.start;
      tight = walk_tight task cost states cells h way c.requires.start;
      limit = c.requires.limit;
      first = walk_first task cost cells way (walk_cost task cost states cells h way c.requires.start);
      labels = record { sound = sound_arrives task cost states h.swept listed a; rising = a.rising; ranges = ranges_some task c.requires.shape states listed cost c.requires.small h.swept.below a };
      start = start_arrives task cost states h.swept listed a h.within;
      needed = start_nearer task cost states h.swept listed a;
    })

pub returns-clause-listed : goal.returns-clause-listed
returns-clause-listed g c =
    let task = c.args.task.now in
    let cost = c.args.cost in
    let states = c.args.states.now in
    let h = c.requires.arrived in
    let cells = c.args.cells.items in
    let listed = c.in_ok-labels.labels in
    let path_is = rw c.unwrap.ensures at c.of-2.ensures.value in
    subst (λ path. ListsReached task (Arrives path listed)) (sym path_is) (
      cost,
      walk_cost task cost states cells h c.requires.walk c.requires.start,
      swept_listed task cost states listed h.swept c.in_ok-labels.ensures c.requires.start,
    )
