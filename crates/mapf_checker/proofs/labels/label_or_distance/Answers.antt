use Rattle.mapf_distance.proofs.SearchLemmas.{distance_or_none}
use Rattle.mapf_checker.proofs.labels.label_or_distance.Goals as goal

pub returns-in-None : goal.returns-in-None
returns-in-None c =
    let grid = c.args.distances.now.grid in
    let goal_cell = c.args.distances.now.goal in
    rw c.in-None.is (c.distance_label.ensures grid goal_cell c.args.cell (distance_or_none grid goal_cell c.args.cell c.get.result c.get.ensures.some c.get.ensures.none))
