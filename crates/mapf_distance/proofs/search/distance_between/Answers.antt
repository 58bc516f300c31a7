use Rattle.std.proofs.Common.{◌∙◌}
use Rattle.mapf_distance.proofs.SearchLemmas.{distance_or_none}
use Rattle.mapf_distance.proofs.search.distance_between.Goals as goal

pub returns : goal.returns
returns c =
    let grid = c.args.grid.now in
    let searched = c.in_ok-spread.ensures.search in
    let goal = c.in_ok-spread.ensures.goal ∙ c.in_ok-search.ensures.goal in
    let start = c.in_ok-spread.ensures.start ∙ c.in_ok-search.ensures.start in
    let exact = c.found.ensures.distance grid searched in
    let missing = c.found.ensures.none grid searched c.in_ok-spread.ensures.ended in
    let some = rw (goal, start) at exact in
    let none = rw (goal, start) at missing in
    distance_or_none grid c.args.goal c.args.start c.found.result some none
