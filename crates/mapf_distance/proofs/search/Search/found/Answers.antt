use Rattle.std.proofs.Common.{arith}
use Rattle.std.proofs.lemmas.Bool.{iff_false}
use Rattle.mapf_distance.specs.Search.{open_of}
use Rattle.mapf_distance.proofs.ClosedLemmas.{ended_unreachable}
use Rattle.mapf_distance.proofs.SearchLemmas.{start_distance}
use Rattle.mapf_distance.proofs.search.Search.found.Goals as goal

pub returns-then-is_found-clause-distance : goal.returns-then-is_found-clause-distance
returns-then-is_found-clause-distance c = λ grid search.
    let self = c.args.self.now in
    let found = c.is_found.ensures.0 c.if-is_found.true in
    let entry = c.entry.ensures in
    start_distance grid self.start self.goal self.level self.table.items (open_of self) self.later.items search c.entry.result entry (omega arith) (omega arith)

pub returns-else-is_found-clause-none : goal.returns-else-is_found-clause-none
returns-else-is_found-clause-none c = λ grid search ended.
    ended_unreachable grid c.args.self.now search ended (iff_false c.is_found.ensures c.if-is_found.false)
