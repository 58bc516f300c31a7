use Rattle.std.proofs.Common.{sym, subst, arith}
use Rattle.mapf_spacetime.specs.PathSearch.{IsWholeWalk}
use Rattle.mapf_spacetime.proofs.path_search.PathSearch.finish.Goals as goal

pub returns : goal.returns
returns g c =
    let searching = c.loop-self.invariant in
    let long = c.loop-self-test.false in
    let size = c.len.ensures in
    let short = searching.short in
    subst (IsWholeWalk c.args.task.now c.args.cost) (sym c.into_cells-2.ensures) (record {
      way = searching.from;
      count = omega (arith, long, size, short);
      least = searching.least;
    })
