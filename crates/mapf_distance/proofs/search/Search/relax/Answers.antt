use Rattle.std.proofs.Common.{inl, sym, subst}
use Rattle.mapf_distance.specs.Search.{IsRelaxed}
use Rattle.mapf_distance.proofs.search.Search.relax.Goals as goal

pub returns-in_ok-reach : goal.returns-in_ok-reach
returns-in_ok-reach c =
    let next = c.in-Some.next in
    subst (λ place. IsRelaxed c.args.grid.now place c.args.distance c.args.self.now c.reach.new.self) (sym c.in-Some.is)
    (inl (c.is_shorter.ensures.0 c.if-is_shorter.true, c.in_ok-reach.ensures.table, c.in_ok-reach.ensures.put _ (rw c.in-Some.is at c.requires.due), c.in_ok-reach.ensures.same))
