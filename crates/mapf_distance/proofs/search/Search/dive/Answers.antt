use Rattle.mapf_distance.proofs.search.Search.dive.Goals as goal

pub look_at-requires-clause-search : goal.look_at-requires-clause-search
look_at-requires-clause-search c = (c.in-Some.ensures.some c.args.grid.now c.loop-self.invariant.search).0

pub look_at-requires-clause-passed : goal.look_at-requires-clause-passed
look_at-requires-clause-passed c = (c.in-Some.ensures.some c.args.grid.now c.loop-self.invariant.search).1
