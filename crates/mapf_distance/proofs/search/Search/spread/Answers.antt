use Rattle.std.proofs.Common.{◌∙◌, ap}
use Rattle.std.proofs.lemmas.Bool.{both_ways, iff_false}
use Rattle.mapf_distance.specs.Search.{open_of}
use Rattle.mapf_distance.proofs.search.Search.spread.Goals as goal

pub rise-requires-clause-swept : goal.rise-requires-clause-swept
rise-requires-clause-swept c = c.loop-aim.invariant.swept (iff_false c.is_found.ensures c.loop-aim-test.true)

pub returns-then-not-rise-clause-ended : goal.returns-then-not-rise-clause-ended
returns-then-not-rise-clause-ended c = λ missing.
    let same = c.rise.ensures.ended (λ up. both_ways c.rise.result c.if-not-rise.true up) in
    (ap open_of same.0 ∙ c.loop-aim.invariant.swept (iff_false c.is_found.ensures c.loop-aim-test.true), same.1)

pub dive-requires-in-loop-aim-clause-search : goal.dive-requires-in-loop-aim-clause-search
dive-requires-in-loop-aim-clause-search c = c.rise.ensures.search c.args.grid.now c.loop-aim.invariant.search

pub returns-clause-ended : goal.returns-clause-ended
returns-clause-ended c = λ missing. absurd (missing (c.is_found.ensures.0 c.loop-aim-test.false))
