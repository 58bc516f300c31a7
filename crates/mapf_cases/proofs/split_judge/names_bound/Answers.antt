use Rattle.std.proofs.Common.{◌≡◌, ◌<◌, Some, length, slice_get, refl, arith}
use Rattle.std.proofs.lemmas.Bool.Decides.{nat_tests}
use Rattle.std.proofs.lemmas.Option.{slice_get_read, slice_get_within}
use Rattle.mapf_cases.specs.Standing.{constraints_after}
use Rattle.mapf_cases.proofs.SplitLemmas.{bound_named, bound_of, usable_of}
use Rattle.mapf_cases.proofs.split_judge.names_bound.Goals as goal

pub returns-then-bounds_two : goal.returns-then-bounds_two
returns-then-bounds_two c scope known agents =
    let split = c.in-Costs in
    let is = c.in-Costs.is in
    let found = c.in-Some.ensures.lookup in
    let statement = c.in-Some.statement.now in
    let constraints = constraints_after c.args.standing.now in
    let named : slice_get scope.known split.lemma ≡ Some statement = rw known (slice_get_read c.args.known.now _ split.lemma statement refl found.3.0 found.1) in
    let may = c.may_be_used.ensures scope agents in
    rw is (
      λ used. bound_named scope constraints split.lemma split.i split.j _ statement named (c.bounds_two.ensures.0 c.if-bounds_two.true) (may.0 used),
      λ bounds. may.1 (usable_of scope constraints split.lemma split.i split.j _ statement named bounds),
    )

pub returns-else-bounds_two : goal.returns-else-bounds_two
returns-else-bounds_two c scope known agents =
    let split = c.in-Costs in
    let is = c.in-Costs.is in
    let found = c.in-Some.ensures.lookup in
    let statement = c.in-Some.statement.now in
    let constraints = constraints_after c.args.standing.now in
    let named : slice_get scope.known split.lemma ≡ Some statement = rw known (slice_get_read c.args.known.now _ split.lemma statement refl found.3.0 found.1) in
    rw is (
      λ bounded. absurd (cc (bounded, c.if-bounds_two.false)),
      λ bounds. c.bounds_two.ensures.1 (bound_of scope constraints split.lemma split.i split.j _ statement named bounds),
    )

pub returns-in-None : goal.returns-in-None
returns-in-None c scope known agents =
    let split = c.in-Costs in
    let is = c.in-Costs.is in
    let none = c.in-None.ensures.lookup.0 in
    rw is (
      λ no. absurd cc,
      λ bounds.
          let within : split.lemma < length c.args.known.now = rw known at (slice_get_within scope.known split.lemma bounds.statement bounds.named) in
          absurd (grind (arith, nat_tests, none, within)),
    )
