use Rattle.std.proofs.Common.{◌≡◌, ◌+◌, ◌<◌, true, false, length, take, set, slice_index_or, sym, subst, arith}
use Rattle.std.proofs.lemmas.Bool.{iff_false, true_from_ne_false}
use Rattle.std.proofs.lemmas.List.Elements.{All-contains}
use Rattle.mapf_cases.specs.Floors.{CoverAgents, IsFloorOf, floor_at}
use Rattle.mapf_cases.specs.Places.{place_of}
use Rattle.mapf_cases.proofs.FloorLemmas.{bad_alone, bad_twice, floors_more, singles_more}
use Rattle.mapf_cases.proofs.singles.judge_singles.Goals as goal

pub returns-in_default-clause-bad : goal.returns-in_default-clause-bad
returns-in_default-clause-bad c =
    let is = c.in_default.is in
    let none = c.in_default.ensures.none in
    bad_alone (place_of c.args.leaf.now) c.args.list.list_number c.args.singles.now c.loop-k.k c.loop-k-test.true c.loop-k.invariant.singles none

pub returns-then-not-set-clause-bad : goal.returns-then-not-set-clause-bad
returns-then-not-set-clause-bad c =
    let leaf = c.args.leaf.now in
    let single = c.in-Some.ensures.some in
    let agent = c.in-Some.single.agent in
    let named : slice_index_or c.loop-k.floors.named.items agent false ≡ true = true_from_ne_false _ (iff_false c.set.ensures.first c.if-not-set.true) in
    let (lemma, held, of_agent, counts) = subst (λ b. IsFloorOf leaf.known.now c.args.list.unit leaf.start_distances.now (take c.loop-k.k c.args.singles.now) agent (floor_at c.loop-k.floors.amounts.items agent) b) named (c.loop-k.invariant.floors agent single.inside) in
    bad_twice (place_of leaf) c.args.list.list_number c.args.singles.now c.loop-k.k c.loop-k-test.true c.loop-k.invariant.singles agent lemma single.alone held of_agent

pub loop-k-preserved : goal.loop-k-preserved
loop-k-preserved c =
    let leaf = c.args.leaf.now in
    let known = leaf.known.now in
    let unit = c.args.list.unit in
    let distances = leaf.start_distances.now in
    let singles = c.args.singles.now in
    let k = c.loop-k.k in
    let single = c.in-Some.ensures.some in
    let a = c.in-Some.single.agent in
    let counted = c.in-Some.single.counted in
    let old = c.loop-k.floors in
    let new = c.set.new.self in
    let yes = c.if-not-set.false in
    let lt : k < length singles = c.loop-k-test.true in
    let cover = c.loop-k.invariant.cover in
    let lengths_a = cover.amounts in
    let lengths_n = cover.named in
    let in_range : a < length distances = All-contains (λ agent. agent < length distances) leaf.agents.now a c.requires.agents single.inside in
    let first : slice_index_or old.named.items a false ≡ false = c.set.ensures.first.0 yes in
    let none = subst (λ b. IsFloorOf known unit distances (take k singles) a (floor_at old.amounts.items a) b) first (c.loop-k.invariant.floors a single.inside) in
    record {
      cover = subst (λ n. CoverAgents n new) lengths_n c.set.ensures.cover;
      floors = λ agent held.
          subst (λ l. IsFloorOf known unit distances (take (k + 1) singles) agent (floor_at l agent) (slice_index_or new.named.items agent false)) (sym (c.set.ensures.amounts yes))
          (subst (λ l. IsFloorOf known unit distances (take (k + 1) singles) agent (floor_at (set old.amounts.items a counted) agent) (slice_index_or l agent false)) (sym (c.set.ensures.named yes))
          (floors_more known unit distances singles k lt a single.alone old.amounts.items old.named.items counted (omega (arith, in_range, lengths_a)) (omega (arith, in_range, lengths_n)) single.counted agent (c.loop-k.invariant.floors agent held)));
      singles = singles_more (place_of leaf) c.args.list.list_number singles k lt c.loop-k.invariant.singles a single.usable single.alone none.0;
    }
