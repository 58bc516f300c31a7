use Rattle.std.proofs.Common.{◌≡◌, ◌<◌, ◌≤◌, All, length, get_or, refl, sym, ap, subst, ◌∙◌, arith}
use Rattle.std.proofs.lemmas.List.{get_or_default}
use Rattle.mapf_cases.specs.Loads.{HaveLoads}
use Rattle.mapf_cases.specs.Places.{cut_group, no_group, place_of, weight_at, weight_on}
use Rattle.mapf_cases.proofs.GroupLemmas.{agents_there, all_inside, first_bad_agent, first_bad_lemma, first_worth_fits, groups_after, known_in_range, loads_after, loads_next, total_after, usable_more, use_range, worth_small}
use Rattle.mapf_cases.proofs.TotalLemmas.{sum_fits}
use Rattle.mapf_lemmas.specs.Groups.{Group, ticks_of}
use Rattle.mapf_cases.proofs.groups.judge_group.Goals as goal

pub returns-in_default-clause-bad : goal.returns-in_default-clause-bad
returns-in_default-clause-bad c =
    let group : Group = record { divisor = c.group.inside.divisor; uses = c.group.inside.uses.items } in
    let groups = c.args.groups.now in
    let same : group ≡ get_or groups c.args.number no_group = c.group.view_is ∙ c.index-groups-number.is ∙ get_or_default groups c.args.number _ no_group c.requires.number in
    let i = c.loop-k.invariant in
    let count = c.len-k-end.ensures in
    let test = c.loop-k-test.true in
    let lt : c.loop-k.k < length c.group.inside.uses.items = omega (arith, count, test) in
    first_bad_lemma (place_of c.args.leaf.now) c.args.counting.now.list.list_number groups c.args.number c.requires.number group same c.requires.groups c.requires.before c.loop-k.k i.usable c.loop-k.loads i.loads
    lt c.index-used.result.now c.index-used.ensures c.in_default.ensures.none

pub add-requires-clause-agents : goal.add-requires-clause-agents
add-requires-clause-agents c =
    let is = c.in-Some.ensures.some in
    let marks = c.loop-k.invariant.have.marks in
    let agents = c.deref.ensures.value ∙ ap (λ s. s.agents) c.statement.view_is in
    subst (λ n. All (λ a. a < n) c.deref.result.now) (sym marks) (all_inside (λ a. a < length c.args.leaf.now.start_distances.now) c.args.leaf.now.agents.now c.in-Some.statement.now.agents c.deref.result.now agents is.inside c.requires.agents)

pub returns-then-not-add-clause-bad : goal.returns-then-not-add-clause-bad
returns-then-not-add-clause-bad c =
    let group : Group = record { divisor = c.group.inside.divisor; uses = c.group.inside.uses.items } in
    let groups = c.args.groups.now in
    let place = place_of c.args.leaf.now in
    let number = c.args.counting.now.list.list_number in
    let known = c.args.leaf.now.known.now in
    let same : group ≡ get_or groups c.args.number no_group = c.group.view_is ∙ c.index-groups-number.is ∙ get_or_default groups c.args.number _ no_group c.requires.number in
    let i = c.loop-k.invariant in
    let count = c.len-k-end.ensures in
    let test = c.loop-k-test.true in
    let lt : c.loop-k.k < length c.group.inside.uses.items = omega (arith, count, test) in
    let is = c.in-Some.ensures.some in
    let agents = c.deref.ensures.value ∙ ap (λ s. s.agents) c.statement.view_is in
    let inside = agents_there place number groups c.args.number c.requires.number group same c.requires.groups c.requires.before c.loop-k.k i.usable c.loop-k.loads i.loads
    lt c.index-used.result.now c.index-used.ensures c.in-Some.statement.now is c.deref.result.now agents in
    let over = c.add.ensures.over c.if-not-add.true c.args.leaf.now.agents.now (weight_at known groups) (weight_on known (cut_group c.loop-k.k group)) i.loads inside in
    first_bad_agent place number groups c.args.number c.requires.number group same c.requires.groups c.requires.before c.loop-k.k i.usable c.loop-k.loads i.loads
    lt c.index-used.result.now c.index-used.ensures c.in-Some.statement.now is c.deref.result.now agents over

pub worth_of_use-requires-clause-range : goal.worth_of_use-requires-clause-range
worth_of_use-requires-clause-range c =
    known_in_range (place_of c.args.leaf.now) c.args.counting.now.list.list_number c.index-used.result.now.lemma c.in-Some.statement.now c.requires.known c.in-Some.ensures.some

pub worth_of_use-requires-clause-agents : goal.worth_of_use-requires-clause-agents
worth_of_use-requires-clause-agents c =
    let is = c.in-Some.ensures.some in
    let amounts = c.requires.floors.amounts in
    subst (λ n. All (λ a. a < n) c.in-Some.statement.now.agents) (sym amounts) (all_inside (λ a. a < length c.args.leaf.now.start_distances.now) c.args.leaf.now.agents.now c.in-Some.statement.now.agents c.in-Some.statement.now.agents refl is.inside c.requires.agents)

pub plus-sum-requires : goal.plus-sum-requires
plus-sum-requires c =
    let group : Group = record { divisor = c.group.inside.divisor; uses = c.group.inside.uses.items } in
    let groups = c.args.groups.now in
    let same : group ≡ get_or groups c.args.number no_group = c.group.view_is ∙ c.index-groups-number.is ∙ get_or_default groups c.args.number _ no_group c.requires.number in
    let i = c.loop-k.invariant in
    let count = c.len-k-end.ensures in
    let test = c.loop-k-test.true in
    let lt : c.loop-k.k < length c.group.inside.uses.items = omega (arith, count, test) in
    let sum = first_worth_fits (place_of c.args.leaf.now) c.args.counting.now.list.list_number groups c.args.number c.requires.number group same c.requires.groups c.requires.before c.loop-k.k i.usable c.loop-k.loads i.loads
    c.args.counting.now.list.unit c.args.counting.now.floors.now.amounts.items c.loop-k.sum c.requires.unit c.requires.known c.requires.scope i.sum in
    let range = use_range (place_of c.args.leaf.now) c.args.counting.now.list.list_number groups c.args.number c.requires.number group same c.requires.groups c.requires.before c.loop-k.k i.usable c.loop-k.loads i.loads
    lt c.index-used.result.now c.index-used.ensures in
    let few = range.few in
    let one = c.worth_of_use.ensures.small in
    sum_fits c.loop-k.sum c.worth_of_use.result (omega (arith, sum, few, one))

pub loop-k-preserved : goal.loop-k-preserved
loop-k-preserved c =
    let group : Group = record { divisor = c.group.inside.divisor; uses = c.group.inside.uses.items } in
    let groups = c.args.groups.now in
    let place = place_of c.args.leaf.now in
    let number = c.args.counting.now.list.list_number in
    let known = c.args.leaf.now.known.now in
    let same : group ≡ get_or groups c.args.number no_group = c.group.view_is ∙ c.index-groups-number.is ∙ get_or_default groups c.args.number _ no_group c.requires.number in
    let i = c.loop-k.invariant in
    let count = c.len-k-end.ensures in
    let test = c.loop-k-test.true in
    let lt : c.loop-k.k < length c.group.inside.uses.items = omega (arith, count, test) in
    let is = c.in-Some.ensures.some in
    let used = c.index-used.result.now in
    let statement = c.in-Some.statement.now in
    let agents = c.deref.ensures.value ∙ ap (λ s. s.agents) c.statement.view_is in
    let inside = agents_there place number groups c.args.number c.requires.number group same c.requires.groups c.requires.before c.loop-k.k i.usable c.loop-k.loads i.loads
    lt used c.index-used.ensures statement is c.deref.result.now agents in
    let added = c.add.ensures.added c.if-not-add.false c.args.leaf.now.agents.now (weight_at known groups) (weight_on known (cut_group c.loop-k.k group)) i.loads inside in
    let worth = c.worth_of_use.ensures.worth known used is.named refl in
    record {
      have = subst (λ n. HaveLoads n c.add.new.self) i.have.marks c.add.ensures.loads;
      usable = usable_more place number groups c.args.number c.requires.number group same c.requires.groups c.requires.before c.loop-k.k i.usable c.loop-k.loads i.loads
          lt used c.index-used.ensures statement is c.deref.result.now agents;
      loads = loads_after place number groups c.args.number c.requires.number group same c.requires.groups c.requires.before c.loop-k.k i.usable c.loop-k.loads i.loads
          lt used c.index-used.ensures statement is c.deref.result.now agents c.add.new.self added;
      sum = total_after place number groups c.args.number c.requires.number group same c.requires.groups c.requires.before c.loop-k.k i.usable c.loop-k.loads i.loads
          lt used c.index-used.ensures statement is c.deref.result.now agents c.args.counting.now.list.unit c.args.counting.now.floors.now.amounts.items c.loop-k.sum c.worth_of_use.result c.plus-sum.result i.sum worth c.plus-sum.ensures;
    }

pub divided-requires-clause-small : goal.divided-requires-clause-small
divided-requires-clause-small c =
    let group : Group = record { divisor = c.group.inside.divisor; uses = c.group.inside.uses.items } in
    let groups = c.args.groups.now in
    let same : group ≡ get_or groups c.args.number no_group = c.group.view_is ∙ c.index-groups-number.is ∙ get_or_default groups c.args.number _ no_group c.requires.number in
    let i = c.loop-k.invariant in
    let sum = first_worth_fits (place_of c.args.leaf.now) c.args.counting.now.list.list_number groups c.args.number c.requires.number group same c.requires.groups c.requires.before c.loop-k.k i.usable c.loop-k.loads i.loads
    c.args.counting.now.list.unit c.args.counting.now.floors.now.amounts.items c.loop-k.sum c.requires.unit c.requires.known c.requires.scope i.sum in
    omega (arith, sum)

pub returns-clause-ok : goal.returns-clause-ok
returns-clause-ok c =
    let group : Group = record { divisor = c.group.inside.divisor; uses = c.group.inside.uses.items } in
    let groups = c.args.groups.now in
    let same : group ≡ get_or groups c.args.number no_group = c.group.view_is ∙ c.index-groups-number.is ∙ get_or_default groups c.args.number _ no_group c.requires.number in
    let i = c.loop-k.invariant in
    let count = c.len-k-end.ensures in
    let test = c.loop-k-test.false in
    let le : length c.group.inside.uses.items ≤ c.loop-k.k = omega (arith, count, test) in
    groups_after (place_of c.args.leaf.now) c.args.counting.now.list.list_number groups c.args.number c.requires.number group same c.requires.groups c.requires.before c.loop-k.k i.usable c.loop-k.loads i.loads le

pub returns-clause-loads : goal.returns-clause-loads
returns-clause-loads c =
    let group : Group = record { divisor = c.group.inside.divisor; uses = c.group.inside.uses.items } in
    let groups = c.args.groups.now in
    let same : group ≡ get_or groups c.args.number no_group = c.group.view_is ∙ c.index-groups-number.is ∙ get_or_default groups c.args.number _ no_group c.requires.number in
    let i = c.loop-k.invariant in
    let count = c.len-k-end.ensures in
    let test = c.loop-k-test.false in
    let le : length c.group.inside.uses.items ≤ c.loop-k.k = omega (arith, count, test) in
    loads_next (place_of c.args.leaf.now) c.args.counting.now.list.list_number groups c.args.number c.requires.number group same c.requires.groups c.requires.before c.loop-k.k i.usable c.loop-k.loads i.loads le

pub returns-clause-small : goal.returns-clause-small
returns-clause-small c =
    let group : Group = record { divisor = c.group.inside.divisor; uses = c.group.inside.uses.items } in
    let groups = c.args.groups.now in
    let same : group ≡ get_or groups c.args.number no_group = c.group.view_is ∙ c.index-groups-number.is ∙ get_or_default groups c.args.number _ no_group c.requires.number in
    let i = c.loop-k.invariant in
    let less = worth_small (place_of c.args.leaf.now) c.args.counting.now.list.list_number groups c.args.number c.requires.number group same c.requires.groups c.requires.before c.loop-k.k i.usable c.loop-k.loads i.loads
    c.args.counting.now.list.unit c.args.counting.now.floors.now.amounts.items c.loop-k.sum c.requires.unit c.requires.known c.requires.scope i.sum in
    let is = ap ticks_of c.divided.ensures in
    omega (arith, less, is)
