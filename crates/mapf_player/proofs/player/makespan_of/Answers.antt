use Rattle.std.proofs.Common.{◌≡◌, ◌<◌, length, Some, slice_get, subst, sym, ap, refl, arith}
use Rattle.std.proofs.lemmas.Option.{slice_get_read}
use Rattle.mapf_player.proofs.CostLemmas.{IsMakespanOf-none, IsMakespanOf-more, IsMakespanOf-all, lawful_costs}
use Rattle.mapf_player.proofs.player.makespan_of.Goals as goal

pub loop-i-init : goal.loop-i-init
loop-i-init c = IsMakespanOf-none c.args.problem.now.agents c.args.plan.now

pub unwrap-requires : goal.unwrap-requires
unwrap-requires c =
    let plan_is = c.paths-path-items.ensures.value in
    let agents_are = c.agents-agents.ensures.value in
    let plan_long = ap (λ xs. length xs) plan_is in
    let agents_long = ap (λ xs. length xs) agents_are in
    let count = c.requires.count in
    let within : c.loop-i.i < length c.agents-agents.result.now = omega arith in
    let path = subst (λ xs. slice_get xs c.loop-i.i ≡ Some c.path-item.result) plan_is (slice_get_read _ _ _ _ refl c.loop-i-test.true c.path-item.is) in
    let agent = subst (λ xs. slice_get xs c.loop-i.i ≡ Some c.index-agents-i.result) agents_are (slice_get_read _ _ _ _ refl within c.index-agents-i.is) in
    let none = rw (sym c.index-agents-i.is) at c.cost.ensures.none in
    lawful_costs c.args.problem.now c.args.plan.now c.loop-i.i c.index-agents-i.result c.path-item.result c.cost.result c.requires agent path none

pub loop-i-preserved : goal.loop-i-preserved
loop-i-preserved c =
    let plan_is = c.paths-path-items.ensures.value in
    let agents_are = c.agents-agents.ensures.value in
    let plan_long = ap (λ xs. length xs) plan_is in
    let agents_long = ap (λ xs. length xs) agents_are in
    let count = c.requires.count in
    let within : c.loop-i.i < length c.agents-agents.result.now = omega arith in
    let path = subst (λ xs. slice_get xs c.loop-i.i ≡ Some c.path-item.result) plan_is (slice_get_read _ _ _ _ refl c.loop-i-test.true c.path-item.is) in
    let agent = subst (λ xs. slice_get xs c.loop-i.i ≡ Some c.index-agents-i.result) agents_are (slice_get_read _ _ _ _ refl within c.index-agents-i.is) in
    let costs = rw c.unwrap.ensures at c.cost.ensures.cost in
    let is = rw (sym c.index-agents-i.is) at costs in
    rw c.max-makespan.ensures (IsMakespanOf-more c.args.problem.now.agents c.args.plan.now c.loop-i.i c.loop-i.makespan c.index-agents-i.result c.path-item.result c.unwrap.result c.loop-i.invariant agent path is)

pub returns : goal.returns
returns c =
    let plan_long = ap (λ xs. length xs) c.paths-path-items.ensures.value in
    IsMakespanOf-all c.args.problem.now.agents c.args.plan.now c.loop-i.i c.loop-i.makespan (omega arith) (omega arith) c.loop-i.invariant
