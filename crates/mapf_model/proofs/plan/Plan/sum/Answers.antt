use Rattle.std.proofs.Common.{◌≡◌, ◌<◌, length, Some, slice_get, subst, ◌∙◌, sym, ap, refl, arith}
use Rattle.std.proofs.lemmas.Option.{slice_get_read}
use Rattle.mapf_model.specs.Path.{IsCost}
use Rattle.mapf_model.proofs.SumLemmas.{AddsUpFirst-more}
use Rattle.mapf_model.proofs.plan.Plan.sum.Goals as goal

pub loop-i-preserved : goal.loop-i-preserved
loop-i-preserved c =
    let plan_is : c.deref-path-items.result.now ≡ c.args.self.now = c.deref-path-items.ensures.value ∙ c.self.view_is in
    let agents_are = c.agents-agents.ensures.value in
    let plan_long = ap (λ xs. length xs) plan_is in
    let agents_long = ap (λ xs. length xs) agents_are in
    let many = c.requires in
    let within_plan : c.loop-i.i < length c.deref-path-items.result.now = c.loop-i-test.true in
    let within_agents : c.loop-i.i < length c.agents-agents.result.now = omega arith in
    let path = subst (λ xs. slice_get xs c.loop-i.i ≡ Some c.path-item.result) plan_is (slice_get_read _ _ _ _ refl within_plan c.path-item.is) in
    let agent = subst (λ xs. slice_get xs c.loop-i.i ≡ Some c.index-agents-i.result) agents_are (slice_get_read _ _ _ _ refl within_agents c.index-agents-i.is) in
    let is : IsCost c.index-agents-i.result.goal c.path-item.result c.in-Some.cost = rw (sym c.index-agents-i.is) at c.in-Some.ensures.cost in
    AddsUpFirst-more c.args.problem.now.agents c.args.self.now c.loop-i.i c.loop-i.total c.index-agents-i.result c.path-item.result c.in-Some.cost c.loop-i.invariant agent path is (omega arith)
