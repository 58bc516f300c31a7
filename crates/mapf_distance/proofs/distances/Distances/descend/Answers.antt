use Rattle.std.proofs.Common.{◌≡◌, sym, subst, [], arith}
use Rattle.std.proofs.Math.Seq.{get_or-append_seam}
use Rattle.mapf_model.specs.Grid.{Step}
use Rattle.mapf_distance.proofs.DescentLemmas.{IsDescent, descent_more, descent_whole, descent_cost}
use Rattle.mapf_distance.proofs.distances.Distances.descend.Goals as goal

pub loop-steps-preserved : goal.loop-steps-preserved
loop-steps-preserved c =
    let grid = c.args.self.now.grid in
    let cells = c.loop-steps.cells.items in
    let items = c.push_reserved-in-loop-steps.ensures.items in
    let step = subst (λ from. Step grid from c.nearer-here.result) (sym c.loop-steps.invariant.here) c.nearer-here.ensures.step in
    let more = descent_more grid c.args.self.now.goal c.args.cell c.in-Some.distance c.loop-steps.steps cells c.nearer-here.result c.loop-steps.invariant.descent c.loop-steps-test.true step c.nearer-here.ensures.nearer
    (λ other to_other near. c.nearer-here.ensures.least other (subst (λ from. Step grid from other) c.loop-steps.invariant.here to_other) near) in
    record {
      descent = rw items more;
      here = rw (items, ← c.loop-steps.invariant.descent.count) (get_or-append_seam cells c.nearer-here.result [] 0);
      room = (let a = c.loop-steps.invariant.room in let b = c.push_reserved-in-loop-steps.ensures.capacity in omega arith);
    }

pub returns : goal.returns
returns c =
    let grid = c.args.self.now.grid in
    let goal = c.args.self.now.goal in
    let distance = c.in-Some.distance in
    let path = c.unwrap.result in
    let is : c.unwrap.result ≡ c.loop-steps.cells.items = rw c.unwrap.ensures at c.of.ensures.value in
    let all : c.loop-steps.steps ≡ distance = omega arith in
    let descent : IsDescent grid goal c.args.cell distance distance path =
    subst (λ path. IsDescent grid goal c.args.cell distance distance path) (sym is)
    (subst (λ steps. IsDescent grid goal c.args.cell distance steps c.loop-steps.cells.items) all c.loop-steps.invariant.descent) in
    let whole = descent_whole descent c.in-Some.ensures.small in
    let count = descent.count in
    let bounded = c.in-Some.ensures.bounded in
    record { path = whole.is_path; start = whole.from_start; goal = whole.to_goal; shortest = whole.short; cost = descent_cost descent; tight = whole.tight; least = whole.least; few = omega arith }
