use Rattle.std.proofs.Common.{◌≡◌, sym, subst, [], arith}
use Rattle.std.proofs.Math.Seq.{get_or-append_seam}
use Rattle.mapf_model.specs.Grid.{Step}
use Rattle.mapf_distance.proofs.DescentLemmas.{IsDescent, descent_more, descent_whole}
use Rattle.mapf_distance.proofs.MarkLemmas.{few_free}
use Rattle.mapf_distance.proofs.ShortestLemmas.{estimate_after, distance_few}
use Rattle.mapf_distance.proofs.shortest.descend.Goals as goal

pub loop-steps-preserved : goal.loop-steps-preserved
loop-steps-preserved c =
    let grid = c.args.grid.now in
    let search = c.args.search.now in
    let cells = c.loop-steps.cells.items in
    let items = c.push_reserved-in-loop-steps.ensures.items in
    let step = subst (λ from. Step grid from c.nearer-here.result) (sym c.loop-steps.invariant.here) c.nearer-here.ensures.step in
    let more = descent_more grid search.goal search.start c.args.distance c.loop-steps.steps cells c.nearer-here.result c.loop-steps.invariant.descent c.loop-steps-test.true step c.nearer-here.ensures.nearer
    (λ other to_other near. c.nearer-here.ensures.least other (subst (λ from. Step grid from other) c.loop-steps.invariant.here to_other) near) in
    record {
      descent = rw items more;
      here = rw (items, ← c.loop-steps.invariant.descent.count) (get_or-append_seam cells c.nearer-here.result [] 0);
      near = (let a = estimate_after grid c.loop-steps.here c.nearer-here.result search.start c.nearer-here.ensures.step in let b = c.loop-steps.invariant.near in omega arith);
      room = (let a = c.loop-steps.invariant.room in let b = c.push_reserved-in-loop-steps.ensures.capacity in omega arith);
    }

pub unwrap-requires : goal.unwrap-requires
unwrap-requires c =
    let total = c.loop-steps.invariant.descent.count in
    let within = c.loop-steps.invariant.descent.bound in
    let few = distance_few c.args.grid.now c.args.search.now.goal c.args.distance c.args.search.now.start c.requires.distance in
    let most = few_free c.args.grid.now c.requires.settled.searched.shape in
    c.of.ensures.size.1 (omega arith, omega arith)

pub returns : goal.returns
returns c =
    let grid = c.args.grid.now in
    let search = c.args.search.now in
    let distance = c.args.distance in
    let path = c.unwrap.result in
    let is : path ≡ c.loop-steps.cells.items = rw c.unwrap.ensures at c.of.ensures.value in
    let all : c.loop-steps.steps ≡ distance = omega arith in
    descent_whole
    (subst (λ cells. IsDescent grid search.goal search.start distance distance cells) (sym is)
    (subst (λ steps. IsDescent grid search.goal search.start distance steps c.loop-steps.cells.items) all c.loop-steps.invariant.descent))
    (distance_few grid search.goal distance search.start c.requires.distance)
