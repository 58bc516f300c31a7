use Rattle.std.proofs.Common.{◌≡◌, ◌+◌, ◌<◌, ◌∙◌, length, ap, sym, subst, arith}
use Rattle.std.proofs.lemmas.Bool.{both_ways}
use Rattle.std.proofs.lemmas.Option.{same_Some}
use Rattle.mapf_model.specs.Neighbours.{neighbourhood}
use Rattle.mapf_distance.specs.Marks.{entry_of}
use Rattle.mapf_distance.specs.Search.{estimate}
use Rattle.mapf_distance.proofs.BesideLemmas.{none_more, none_left, place_step, first_least}
use Rattle.mapf_distance.proofs.DescentLemmas.{nearer_step}
use Rattle.mapf_distance.proofs.ShortestLemmas.{free_if_entry, next_entry, next_distance}
use Rattle.mapf_distance.proofs.StepLemmas.{Walk-from_free}
use Rattle.mapf_distance.proofs.shortest.nearer.Goals as goal
use Rattle.mapf_distance.proofs.shortest.nearer.Goals.{in-Some+else-has_entry, in_default}

pub returns-then-has_entry : goal.returns-then-has_entry
returns-then-has_entry c =
    let grid = c.args.grid.now in
    let cell = c.args.cell in
    let search = c.args.search.now in
    let index = c.loop-beside.beside-index in
    let next = c.in-Some.next in
    let five = ap length c.neighbourhood-beside-items.ensures in
    let wide : 0 < grid.width = let e = c.width.ensures.width in let p = c.width.ensures.positive in omega arith in
    let beside = c.neighbourhood-beside-items.ensures ∙ ap (λ w. neighbourhood w cell) c.width.ensures.width in
    let free = Walk-from_free grid cell search.goal (c.args.distance + 1) c.requires.distance.walk in
    let entry = c.has_entry.ensures.0 c.if-has_entry.true in
    let free_next = free_if_entry grid (c.args.distance + 1 + estimate grid cell search.start) search c.requires.settled c.args.distance next (omega arith) entry in
    let step = place_step grid cell c.neighbourhood-beside-items.result beside wide free index next c.beside-item.result (omega arith) c.in-Some.is free_next in
    record {
      step = step;
      nearer = next_distance grid cell c.args.distance search c.requires.settled next step entry;
      least = λ other to_other there. first_least grid cell c.neighbourhood-beside-items.result beside wide free (λ next. entry_of search.table.items next ≡ c.args.distance) index next c.beside-item.result (omega arith) c.loop-beside.invariant c.in-Some.is
          other to_other (next_entry grid cell c.args.distance search c.requires.settled other to_other there);
    }

pub loop-beside-preserved : goal.loop-beside-preserved
loop-beside-preserved c =
    let five = ap length c.neighbourhood-beside-items.ensures in
    none_more c.neighbourhood-beside-items.result (λ next. entry_of c.args.search.now.table.items next ≡ c.args.distance) c.loop-beside.beside-index c.beside-item.result (omega arith) c.loop-beside.invariant
    (λ next found there. elim c.match-beside.branch [
      | in-Some+else-has_entry w ↦
          let at : next ≡ w.in-Some.next = same_Some next w.in-Some.next (sym found ∙ w.in-Some.is) in
          both_ways w.has_entry.result w.if-has_entry.false (w.has_entry.ensures.1 (subst (λ cell. entry_of c.args.search.now.table.items cell ≡ c.args.distance) at there))
      | in_default w ↦ w.in_default.not-Some next found
    ])

pub unreachable-requires : goal.unreachable-requires
unreachable-requires c =
    let grid = c.args.grid.now in
    let cell = c.args.cell in
    let search = c.args.search.now in
    let five = ap length c.neighbourhood-beside-items.ensures in
    let wide : 0 < grid.width = let e = c.width.ensures.width in let p = c.width.ensures.positive in omega arith in
    let beside = c.neighbourhood-beside-items.ensures ∙ ap (λ w. neighbourhood w cell) c.width.ensures.width in
    let (next, step, there) = nearer_step grid search.goal cell c.args.distance c.requires.distance in
    none_left grid cell c.neighbourhood-beside-items.result beside wide (Walk-from_free grid cell search.goal (c.args.distance + 1) c.requires.distance.walk)
    (λ next. entry_of search.table.items next ≡ c.args.distance) c.loop-beside.beside-index (omega arith) c.loop-beside.invariant next step (next_entry grid cell c.args.distance search c.requires.settled next step there)
