use Rattle.std.proofs.Common.{◌<◌, ◌∙◌, ⊎_elim, length, sym, subst, arith}
use Rattle.std.proofs.lemmas.Bool.{cases_lt, false≢true, iff_false}
use Rattle.mapf_spacetime.specs.PathSearchEnds.{IsEnd}
use Rattle.mapf_spacetime.proofs.SweepLemmas.{last_tick, whole}
use Rattle.mapf_spacetime.proofs.turns.by_turns.Goals as goal
use Rattle.mapf_spacetime.proofs.turns.by_turns.Goals.{then-loop-arrives-test+else-not-is_over, else-loop-arrives-test, then-most_failures-allowed+in_ok-search-2+in-Paused-2, then-most_failures-allowed+in_ok-search-2+in-NoWay-2, else-most_failures-allowed}

pub loop-arrives-smaller : goal.loop-arrives-smaller
loop-arrives-smaller g c =
    let sweep = c.loop-arrives.sweep in
    let goes = c.loop-arrives.invariant.goes c.loop-arrives-test.true in
    let some : sweep.first < length sweep.states = ⊎_elim (λ less. less) (λ over. absurd (iff_false c.is_over.ensures c.if-not-is_over.true over)) (cases_lt sweep.first (length sweep.states)) in
    let last = last_tick c.args.task.now sweep.tick sweep.first sweep goes.reached some in
    let same = c.loop-arrives.invariant.bound in
    let did = c.in_ok-arrives-2.ensures in
    let tick = did.tick in
    omega arith

pub returns : goal.returns
returns g c =
    let sweep = c.loop-arrives.sweep in
    let goes = c.loop-arrives.invariant.goes c.if-arrives.false in
    elim c.loop-arrives-test.branch [
      | then-loop-arrives-test+else-not-is_over w ↦ (whole c.args.task.now sweep.tick sweep.first sweep goes.reached (w.is_over.ensures.0 w.if-not-is_over.false), c.loop-arrives.invariant.bound)
      | else-loop-arrives-test w ↦ absurd (false≢true (sym c.if-arrives.false ∙ w.loop-arrives-test.false))
    ]

pub loop-arrives-preserved : goal.loop-arrives-preserved
loop-arrives-preserved g c =
    let task = c.args.task.now in
    let bound = c.args.bound in
    let did = c.in_ok-arrives-2.ensures in
    elim c.if-most_failures-allowed.branch [
      | then-most_failures-allowed+in_ok-search-2+in-Paused-2 w ↦ rw w.walk-is (record { arrives = did.arrives; goes = did.goes; bound = did.bound ∙ c.loop-arrives.invariant.bound; searching = subst (IsEnd task bound w.search-then-most_failures-allowed.new.self) w.in-Paused-2.is w.in_ok-search-2.ensures })
      | then-most_failures-allowed+in_ok-search-2+in-NoWay-2 w ↦ rw w.walk-is (record { arrives = did.arrives; goes = did.goes; bound = did.bound ∙ c.loop-arrives.invariant.bound; searching = (subst (IsEnd task bound w.search-then-most_failures-allowed.new.self) w.in-NoWay-2.is w.in_ok-search-2.ensures).0 })
      | else-most_failures-allowed w ↦ rw w.walk-is (record { arrives = did.arrives; goes = did.goes; bound = did.bound ∙ c.loop-arrives.invariant.bound; searching = c.loop-arrives.invariant.searching })
    ]
