use Rattle.std.proofs.Common.{◌<◌, ◌∙◌, ⊎_elim, length, sym, arith}
use Rattle.std.proofs.lemmas.Bool.{cases_lt, false≢true, iff_false}
use Rattle.mapf_spacetime.proofs.SweepLemmas.{last_tick, whole}
use Rattle.mapf_spacetime.proofs.sweep.Sweep.arrival.Goals as goal
use Rattle.mapf_spacetime.proofs.sweep.Sweep.arrival.Goals.{then-loop-arrives-test+else-not-is_over, else-loop-arrives-test}

pub loop-arrives-smaller : goal.loop-arrives-smaller
loop-arrives-smaller g c =
    let sweep = c.loop-arrives.self in
    let goes = c.loop-arrives.invariant.goes c.loop-arrives-test.true in
    let some : sweep.first < length sweep.states = ⊎_elim (λ less. less) (λ over. absurd (iff_false c.is_over.ensures c.if-not-is_over.true over)) (cases_lt sweep.first (length sweep.states)) in
    let last = last_tick c.args.task.now sweep.tick sweep.first sweep goes.reached some in
    let did = c.in_ok-arrives-2.ensures in
    let tick = did.tick in
    let bound = did.bound in
    omega arith

pub returns-clause-whole : goal.returns-clause-whole
returns-clause-whole g c =
    let sweep = c.loop-arrives.self in
    let goes = c.loop-arrives.invariant.goes c.if-arrives.false in
    elim c.loop-arrives-test.branch [
      | then-loop-arrives-test+else-not-is_over w ↦ whole c.args.task.now sweep.tick sweep.first sweep goes.reached (w.is_over.ensures.0 w.if-not-is_over.false)
      | else-loop-arrives-test w ↦ absurd (false≢true (sym c.if-arrives.false ∙ w.loop-arrives-test.false))
    ]
