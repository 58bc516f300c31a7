use Rattle.mapf_app.specs.Told.{verdict_line}
use Rattle.mapf_app.proofs.SolveLemmas.{failing, front_before, front_next, last_front}
use Rattle.mapf_app.proofs.demo.tell.Goals as goal

pub returns-in_err-write_all-2-clause-prefix : goal.returns-in_err-write_all-2-clause-prefix
returns-in_err-write_all-2-clause-prefix g c =
    let state = g.K.Sink.contents in
    failing c.from_residual-in_err-write_all-2.result (front_next (state c.args.sink.now) (state c.write_all.new.sink) (state c.write_all-2.new.sink) c.args.plan.now _ c.in_ok-write_all.ensures.ok
    (front_before (state c.write_all.new.sink) (state c.write_all-2.new.sink) c.args.cert.now (verdict_line c.args.verdict) c.in_err-write_all-2.ensures.prefix))

pub returns-clause-prefix : goal.returns-clause-prefix
returns-clause-prefix g c =
    let state = g.K.Sink.contents in
    rw (← c.of_verdict.ensures) (last_front c.write_line.result (state c.args.sink.now) (state c.write_all.new.sink) (state c.write_line.new.sink) c.args.plan.now _ c.in_ok-write_all.ensures.ok
    (last_front c.write_line.result (state c.write_all.new.sink) (state c.write_all-2.new.sink) (state c.write_line.new.sink) c.args.cert.now _ c.in_ok-write_all-2.ensures.ok c.write_line.ensures.prefix))
