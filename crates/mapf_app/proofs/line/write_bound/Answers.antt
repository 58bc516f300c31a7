use Rattle.std.proofs.Common.{Some, codes}
use Rattle.mapf_app.specs.Told.{number_text}
use Rattle.mapf_app.proofs.SolveLemmas.{failing, front_before, last_front}
use Rattle.mapf_app.proofs.line.write_bound.Goals as goal

pub returns-in_err-write_all-clause-prefix : goal.returns-in_err-write_all-clause-prefix
returns-in_err-write_all-clause-prefix g c =
    let state = g.K.Sink.contents in
    rw c.in-Some.is (failing c.from_residual.result (front_before (state c.args.sink.now) (state c.write_all.new.sink) (codes " bound") (number_text (Some c.in-Some.bound)) c.in_err-write_all.ensures.prefix))

pub returns-clause-prefix : goal.returns-clause-prefix
returns-clause-prefix g c =
    let state = g.K.Sink.contents in
    rw c.in-Some.is (last_front c.write_number.result (state c.args.sink.now) (state c.write_all.new.sink) (state c.write_number.new.sink) (codes " bound") (number_text (Some c.in-Some.bound)) c.in_ok-write_all.ensures.ok c.write_number.ensures.prefix)
