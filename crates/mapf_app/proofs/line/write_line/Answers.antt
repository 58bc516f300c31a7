use Rattle.mapf_app.proofs.SolveLemmas.{last_front, then_written}
use Rattle.mapf_app.proofs.line.write_line.Goals as goal

pub returns-clause-text : goal.returns-clause-text
returns-clause-text g c =
    let state = g.K.Sink.contents in
    rw c.as_bytes.ensures.value at (then_written c.write_rest.result (state c.args.sink.now) (state c.write_all.new.sink) (state c.write_rest.new.sink) c.as_bytes.result.now _ c.in_ok-write_all.ensures.ok c.write_rest.ensures.text)

pub returns-clause-prefix : goal.returns-clause-prefix
returns-clause-prefix g c =
    let state = g.K.Sink.contents in
    rw c.as_bytes.ensures.value at (last_front c.write_rest.result (state c.args.sink.now) (state c.write_all.new.sink) (state c.write_rest.new.sink) c.as_bytes.result.now _ c.in_ok-write_all.ensures.ok c.write_rest.ensures.prefix)
