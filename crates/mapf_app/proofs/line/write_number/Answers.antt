use Rattle.std.proofs.Common.{[], ◌∷◌}
use Rattle.mapf_app.proofs.SolveLemmas.{last_front}
use Rattle.mapf_app.proofs.line.write_number.Goals as goal

pub returns-clause-prefix : goal.returns-clause-prefix
returns-clause-prefix g c =
    let state = g.K.Sink.contents in
    rw c.in-Some.is (rw (c.as_bytes.ensures.value, c.format.ensures.text) at (last_front c.write_all-2.result (state c.args.sink.now) (state c.write_all.new.sink) (state c.write_all-2.new.sink) (32 ∷ []) c.as_bytes.result.now c.in_ok-write_all.ensures.ok c.write_all-2.ensures.prefix))
