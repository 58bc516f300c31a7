use Rattle.std.proofs.Common.{◌≡◌, [], ◌++◌, Ok, Err, inl, append-nil, length-append, take, arith, subst}
use Rattle.std.specs.Io.KnownBytes.{Consumes}
use Rattle.std.proofs.KnownBytes.{Appends-trans, Consumes-trans}
use Rattle.std.proofs.lemmas.List.{length-take-le}
use Rattle.mapf_player.specs.declared.follower.Heard.TheVariants as heard
use Rattle.mapf_player.specs.Following.{HasHeard}
use Rattle.mapf_player.proofs.FollowLemmas.{ended_out, heard_out}
use Rattle.mapf_player.proofs.live.follow.Goals as goal

pub returns-then-n-eq0-clause-outcome : goal.returns-then-n-eq0-clause-outcome
returns-then-n-eq0-clause-outcome g c =
    let inv = c.loop-count.invariant in
    let first = g.R.Source.remaining c.args.requests.now in
    let mid = g.R.Source.remaining c.loop-count.requests in
    let left = g.R.Source.remaining c.pull.new.self in
    let none : Consumes mid left [] = subst (λ n. Consumes mid left (take n c.pull.new.buf)) c.if-n-eq0.true c.in-Ok.ensures.bytes.0 in
    let all = subst (Consumes first left) (append-nil inv.came) (Consumes-trans first mid left inv.came [] inv.consumed none) in
    let end = c.in-Ok.ensures.bytes.1 c.if-n-eq0.true (omega arith) in
    (inv.came, inv.written, all, inv.wrote, ended_out c.args.grid.now.width c.args.dispatch left inv.came inv.written c.loop-count.follower end inv.hearing c.end.result c.end.ensures.ok c.end.ensures.fault)

pub returns-in-Ok-End-clause-outcome : goal.returns-in-Ok-End-clause-outcome
returns-in-Ok-End-clause-outcome g c =
    let inv = c.loop-count.invariant in
    let first = g.R.Source.remaining c.args.requests.now in
    let mid = g.R.Source.remaining c.loop-count.requests in
    let left = g.R.Source.remaining c.pull.new.self in
    let bytes = take c.in-Ok.n c.pull.new.buf in
    let is : c.hear.result ≡ Ok heard.End = cc in
    let (text, wrote, has) = c.hear.ensures.heard c.args.dispatch inv.came inv.written inv.hearing in
    let ended = subst (HasHeard c.args.grid.now.width c.args.dispatch (inv.came ++ bytes) (inv.written ++ text) c.hear.new.self) is has in (
      inv.came ++ bytes,
      inv.written ++ text,
      Consumes-trans first mid left inv.came bytes inv.consumed c.in-Ok.ensures.bytes.0,
      Appends-trans (g.K.Sink.contents c.args.sink.now) (g.K.Sink.contents c.loop-count.sink) (g.K.Sink.contents c.hear.new.sink) inv.written text inv.wrote wrote,
      inl ended,
    )

pub returns-in-Err-clause-outcome : goal.returns-in-Err-clause-outcome
returns-in-Err-clause-outcome g c =
    let inv = c.loop-count.invariant in
    let first = g.R.Source.remaining c.args.requests.now in
    let mid = g.R.Source.remaining c.loop-count.requests in
    let left = g.R.Source.remaining c.pull.new.self in
    let bytes = take c.in-Ok.n c.pull.new.buf in
    let is : c.hear.result ≡ Err c.in-Err.fault = cc in
    let (text, wrote, has) = c.hear.ensures.heard c.args.dispatch inv.came inv.written inv.hearing in
    let ended = subst (HasHeard c.args.grid.now.width c.args.dispatch (inv.came ++ bytes) (inv.written ++ text) c.hear.new.self) is has in (
      inv.came ++ bytes,
      inv.written ++ text,
      Consumes-trans first mid left inv.came bytes inv.consumed c.in-Ok.ensures.bytes.0,
      Appends-trans (g.K.Sink.contents c.args.sink.now) (g.K.Sink.contents c.loop-count.sink) (g.K.Sink.contents c.hear.new.sink) inv.written text inv.wrote wrote,
      heard_out c.args.grid.now.width c.args.dispatch left (inv.came ++ bytes) (inv.written ++ text) c.hear.new.self c.in-Err.fault ended,
    )

pub loop-count-preserved : goal.loop-count-preserved
loop-count-preserved g c =
    let inv = c.loop-count.invariant in
    let first = g.R.Source.remaining c.args.requests.now in
    let mid = g.R.Source.remaining c.loop-count.requests in
    let left = g.R.Source.remaining c.pull.new.self in
    let bytes = take c.in-Ok.n c.pull.new.buf in
    let size = length-take-le c.in-Ok.n c.pull.new.buf c.in-Ok.ensures.bound in
    let is : c.hear.result ≡ Ok heard.More = cc in
    let (text, wrote, has) = c.hear.ensures.heard c.args.dispatch inv.came inv.written inv.hearing in
    let few = c.hear.ensures.few is in
    record {
      readable = c.in-Ok.ensures.failed;
      writable = c.in-Ok-More.ensures.failed;
      empty = c.hear.ensures.written;
      came = inv.came ++ bytes;
      written = inv.written ++ text;
      consumed = Consumes-trans first mid left inv.came bytes inv.consumed c.in-Ok.ensures.bytes.0;
      wrote = Appends-trans (g.K.Sink.contents c.args.sink.now) (g.K.Sink.contents c.loop-count.sink) (g.K.Sink.contents c.hear.new.sink) inv.written text inv.wrote wrote;
      hearing = subst (HasHeard c.args.grid.now.width c.args.dispatch (inv.came ++ bytes) (inv.written ++ text) c.hear.new.self) is has;
      counted = let counted = inv.counted in omega (arith, length-append inv.came bytes, size);
      few = let before = inv.few in omega (arith, size, few);
    }
