use Rattle.std.proofs.Common.{◌≡◌, ◌+◌, ◌∷◌, [], ◌++◌, Ok, Err, take, get_or, arith, subst}
use Rattle.std.proofs.KnownBytes.{Appends-nil, Appends-trans}
use Rattle.std.proofs.lemmas.List.{take_all}
use Rattle.mapf_player.specs.declared.follower.Heard.TheVariants as heard
use Rattle.mapf_player.specs.Following.{HasHeard, IsHearing}
use Rattle.mapf_player.proofs.FollowLemmas.{heard_last, heard_more, nothing_heard}
use Rattle.mapf_player.proofs.follower.Follower.hear.Goals as goal

pub loop-byte-init : goal.loop-byte-init
loop-byte-init g c = record {
  works = c.requires.works;
  empty = c.requires.empty;
  few = omega arith;
  heard = λ before came written hearing. ([], Appends-nil (g.K.Sink.contents c.args.sink.now), nothing_heard c.args.grid.now.width before came written c.args.self.now hearing);
}

pub loop-byte-preserved : goal.loop-byte-preserved
loop-byte-preserved g c =
    let width = c.args.grid.now.width in
    let bytes = c.args.bytes.now in
    let place = c.loop-byte.byte-index in
    let is : c.hear_byte.result ≡ Ok heard.More = cc in
    record {
      works = c.in-Ok-More.ensures.failed;
      empty = c.hear_byte.ensures.written;
      few = let one = c.hear_byte.ensures.few is in let so_far = c.loop-byte.invariant.few in omega arith;
      heard = λ before came written hearing.
          let (text, wrote, so_far) = c.loop-byte.invariant.heard before came written hearing in
          let (more, wrote_more, has) = c.hear_byte.ensures.heard before (came ++ take place bytes) (written ++ text) so_far in
          let here = heard_more width before came written bytes text more place c.hear_byte.new.self c.hear_byte.result c.loop-byte-test.true has in (
            text ++ more,
            Appends-trans (g.K.Sink.contents c.args.sink.now) (g.K.Sink.contents c.loop-byte.sink) (g.K.Sink.contents c.hear_byte.new.sink) text more wrote wrote_more,
            subst (HasHeard width before (came ++ take (place + 1) bytes) (written ++ (text ++ more)) c.hear_byte.new.self) is here,
          );
    }

pub returns-in-Ok-End-clause-heard : goal.returns-in-Ok-End-clause-heard
returns-in-Ok-End-clause-heard g c = λ before came written hearing.
    let width = c.args.grid.now.width in
    let bytes = c.args.bytes.now in
    let place = c.loop-byte.byte-index in
    let is : c.hear_byte.result ≡ Ok heard.End = cc in
    let (text, wrote, so_far) = c.loop-byte.invariant.heard before came written hearing in
    let (more, wrote_more, has) = c.hear_byte.ensures.heard before (came ++ take place bytes) (written ++ text) so_far in
    let ended = subst (HasHeard width before ((came ++ take place bytes) ++ get_or bytes place 0 ∷ []) ((written ++ text) ++ more) c.hear_byte.new.self) is has in (
      text ++ more,
      Appends-trans (g.K.Sink.contents c.args.sink.now) (g.K.Sink.contents c.loop-byte.sink) (g.K.Sink.contents c.hear_byte.new.sink) text more wrote wrote_more,
      heard_last width before came written bytes text more place c.hear_byte.new.self (Ok heard.End) c.loop-byte-test.true tt ended,
    )

pub returns-in-Err-clause-heard : goal.returns-in-Err-clause-heard
returns-in-Err-clause-heard g c = λ before came written hearing.
    let width = c.args.grid.now.width in
    let bytes = c.args.bytes.now in
    let place = c.loop-byte.byte-index in
    let is : c.hear_byte.result ≡ Err c.in-Err.fault = cc in
    let (text, wrote, so_far) = c.loop-byte.invariant.heard before came written hearing in
    let (more, wrote_more, has) = c.hear_byte.ensures.heard before (came ++ take place bytes) (written ++ text) so_far in
    let ended = subst (HasHeard width before ((came ++ take place bytes) ++ get_or bytes place 0 ∷ []) ((written ++ text) ++ more) c.hear_byte.new.self) is has in (
      text ++ more,
      Appends-trans (g.K.Sink.contents c.args.sink.now) (g.K.Sink.contents c.loop-byte.sink) (g.K.Sink.contents c.hear_byte.new.sink) text more wrote wrote_more,
      heard_last width before came written bytes text more place c.hear_byte.new.self (Err c.in-Err.fault) c.loop-byte-test.true tt ended,
    )

pub returns-clause-heard : goal.returns-clause-heard
returns-clause-heard g c = λ before came written hearing.
    let whole = take_all c.loop-byte.byte-index c.args.bytes.now (omega arith) in
    let (text, wrote, so_far) = c.loop-byte.invariant.heard before came written hearing in
    (text, wrote, subst (λ xs. IsHearing c.args.grid.now.width before (came ++ xs) (written ++ text) c.loop-byte.self) whole so_far)
