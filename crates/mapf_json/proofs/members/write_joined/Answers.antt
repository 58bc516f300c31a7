use Rattle.std.proofs.Common.{◌++◌, ◌≡◌, OnErr, length, take, rules, sym, ap, ◌∙◌, subst}
use Rattle.std.proofs.KnownBytes.{Appends-trans}
use Rattle.std.specs.Io.KnownBytes.{Appends}
use Rattle.mapf_json.specs.Written.{joined}
use Rattle.mapf_json.proofs.JoinedLemmas.{joined_around, joined_more}
use Rattle.mapf_app.proofs.SolveLemmas.{WritesFront, failing, front_before, front_next}
use Rattle.mapf_json.proofs.members.write_joined.Goals as goal

pub loop-text-preserved : goal.loop-text-preserved
loop-text-preserved g c =
    let state = g.K.Sink.contents in
    let texts = c.args.texts.now in
    let i = c.loop-text.text-index in
    record {
      works = search rules;
      written = subst (Appends _ _) (ap (λ t. joined (take i texts) ++ t) c.as_bytes.ensures.value ∙ sym (joined_more texts i _ c.loop-text-test.true)) (Appends-trans _ _ _ _ _ c.loop-text.invariant.written c.in_ok-write_all.ensures.ok);
    }

pub returns-in_err-write_all-clause-prefix : goal.returns-in_err-write_all-clause-prefix
returns-in_err-write_all-clause-prefix g c =
    let state = g.K.Sink.contents in
    let texts = c.args.texts.now in
    let i = c.loop-text.text-index in
    let text = c.as_bytes.result.now in
    let (rest, same) = joined_around texts i _ c.loop-text-test.true in
    let whole = ap (λ t. joined (take i texts) ++ (t ++ rest)) c.as_bytes.ensures.value ∙ sym same in
    failing c.from_residual.result (subst (WritesFront (state c.args.sink.now) (state c.write_all.new.sink)) whole
    (front_next (state c.args.sink.now) (state c.loop-text.sink) (state c.write_all.new.sink) (joined (take i texts)) _ c.loop-text.invariant.written
    (front_before (state c.loop-text.sink) (state c.write_all.new.sink) text rest c.in_err-write_all.ensures.prefix)))
