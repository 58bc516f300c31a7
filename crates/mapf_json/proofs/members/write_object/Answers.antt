use Rattle.std.proofs.Common.{◌≡◌, ◌++◌, List, ℕ, OnErr, OnOk, append_assoc, codes, ap, subst}
use Rattle.std.specs.Io.KnownBytes.{Appends}
use Rattle.mapf_app.proofs.SolveLemmas.{WritesFront, failing, front_before, last_front, then_written}
use Rattle.mapf_json.specs.Written.{object_text, rest_text}
use Rattle.mapf_json.specs.declared.object.Object.{Object}
use Rattle.mapf_json.proofs.members.write_object.Goals as goal

-- what is written first
abbrev head : Object → List ℕ
head object = codes "{\"verdict\":\"" ++ (object.verdict.now ++ codes "\"")

whole : (object : Object) → head object ++ rest_text object ≡ object_text object
whole object = ap (λ t. codes "{\"verdict\":\"" ++ t) (append_assoc object.verdict.now (codes "\"") (rest_text object))

pub returns-in_err-write_joined-clause-prefix : goal.returns-in_err-write_joined-clause-prefix
returns-in_err-write_joined-clause-prefix g c =
    let state = g.K.Sink.contents in
    let object = c.args.object.now in
    failing c.from_residual.result (subst (WritesFront (state c.args.sink.now) (state c.write_joined.new.sink)) (whole object)
    (front_before (state c.args.sink.now) (state c.write_joined.new.sink) (head object) (rest_text object) c.in_err-write_joined.ensures.prefix))

pub returns-clause-text : goal.returns-clause-text
returns-clause-text g c =
    let state = g.K.Sink.contents in
    let object = c.args.object.now in
    let r = c.write_rest.result in
    subst (λ t. OnOk r (Appends (state c.args.sink.now) (state c.write_rest.new.sink) t)) (whole object)
    (then_written r (state c.args.sink.now) (state c.write_joined.new.sink) (state c.write_rest.new.sink) (head object) (rest_text object) c.in_ok-write_joined.ensures.text c.write_rest.ensures.text)

pub returns-clause-prefix : goal.returns-clause-prefix
returns-clause-prefix g c =
    let state = g.K.Sink.contents in
    let object = c.args.object.now in
    let r = c.write_rest.result in
    subst (λ t. OnErr r (WritesFront (state c.args.sink.now) (state c.write_rest.new.sink) t)) (whole object)
    (last_front r (state c.args.sink.now) (state c.write_joined.new.sink) (state c.write_rest.new.sink) (head object) (rest_text object) c.in_ok-write_joined.ensures.text c.write_rest.ensures.prefix)
