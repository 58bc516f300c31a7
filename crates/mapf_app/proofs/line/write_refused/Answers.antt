use Rattle.std.proofs.Common.{◌≡◌, ℕ, List, [], ◌∷◌, ◌++◌, OnErr, OnOk, codes, drop, sym, ap, ◌∙◌, subst}
use Rattle.std.specs.Io.KnownBytes.{Appends}
use Rattle.mapf_app.specs.Told.{BeginsRefused, rest_text}
use Rattle.mapf_app.proofs.LineLemmas.{same_code}
use Rattle.mapf_app.proofs.SolveLemmas.{WritesFront, failing, front_before, front_next, last_front, then_written}
use Rattle.mapf_app.proofs.line.write_refused.Goals as goal

-- the end of the line
abbrev after : List ℕ
after = codes "); this is the answer of cbs\n"

-- its beginning
abbrev before : List ℕ
before = codes "mapf: the answer of cbsh was refused ("

pub returns-clause-text : goal.returns-clause-text
returns-clause-text g c text (code, own, same) =
    let state = g.K.Sink.contents in
    let r = c.write_rest.result in
    let line = c.refusal_line-line.result in
    let begins = c.refusal_line-line.ensures.words (code ++ (10 ∷ [])) own in
    let code_is = c.code_of.ensures (subst BeginsRefused (sym c.as_bytes.ensures.value) begins) ∙ ap (drop 8) c.as_bytes.ensures.value in
    let says = same_code line code after begins (c.refusal_line-line.ensures.text ∙ own) in
    let is : before ++ (c.code_of.result.now ++ rest_text line after) ≡ text = ap (λ t. before ++ (t ++ rest_text line after)) code_is ∙ ap (λ t. before ++ t) says ∙ sym same in
    subst (λ t. OnOk r (Appends (state c.args.sink.now) (state c.write_rest.new.sink) t)) is
    (then_written r (state c.args.sink.now) (state c.write_all.new.sink) (state c.write_rest.new.sink) before _ c.in_ok-write_all.ensures.ok
    (then_written r (state c.write_all.new.sink) (state c.write_all-2.new.sink) (state c.write_rest.new.sink) c.code_of.result.now _ c.in_ok-write_all-2.ensures.ok c.write_rest.ensures.text))

pub returns-in_err-write_all-clause-prefix : goal.returns-in_err-write_all-clause-prefix
returns-in_err-write_all-clause-prefix g c text (code, own, same) =
    let state = g.K.Sink.contents in
    failing c.from_residual.result (subst (WritesFront (state c.args.sink.now) (state c.write_all.new.sink)) (sym same)
    (front_before (state c.args.sink.now) (state c.write_all.new.sink) before (code ++ after) c.in_err-write_all.ensures.prefix))

pub returns-in_err-write_all-2-clause-prefix : goal.returns-in_err-write_all-2-clause-prefix
returns-in_err-write_all-2-clause-prefix g c text (code, own, same) =
    let state = g.K.Sink.contents in
    let line = c.refusal_line-line.result in
    let begins = c.refusal_line-line.ensures.words (code ++ (10 ∷ [])) own in
    let code_is = c.code_of.ensures (subst BeginsRefused (sym c.as_bytes.ensures.value) begins) ∙ ap (drop 8) c.as_bytes.ensures.value in
    let says = same_code line code after begins (c.refusal_line-line.ensures.text ∙ own) in
    let is : before ++ (c.code_of.result.now ++ rest_text line after) ≡ text = ap (λ t. before ++ (t ++ rest_text line after)) code_is ∙ ap (λ t. before ++ t) says ∙ sym same in
    failing c.from_residual-in_err-write_all-2.result (subst (WritesFront (state c.args.sink.now) (state c.write_all-2.new.sink)) is
    (front_next (state c.args.sink.now) (state c.write_all.new.sink) (state c.write_all-2.new.sink) before _ c.in_ok-write_all.ensures.ok
    (front_before (state c.write_all.new.sink) (state c.write_all-2.new.sink) c.code_of.result.now (rest_text line after) c.in_err-write_all-2.ensures.prefix)))

pub returns-clause-prefix : goal.returns-clause-prefix
returns-clause-prefix g c text (code, own, same) =
    let state = g.K.Sink.contents in
    let r = c.write_rest.result in
    let line = c.refusal_line-line.result in
    let begins = c.refusal_line-line.ensures.words (code ++ (10 ∷ [])) own in
    let code_is = c.code_of.ensures (subst BeginsRefused (sym c.as_bytes.ensures.value) begins) ∙ ap (drop 8) c.as_bytes.ensures.value in
    let says = same_code line code after begins (c.refusal_line-line.ensures.text ∙ own) in
    let is : before ++ (c.code_of.result.now ++ rest_text line after) ≡ text = ap (λ t. before ++ (t ++ rest_text line after)) code_is ∙ ap (λ t. before ++ t) says ∙ sym same in
    subst (λ t. OnErr r (WritesFront (state c.args.sink.now) (state c.write_rest.new.sink) t)) is
    (last_front r (state c.args.sink.now) (state c.write_all.new.sink) (state c.write_rest.new.sink) before _ c.in_ok-write_all.ensures.ok
    (last_front r (state c.write_all.new.sink) (state c.write_all-2.new.sink) (state c.write_rest.new.sink) c.code_of.result.now _ c.in_ok-write_all-2.ensures.ok c.write_rest.ensures.prefix))
