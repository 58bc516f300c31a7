use Rattle.std.proofs.Common.{codes}
use Rattle.mapf_app.proofs.SolveLemmas.{failing, front_before, front_next, last_front, then_written}
use Rattle.mapf_json.specs.Written.{number_text, text_text, word_text}
use Rattle.mapf_json.proofs.members.write_rest.Goals as goal

pub returns-clause-text : goal.returns-clause-text
returns-clause-text g c =
    let state = g.K.Sink.contents in
    let object = c.args.object.now in
    let r = c.write_all.result in
    let last = state c.write_all.new.sink in
    let sixth = then_written r (state c.write_number-2.new.sink) (state c.write_number-3.new.sink) last (number_text object.numbers.2) _ c.in_ok-write_number-3.ensures.text c.write_all.ensures.ok in
    let fifth = then_written r (state c.write_number.new.sink) (state c.write_number-2.new.sink) last (number_text object.numbers.1) _ c.in_ok-write_number-2.ensures.text sixth in
    let fourth = then_written r (state c.write_word-2.new.sink) (state c.write_number.new.sink) last (number_text object.numbers.0) _ c.in_ok-write_number.ensures.text fifth in
    let third = then_written r (state c.write_word.new.sink) (state c.write_word-2.new.sink) last (text_text (codes "file") object.file) _ c.in_ok-write_word-2.ensures.text fourth in
    let second = then_written r (state c.write_code.new.sink) (state c.write_word.new.sink) last (text_text (codes "error") object.error) _ c.in_ok-write_word.ensures.text third in
    then_written r (state c.args.sink.now) (state c.write_code.new.sink) last (word_text object.code) _ c.in_ok-write_code.ensures.text second

pub returns-in_err-write_code-clause-prefix : goal.returns-in_err-write_code-clause-prefix
returns-in_err-write_code-clause-prefix g c =
    let state = g.K.Sink.contents in
    let object = c.args.object.now in
    failing c.from_residual.result (front_before (state c.args.sink.now) (state c.write_code.new.sink) (word_text object.code) _ c.in_err-write_code.ensures.prefix)

pub returns-in_err-write_word-clause-prefix : goal.returns-in_err-write_word-clause-prefix
returns-in_err-write_word-clause-prefix g c =
    let state = g.K.Sink.contents in
    let object = c.args.object.now in
    failing c.from_residual-in_err-write_word.result (front_next (state c.args.sink.now) (state c.write_code.new.sink) (state c.write_word.new.sink) (word_text object.code) _ c.in_ok-write_code.ensures.text
    (front_before (state c.write_code.new.sink) (state c.write_word.new.sink) (text_text (codes "error") object.error) _ c.in_err-write_word.ensures.prefix))

pub returns-in_err-write_word-2-clause-prefix : goal.returns-in_err-write_word-2-clause-prefix
returns-in_err-write_word-2-clause-prefix g c =
    let state = g.K.Sink.contents in
    let object = c.args.object.now in
    failing c.from_residual-in_err-write_word-2.result (front_next (state c.args.sink.now) (state c.write_code.new.sink) (state c.write_word-2.new.sink) (word_text object.code) _ c.in_ok-write_code.ensures.text
    (front_next (state c.write_code.new.sink) (state c.write_word.new.sink) (state c.write_word-2.new.sink) (text_text (codes "error") object.error) _ c.in_ok-write_word.ensures.text
    (front_before (state c.write_word.new.sink) (state c.write_word-2.new.sink) (text_text (codes "file") object.file) _ c.in_err-write_word-2.ensures.prefix)))

pub returns-in_err-write_number-clause-prefix : goal.returns-in_err-write_number-clause-prefix
returns-in_err-write_number-clause-prefix g c =
    let state = g.K.Sink.contents in
    let object = c.args.object.now in
    failing c.from_residual-in_err-write_number.result (front_next (state c.args.sink.now) (state c.write_code.new.sink) (state c.write_number.new.sink) (word_text object.code) _ c.in_ok-write_code.ensures.text
    (front_next (state c.write_code.new.sink) (state c.write_word.new.sink) (state c.write_number.new.sink) (text_text (codes "error") object.error) _ c.in_ok-write_word.ensures.text
    (front_next (state c.write_word.new.sink) (state c.write_word-2.new.sink) (state c.write_number.new.sink) (text_text (codes "file") object.file) _ c.in_ok-write_word-2.ensures.text
    (front_before (state c.write_word-2.new.sink) (state c.write_number.new.sink) (number_text object.numbers.0) _ c.in_err-write_number.ensures.prefix))))

pub returns-in_err-write_number-2-clause-prefix : goal.returns-in_err-write_number-2-clause-prefix
returns-in_err-write_number-2-clause-prefix g c =
    let state = g.K.Sink.contents in
    let object = c.args.object.now in
    failing c.from_residual-in_err-write_number-2.result (front_next (state c.args.sink.now) (state c.write_code.new.sink) (state c.write_number-2.new.sink) (word_text object.code) _ c.in_ok-write_code.ensures.text
    (front_next (state c.write_code.new.sink) (state c.write_word.new.sink) (state c.write_number-2.new.sink) (text_text (codes "error") object.error) _ c.in_ok-write_word.ensures.text
    (front_next (state c.write_word.new.sink) (state c.write_word-2.new.sink) (state c.write_number-2.new.sink) (text_text (codes "file") object.file) _ c.in_ok-write_word-2.ensures.text
    (front_next (state c.write_word-2.new.sink) (state c.write_number.new.sink) (state c.write_number-2.new.sink) (number_text object.numbers.0) _ c.in_ok-write_number.ensures.text
    (front_before (state c.write_number.new.sink) (state c.write_number-2.new.sink) (number_text object.numbers.1) _ c.in_err-write_number-2.ensures.prefix)))))

pub returns-in_err-write_number-3-clause-prefix : goal.returns-in_err-write_number-3-clause-prefix
returns-in_err-write_number-3-clause-prefix g c =
    let state = g.K.Sink.contents in
    let object = c.args.object.now in
    failing c.from_residual-in_err-write_number-3.result (front_next (state c.args.sink.now) (state c.write_code.new.sink) (state c.write_number-3.new.sink) (word_text object.code) _ c.in_ok-write_code.ensures.text
    (front_next (state c.write_code.new.sink) (state c.write_word.new.sink) (state c.write_number-3.new.sink) (text_text (codes "error") object.error) _ c.in_ok-write_word.ensures.text
    (front_next (state c.write_word.new.sink) (state c.write_word-2.new.sink) (state c.write_number-3.new.sink) (text_text (codes "file") object.file) _ c.in_ok-write_word-2.ensures.text
    (front_next (state c.write_word-2.new.sink) (state c.write_number.new.sink) (state c.write_number-3.new.sink) (number_text object.numbers.0) _ c.in_ok-write_number.ensures.text
    (front_next (state c.write_number.new.sink) (state c.write_number-2.new.sink) (state c.write_number-3.new.sink) (number_text object.numbers.1) _ c.in_ok-write_number-2.ensures.text
    (front_before (state c.write_number-2.new.sink) (state c.write_number-3.new.sink) (number_text object.numbers.2) _ c.in_err-write_number-3.ensures.prefix))))))

pub returns-clause-prefix : goal.returns-clause-prefix
returns-clause-prefix g c =
    let state = g.K.Sink.contents in
    let object = c.args.object.now in
    let r = c.write_all.result in
    let last = state c.write_all.new.sink in
    last_front r (state c.args.sink.now) (state c.write_code.new.sink) last (word_text object.code) _ c.in_ok-write_code.ensures.text
    (last_front r (state c.write_code.new.sink) (state c.write_word.new.sink) last (text_text (codes "error") object.error) _ c.in_ok-write_word.ensures.text
    (last_front r (state c.write_word.new.sink) (state c.write_word-2.new.sink) last (text_text (codes "file") object.file) _ c.in_ok-write_word-2.ensures.text
    (last_front r (state c.write_word-2.new.sink) (state c.write_number.new.sink) last (number_text object.numbers.0) _ c.in_ok-write_number.ensures.text
    (last_front r (state c.write_number.new.sink) (state c.write_number-2.new.sink) last (number_text object.numbers.1) _ c.in_ok-write_number-2.ensures.text
    (last_front r (state c.write_number-2.new.sink) (state c.write_number-3.new.sink) last (number_text object.numbers.2) _ c.in_ok-write_number-3.ensures.text c.write_all.ensures.prefix)))))
