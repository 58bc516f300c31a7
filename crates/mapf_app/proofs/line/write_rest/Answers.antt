use Rattle.mapf_app.specs.Told.{bound_text, defect_text, number_text}
use Rattle.mapf_app.proofs.SolveLemmas.{failing, front_before, front_next, last_front, then_written}
use Rattle.mapf_app.proofs.line.write_rest.Goals as goal

pub returns-clause-text : goal.returns-clause-text
returns-clause-text g c =
    let state = g.K.Sink.contents in
    let line = c.args.line.now in
    let r = c.write_all.result in
    let last = state c.write_all.new.sink in
    let bound = then_written r (state c.write_number-3.new.sink) (state c.write_bound.new.sink) last (bound_text line.bound) _ c.in_ok-write_bound.ensures.text c.write_all.ensures.ok in
    let third = then_written r (state c.write_number-2.new.sink) (state c.write_number-3.new.sink) last (number_text line.numbers.2) _ c.in_ok-write_number-3.ensures.text bound in
    let second = then_written r (state c.write_number.new.sink) (state c.write_number-2.new.sink) last (number_text line.numbers.1) _ c.in_ok-write_number-2.ensures.text third in
    let first = then_written r (state c.write_defect.new.sink) (state c.write_number.new.sink) last (number_text line.numbers.0) _ c.in_ok-write_number.ensures.text second in
    then_written r (state c.args.sink.now) (state c.write_defect.new.sink) last (defect_text line.defect) _ c.in_ok-write_defect.ensures.text first

pub returns-in_err-write_defect-clause-prefix : goal.returns-in_err-write_defect-clause-prefix
returns-in_err-write_defect-clause-prefix g c =
    let state = g.K.Sink.contents in
    let line = c.args.line.now in
    failing c.from_residual.result (front_before (state c.args.sink.now) (state c.write_defect.new.sink) (defect_text line.defect) _ c.in_err-write_defect.ensures.prefix)

pub returns-in_err-write_number-clause-prefix : goal.returns-in_err-write_number-clause-prefix
returns-in_err-write_number-clause-prefix g c =
    let state = g.K.Sink.contents in
    let line = c.args.line.now in
    failing c.from_residual-in_err-write_number.result (front_next (state c.args.sink.now) (state c.write_defect.new.sink) (state c.write_number.new.sink) (defect_text line.defect) _ c.in_ok-write_defect.ensures.text (front_before (state c.write_defect.new.sink) (state c.write_number.new.sink) (number_text line.numbers.0) _ c.in_err-write_number.ensures.prefix))

pub returns-in_err-write_number-2-clause-prefix : goal.returns-in_err-write_number-2-clause-prefix
returns-in_err-write_number-2-clause-prefix g c =
    let state = g.K.Sink.contents in
    let line = c.args.line.now in
    failing c.from_residual-in_err-write_number-2.result (front_next (state c.args.sink.now) (state c.write_defect.new.sink) (state c.write_number-2.new.sink) (defect_text line.defect) _ c.in_ok-write_defect.ensures.text (front_next (state c.write_defect.new.sink) (state c.write_number.new.sink) (state c.write_number-2.new.sink) (number_text line.numbers.0) _ c.in_ok-write_number.ensures.text (front_before (state c.write_number.new.sink) (state c.write_number-2.new.sink) (number_text line.numbers.1) _ c.in_err-write_number-2.ensures.prefix)))

pub returns-in_err-write_number-3-clause-prefix : goal.returns-in_err-write_number-3-clause-prefix
returns-in_err-write_number-3-clause-prefix g c =
    let state = g.K.Sink.contents in
    let line = c.args.line.now in
    failing c.from_residual-in_err-write_number-3.result (front_next (state c.args.sink.now) (state c.write_defect.new.sink) (state c.write_number-3.new.sink) (defect_text line.defect) _ c.in_ok-write_defect.ensures.text (front_next (state c.write_defect.new.sink) (state c.write_number.new.sink) (state c.write_number-3.new.sink) (number_text line.numbers.0) _ c.in_ok-write_number.ensures.text (front_next (state c.write_number.new.sink) (state c.write_number-2.new.sink) (state c.write_number-3.new.sink) (number_text line.numbers.1) _ c.in_ok-write_number-2.ensures.text (front_before (state c.write_number-2.new.sink) (state c.write_number-3.new.sink) (number_text line.numbers.2) _ c.in_err-write_number-3.ensures.prefix))))

pub returns-in_err-write_bound-clause-prefix : goal.returns-in_err-write_bound-clause-prefix
returns-in_err-write_bound-clause-prefix g c =
    let state = g.K.Sink.contents in
    let line = c.args.line.now in
    failing c.from_residual-in_err-write_bound.result (front_next (state c.args.sink.now) (state c.write_defect.new.sink) (state c.write_bound.new.sink) (defect_text line.defect) _ c.in_ok-write_defect.ensures.text (front_next (state c.write_defect.new.sink) (state c.write_number.new.sink) (state c.write_bound.new.sink) (number_text line.numbers.0) _ c.in_ok-write_number.ensures.text (front_next (state c.write_number.new.sink) (state c.write_number-2.new.sink) (state c.write_bound.new.sink) (number_text line.numbers.1) _ c.in_ok-write_number-2.ensures.text (front_next (state c.write_number-2.new.sink) (state c.write_number-3.new.sink) (state c.write_bound.new.sink) (number_text line.numbers.2) _ c.in_ok-write_number-3.ensures.text (front_before (state c.write_number-3.new.sink) (state c.write_bound.new.sink) (bound_text line.bound) _ c.in_err-write_bound.ensures.prefix)))))

pub returns-clause-prefix : goal.returns-clause-prefix
returns-clause-prefix g c =
    let state = g.K.Sink.contents in
    let line = c.args.line.now in
    let r = c.write_all.result in
    let last = state c.write_all.new.sink in
    last_front r (state c.args.sink.now) (state c.write_defect.new.sink) last (defect_text line.defect) _ c.in_ok-write_defect.ensures.text (last_front r (state c.write_defect.new.sink) (state c.write_number.new.sink) last (number_text line.numbers.0) _ c.in_ok-write_number.ensures.text (last_front r (state c.write_number.new.sink) (state c.write_number-2.new.sink) last (number_text line.numbers.1) _ c.in_ok-write_number-2.ensures.text (last_front r (state c.write_number-2.new.sink) (state c.write_number-3.new.sink) last (number_text line.numbers.2) _ c.in_ok-write_number-3.ensures.text (last_front r (state c.write_number-3.new.sink) (state c.write_bound.new.sink) last (bound_text line.bound) _ c.in_ok-write_bound.ensures.text c.write_all.ensures.prefix))))
