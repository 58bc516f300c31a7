use Rattle.std.proofs.Common.{Some, refl, sym, ◌∙◌}
use Rattle.std.proofs.lemmas.Bool.{false≢true}
use Rattle.std.proofs.lemmas.Result.{err_from_is_err_and}
use Rattle.mapf_certificate.proofs.Windows.{err_passed}
use Rattle.mapf_lemma_texts.specs.PartReading.{PartReading, ReadsPart}
use Rattle.mapf_lemma_texts.proofs.PartReadings.{fails_at, fails_first, fails_in_end, fails_unadmitted, fails_in_part, reads_part, end_window, part_joins, part_same}
use Rattle.mapf_lemma_texts.proofs.part_reader.PartReader.read_part.Goals as goal

pub returns-in_err-line-clause-fails : goal.returns-in_err-line-clause-fails
returns-in_err-line-clause-fails g c =
    let i = c.self.inside in
    let u = c.unwrap-claim.result in
    let old : PartReading = record { width = i.width; height = i.height; buffer = i.lines.buffer; header = i.header; due = i.due; fault = i.fault; is_whole = i.is_whole } in
    fails_at _ _ _ _ _ _ c.self.view_is (err_passed _ _ _ (err_from_is_err_and _ c.from_residual.ensures.1)
    (fails_first old u.0 u.1 _ _ _ _ c.unwrap-claim.ensures c.in_err-line.ensures.fails))

pub returns-in_err-take_end-clause-fails : goal.returns-in_err-take_end-clause-fails
returns-in_err-take_end-clause-fails g c =
    let i = c.self.inside in
    let u = c.unwrap-claim.result in
    let old : PartReading = record { width = i.width; height = i.height; buffer = i.lines.buffer; header = i.header; due = i.due; fault = i.fault; is_whole = i.is_whole } in
    fails_at _ _ _ _ _ _ c.self.view_is (err_passed _ _ _ (err_from_is_err_and _ c.from_residual-in_err-take_end.ensures.1)
    (fails_in_end old u.0 u.1 _ _ _ _ _ _ _ c.unwrap-claim.ensures (c.is_end.ensures.0 c.if-is_end.true) c.in_ok-line.ensures.line c.in_ok-line.ensures.taken c.in_err-take_end.ensures.fails))

pub returns-then-is_end-clause-end : goal.returns-then-is_end-clause-end
returns-then-is_end-clause-end g c =
    let u = c.unwrap-claim.result in
    let ends = c.in_ok-take_end.ensures in
    rw (← c.self.view_is) (λ none. record {
      sizes = u.0;
      claim = u.1;
      header = c.unwrap-claim.ensures;
      nothing_due = c.is_end.ensures.0 c.if-is_end.true;
      window = end_window u.0.width _ _ _ _ _ _ _ c.in_ok-line.ensures.taken ends.taken ends.end;
      ended = ends.ended;
      empty = ends.empty;
    })

pub returns-then-not-admits-clause-fails : goal.returns-then-not-admits-clause-fails
returns-then-not-admits-clause-fails g c =
    let i = c.self.inside in
    let u = c.unwrap-claim.result in
    let old : PartReading = record { width = i.width; height = i.height; buffer = i.lines.buffer; header = i.header; due = i.due; fault = i.fault; is_whole = i.is_whole } in
    rw (← c.self.view_is) (fails_unadmitted old u.0 u.1 _ _ _ _ _ _ c.misfit.ensures c.in_ok-line.ensures.works c.unwrap-claim.ensures
    (λ ends. false≢true (sym c.if-is_end.false ∙ c.is_end.ensures.1 ends)) c.in_ok-line.ensures.line c.in_ok-line.ensures.taken (λ admitted. false≢true (sym c.if-not-admits.true ∙ c.admits.ensures.1 admitted)))

pub returns-in_err-part-clause-fails : goal.returns-in_err-part-clause-fails
returns-in_err-part-clause-fails g c =
    let i = c.self.inside in
    let u = c.unwrap-claim.result in
    let old : PartReading = record { width = i.width; height = i.height; buffer = i.lines.buffer; header = i.header; due = i.due; fault = i.fault; is_whole = i.is_whole } in
    fails_at _ _ _ _ _ _ c.self.view_is (err_passed _ _ _ (err_from_is_err_and _ c.from_residual-in_err-part.ensures.1)
    (fails_in_part old u.0 u.1 _ _ _ _ _ _ _ c.unwrap-claim.ensures (λ ends. false≢true (sym c.if-is_end.false ∙ c.is_end.ensures.1 ends)) c.in_ok-line.ensures.line c.in_ok-line.ensures.taken c.in_err-part.ensures.fails))

pub returns-clause-part : goal.returns-clause-part
returns-clause-part g c =
    let s = g.S.Source in
    let i = c.self.inside in
    let u = c.unwrap-claim.result in
    let old : PartReading = record { width = i.width; height = i.height; buffer = i.lines.buffer; header = i.header; due = i.due; fault = i.fault; is_whole = i.is_whole } in
    let new : PartReading = record { width = i.width; height = i.height; buffer = c.part_of.new.lines.buffer; header = Some (c.sizes_after.result, u.1); due = c.after-self-inside.result; fault = i.fault; is_whole = i.is_whole } in
    let part = c.in_ok-part.part in
    let read : ReadsPart (s.remaining c.args.source.now) (s.remaining c.part_of.new.source) old new part =
    reads_part _ _ _ old new _ u.0 c.sizes_after.result u.1 _ part c.unwrap-claim.ensures (c.admits.ensures.0 c.if-not-admits.false) c.in_ok-line.ensures.taken c.in_ok-part.ensures.completes c.sizes_after.ensures refl c.after-self-inside.ensures in
    rw (← c.self.view_is) (record { read = read; joins = part_joins _ _ old new part read })

pub returns-clause-same : goal.returns-clause-same
returns-clause-same g c =
    let s = g.S.Source in
    let i = c.self.inside in
    let u = c.unwrap-claim.result in
    let old : PartReading = record { width = i.width; height = i.height; buffer = i.lines.buffer; header = i.header; due = i.due; fault = i.fault; is_whole = i.is_whole } in
    let new : PartReading = record { width = i.width; height = i.height; buffer = c.part_of.new.lines.buffer; header = Some (c.sizes_after.result, u.1); due = c.after-self-inside.result; fault = i.fault; is_whole = i.is_whole } in
    let part = c.in_ok-part.part in
    let read : ReadsPart (s.remaining c.args.source.now) (s.remaining c.part_of.new.source) old new part =
    reads_part _ _ _ old new _ u.0 c.sizes_after.result u.1 _ part c.unwrap-claim.ensures (c.admits.ensures.0 c.if-not-admits.false) c.in_ok-line.ensures.taken c.in_ok-part.ensures.completes c.sizes_after.ensures refl c.after-self-inside.ensures in
    rw (← c.self.view_is) (λ due ps awaits. part_same _ _ old new part due ps read awaits)
