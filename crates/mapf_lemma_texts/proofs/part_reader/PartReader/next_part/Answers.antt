use Rattle.std.proofs.Common.{◌≡◌, Option, IfSome, true, subst, sym, refl}
use Rattle.mapf_lemma_texts.specs.declared.part.Part.{Part}
use Rattle.mapf_lemma_texts.specs.PartReading.{PartReading, AwaitsParts, ReadsEnd}
use Rattle.mapf_lemma_texts.proofs.PartReadings.{end_joins, awaited}
use Rattle.mapf_lemma_texts.proofs.part_reader.PartReader.next_part.Goals as goal

pub returns-in-Ok-Some-clause-only_part : goal.returns-in-Ok-Some-clause-only_part
returns-in-Ok-Some-clause-only_part g c = λ part ps p q awaits.
    let s = g.S.Source in
    let P : Option Part → Type 0 = λ o. IfSome o (λ read. (read ≡ part) × AwaitsParts (s.remaining c.read_part.new.source) c.read_part.new.self ps) in
    subst P c.in-Ok-Some.field-0-is (c.in-Ok-Some.ensures.same part ps awaits)

pub returns-in-Ok-None-clause-end : goal.returns-in-Ok-None-clause-end
returns-in-Ok-None-clause-end g c = λ p q none.
    let s = g.S.Source in
    let had = s.remaining c.args.source.now in
    let left = s.remaining c.read_part.new.source in
    let old = c.args.self.now in
    let i = c.self-2.inside in
    let mid : PartReading = record { width = i.width; height = i.height; buffer = i.lines.buffer; header = i.header; due = i.due; fault = i.fault; is_whole = i.is_whole } in
    let new : PartReading = record mid { is_whole = true } in
    let reads : ReadsEnd had left old mid = subst (ReadsEnd had left old) (sym c.self-2.view_is) (c.in-Ok-None.ensures.end c.in-Ok-None.field-0-is) in
    let read : ReadsEnd had left old new = record { sizes = reads.sizes; claim = reads.claim; header = reads.header; nothing_due = reads.nothing_due; window = reads.window; ended = reads.ended; empty = reads.empty } in
    record { read = read; whole = refl; joins = end_joins _ _ old new read }

pub returns-in-Err-clause-only_part : goal.returns-in-Err-clause-only_part
returns-in-Err-clause-only_part g c = λ part ps p q awaits.
    awaited _ _ _ _ _ _ awaits c.in-Err.ensures.fails

pub returns-in-Err-clause-only_end : goal.returns-in-Err-clause-only_end
returns-in-Err-clause-only_end g c = λ p q awaits.
    awaited _ _ _ _ _ _ awaits c.in-Err.ensures.fails
