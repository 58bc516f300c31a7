use Rattle.std.proofs.Common.{rules, length, ap, sym, ◌∙◌, subst, arith}
use Rattle.std.proofs.lemmas.List.{take_all}
use Rattle.std.proofs.lemmas.Option.{get_or_from_slice_get, slice_get_within, same_Some}
use Rattle.mapf_fields.specs.Pages.{Passes}
use Rattle.mapf_fields.proofs.Prefixes.{fails}
use Rattle.mapf_fields.proofs.ListPieces.{list_more, list_prefix}
use Rattle.mapf_model.specs.Blocks.{LabelBlock}
use Rattle.mapf_certificate.specs.Certificates.{entry_text, entries_text}
use Rattle.mapf_certificate.proofs.text_writer.TextWriter.entries.Goals as goal

pub entry-requires : goal.entry-requires
entry-requires g c = let (block, is, count) = c.requires.all in (block, is, omega (arith, count, c.loop-index-test.true))

pub returns-in_err-entry-clause-text : goal.returns-in_err-entry-clause-text
returns-in_err-entry-clause-text g c = λ block is.
    let index = c.loop-index.index in let entry = c.entry.result in
    let got = c.entry.ensures block is in
    fails _ _ _ _ _ _ _ c.from_residual.ensures.1 (list_prefix (entry_text c.args.self.now.width) block.entries index entry (slice_get_within block.entries index entry got) (sym (get_or_from_slice_get block.entries index entry entry got))
    _ _ _ _ _ _ (ap (λ w. entry_text w entry) c.loop-index.invariant.width) (c.loop-index.invariant.text block is) c.in_err-entry.ensures.text)

pub loop-index-preserved : goal.loop-index-preserved
loop-index-preserved g c =
    let index = c.loop-index.index in let entry = c.entry.result in
    record {
      works = search rules;
      width = search rules;
      text = λ block is. let got = c.entry.ensures block is in
          list_more (entry_text c.args.self.now.width) block.entries index entry (slice_get_within block.entries index entry got) (sym (get_or_from_slice_get block.entries index entry entry got))
          _ _ _ _ _ _ _ (ap (λ w. entry_text w entry) c.loop-index.invariant.width) (c.loop-index.invariant.text block is) c.in_ok-entry.ensures.text;
    }

pub returns-clause-text : goal.returns-clause-text
returns-clause-text g c = λ block is.
    let (own, own_is, count) = c.requires.all in
    let same = same_Some own block (sym own_is ∙ is) in
    let sink = g.K.Sink in
    subst (λ es. Passes (sink.contents c.args.sink.now) (sink.contents c.loop-index.sink) c.args.self.now.page c.loop-index.self.page (entries_text c.args.self.now.width es))
    (take_all c.loop-index.index block.entries (omega (arith, count, ap (λ (b : LabelBlock). length b.entries) same, c.loop-index-test.false)))
    (c.loop-index.invariant.text block is)
