use Rattle.std.proofs.Common.{length, [], ◌∷◌, ap, ◌∙◌}
use Rattle.std.specs.List.{flat_map}
use Rattle.mapf_fields.proofs.Prefixes.{passes_trans, same_passes}
use Rattle.mapf_lemma_texts.specs.declared.line.LemmaLine.TheVariants as lines
use Rattle.mapf_lemma_texts.specs.declared.part.Part.TheVariants as parts
use Rattle.mapf_lemma_texts.specs.Lines.{line_text}
use Rattle.mapf_lemma_texts.specs.PartReading.{header_text}
use Rattle.mapf_lemma_texts.specs.Parts.{part_text}
use Rattle.mapf_lemma_convert.proofs.WrittenLemmas.{written_after}
use Rattle.mapf_lemma_convert.proofs.converter.write_walked.Goals as goal

pub returns : goal.returns
returns c =
    let width = c.args.grid.now.width in
    let walk = c.args.walk.now in
    let front = parts.Prices 0 ∷ (parts.Lemmas (length walk.lemmas) ∷ []) in
    let as_of = c.of-writer.ensures.width in
    let after_header = c.in_ok-write_header.ensures.width ∙ as_of in
    let after_front = c.in_ok-write_parts.ensures.width ∙ after_header in
    let after_lemmas = c.in_ok-write_parts-2.ensures.width ∙ after_front in
    let header = same_passes _ _ _ _ _ (header_text width c.args.agents c.args.claim) (ap (λ w. header_text w c.args.agents c.args.claim) as_of) c.in_ok-write_header.ensures.text in
    let counts = same_passes _ _ _ _ _ (flat_map (part_text width) front)
    (ap (λ l. flat_map (part_text c.write_header.new.writer.width) (parts.Prices 0 ∷ (parts.Lemmas (length l) ∷ []))) c.lemmas.ensures ∙ ap (λ w. flat_map (part_text w) front) after_header) c.in_ok-write_parts.ensures.text in
    let lemmas = same_passes _ _ _ _ _ (flat_map (part_text width) walk.lemmas)
    (ap (flat_map (part_text c.write_parts.new.writer.width)) c.lemmas-2.ensures ∙ ap (λ w. flat_map (part_text w) walk.lemmas) after_front) c.in_ok-write_parts-2.ensures.text in
    let nodes = same_passes _ _ _ _ _ (flat_map (part_text width) walk.cases)
    (ap (flat_map (part_text c.write_parts-2.new.writer.width)) c.cases.ensures ∙ ap (λ w. flat_map (part_text w) walk.cases) after_lemmas) c.in_ok-write_parts-3.ensures.text in
    let all = passes_trans _ _ _ _ _ _ _ _ header (passes_trans _ _ _ _ _ _ _ _ counts (passes_trans _ _ _ _ _ _ _ _ lemmas nodes)) in
    written_after c.write_end.result _ _ _ _ _ (header_text width c.args.agents c.args.claim) (flat_map (part_text width) front) (flat_map (part_text width) walk.lemmas) (flat_map (part_text width) walk.cases) (line_text width lines.End)
    (ap (λ s. s.0) c.requires.empty) c.of-writer.ensures.page all c.write_end.ensures
