use Rattle.std.proofs.Common.{◌≡◌, false, take}
use Rattle.std.specs.List.{flat_map}
use Rattle.mapf_fields.specs.Pages.{Passes}
use Rattle.mapf_lemma_texts.specs.Parts.{part_text}
use Rattle.mapf_lemma_texts.proofs.text_writer.LemmaWriter.parts.Given as goal

abbrev pub invariant-loop-part : goal.invariant-loop-part
invariant-loop-part g l =
    let sink = g.K.Sink in
    record {
      works : sink.has_failed l.sink ≡ false;
      width : l.self.width ≡ l.fn.self.width;
      text : Passes (sink.contents l.fn.sink) (sink.contents l.sink) l.fn.self.page l.self.page (flat_map (part_text l.fn.self.width) (take l.part-index l.parts));
    }
