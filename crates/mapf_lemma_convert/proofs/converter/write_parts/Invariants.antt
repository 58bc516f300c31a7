use Rattle.std.proofs.Common.{◌≡◌, false, Some, take}
use Rattle.std.specs.List.{flat_map}
use Rattle.mapf_fields.specs.Pages.{Passes}
use Rattle.mapf_lemma_texts.specs.Parts.{part_text}
use Rattle.mapf_lemma_convert.proofs.converter.write_parts.Given as goal

abbrev pub invariant-loop-part : goal.invariant-loop-part
invariant-loop-part l = record {
  works : l.sink.1 ≡ false;
  width : l.writer.width ≡ l.fn.writer.width;
  text : Passes (Some l.fn.sink.0) (Some l.sink.0) l.fn.writer.page l.writer.page (flat_map (part_text l.fn.writer.width) (take l.part-index l.parts));
}
