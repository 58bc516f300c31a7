use Rattle.std.proofs.Common.{◌≡◌, false, take}
use Rattle.mapf_fields.specs.Pages.{Passes}
use Rattle.mapf_lemma_texts.specs.Listing.{values_text}
use Rattle.mapf_lemma_texts.proofs.text_writer.LemmaWriter.values.Given as goal

abbrev pub invariant-loop-value : goal.invariant-loop-value
invariant-loop-value g l =
    let sink = g.K.Sink in
    record {
      works : sink.has_failed l.sink ≡ false;
      width : l.self.width ≡ l.fn.self.width;
      text : Passes (sink.contents l.fn.sink) (sink.contents l.sink) l.fn.self.page l.self.page (values_text l.fn.self.width g.T.Listed.line_of (take l.value-index l.values));
    }
