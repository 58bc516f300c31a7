use Rattle.std.proofs.Common.{◌≡◌, false, take}
use Rattle.mapf_fields.specs.Pages.{Passes}
use Rattle.mapf_lemma_texts.specs.Parts.{groups_text}
use Rattle.mapf_lemma_texts.proofs.text_writer.LemmaWriter.groups.Given as goal

abbrev pub invariant-loop-group : goal.invariant-loop-group
invariant-loop-group g l =
    let sink = g.K.Sink in
    record {
      works : sink.has_failed l.sink ≡ false;
      width : l.self.width ≡ l.fn.self.width;
      text : Passes (sink.contents l.fn.sink) (sink.contents l.sink) l.fn.self.page l.self.page (groups_text l.fn.self.width (take l.group-index l.groups));
    }
