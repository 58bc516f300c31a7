use Rattle.std.proofs.Common.{◌≡◌, ◌++◌, List, ℕ, false, drop}
use Rattle.mapf_fields.specs.Pages.{Passes}
use Rattle.mapf_certificate.specs.Plans.{paths_text}
use Rattle.mapf_certificate.proofs.text_writer.TextWriter.paths.Given as goal

abbrev pub invariant-loop-agent : goal.invariant-loop-agent
invariant-loop-agent g l =
    let sink = g.K.Sink in
    record {
      works : sink.has_failed l.sink ≡ false;
      width : l.self.width ≡ l.fn.self.width;
      so_far : List ℕ;
      text : Passes (sink.contents l.fn.sink) (sink.contents l.sink) l.fn.self.page l.self.page so_far;
      rest : so_far ++ paths_text l.fn.self.width l.agent (drop l.agent l.paths) ≡ paths_text l.fn.self.width 0 l.paths;
    }
