use Rattle.std.proofs.Common.{◌≡◌, ◌-◌, false, [], length}
use Rattle.mapf_certificate.specs.Buffered.{spare}
use Rattle.mapf_certificate.specs.Untouched.{HasLine, IsUntouched}
use Rattle.mapf_certificate.specs.Window.{Window}
use Rattle.mapf_certificate.proofs.buffer.LineBuffer.ready.Given as goal

abbrev pub invariant-loop-n : goal.invariant-loop-n
invariant-loop-n g l =
    let source = g.S.Source in
    record {
      works : source.has_failed l.source ≡ false;
      window : Window (source.remaining l.fn.source) (source.remaining l.source) l.fn.self l.self [];
      spare : spare l.self ≡ spare l.fn.self;
      there : HasLine l.fn.self → IsUntouched l.fn.self l.self l.fn.source l.source;
    }

abbrev pub decreases-loop-n : goal.decreases-loop-n
decreases-loop-n g l = 65 - length l.self.bytes
