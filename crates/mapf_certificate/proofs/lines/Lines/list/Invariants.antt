use Rattle.std.proofs.Common.{◌≡◌, ◌≤◌, false, length}
use Rattle.std.specs.List.{flat_map}
use Rattle.mapf_certificate.specs.Buffered.{spare}
use Rattle.mapf_certificate.specs.Untouched.{TakesThere}
use Rattle.mapf_certificate.specs.Window.{Window}
use Rattle.mapf_certificate.proofs.Sequences.{Taken}
use Rattle.mapf_certificate.proofs.lines.Lines.list.Given as goal

abbrev pub invariant-loop-taken : goal.invariant-loop-taken
invariant-loop-taken g l =
    let source = g.S.Source in
    let listed = g.T.Listed in
    record {
      works : source.has_failed l.source ≡ false;
      spare : spare l.self.buffer ≤ spare l.fn.self.buffer;
      many : length l.values.items ≡ l._taken;
      taken : Taken _ (listed.is_for l.sizes) listed.precedes l.values.items;
      window : Window (source.remaining l.fn.source) (source.remaining l.source) l.fn.self.buffer l.self.buffer (flat_map (listed.text l.sizes.width) l.values.items);
      there : TakesThere l.fn.source l.source l.fn.self.buffer l.self.buffer (flat_map (listed.text l.sizes.width) l.values.items);
    }
