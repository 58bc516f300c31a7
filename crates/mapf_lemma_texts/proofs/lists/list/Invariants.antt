use Rattle.std.proofs.Common.{◌≡◌, ◌≤◌, false, length}
use Rattle.mapf_certificate.specs.Buffered.{spare}
use Rattle.mapf_certificate.specs.Window.{Window}
use Rattle.mapf_certificate.proofs.Sequences.{Taken}
use Rattle.mapf_lemma_texts.specs.Listing.{IsListed, values_text}
use Rattle.mapf_lemma_texts.proofs.lists.list.Given as goal

abbrev pub invariant-loop-taken : goal.invariant-loop-taken
invariant-loop-taken g l =
    let source = g.S.Source in
    let listed = g.T.Listed in
    let bounds = l.bounds in
    record {
      works : source.has_failed l.source ≡ false;
      spare : spare l.lines.buffer ≤ spare l.fn.lines.buffer;
      many : length l.values.items ≡ l._taken;
      taken : Taken _ (IsListed bounds.sizes listed.line_of (listed.fits bounds.agents.now)) listed.precedes l.values.items;
      window : Window (source.remaining l.fn.source) (source.remaining l.source) l.fn.lines.buffer l.lines.buffer (values_text bounds.sizes.width listed.line_of l.values.items);
    }
