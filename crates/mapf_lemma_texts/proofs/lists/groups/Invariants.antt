use Rattle.std.proofs.Common.{◌≡◌, ◌≤◌, false, length}
use Rattle.mapf_certificate.specs.Buffered.{spare}
use Rattle.mapf_certificate.specs.Window.{Window}
use Rattle.mapf_certificate.proofs.Sequences.{Taken}
use Rattle.mapf_lemmas.specs.Groups.{Group}
use Rattle.mapf_lemma_texts.specs.Listing.{InAnyOrder}
use Rattle.mapf_lemma_texts.specs.Parts.{IsGroupInRange, groups_text}
use Rattle.mapf_lemma_texts.proofs.lists.groups.Given as goal

abbrev pub invariant-loop-taken : goal.invariant-loop-taken
invariant-loop-taken g l =
    let source = g.S.Source in
    record {
      works : source.has_failed l.source ≡ false;
      spare : spare l.lines.buffer ≤ spare l.fn.lines.buffer;
      many : length l.groups.items ≡ l._taken;
      taken : Taken Group (IsGroupInRange l.sizes) InAnyOrder l.groups.items;
      window : Window (source.remaining l.fn.source) (source.remaining l.source) l.fn.lines.buffer l.lines.buffer (groups_text l.sizes.width l.groups.items);
    }
