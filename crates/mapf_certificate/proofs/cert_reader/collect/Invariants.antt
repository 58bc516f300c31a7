use Rattle.std.proofs.Common.{◌≡◌, None, IsSome, false, map}
use Rattle.mapf_model.specs.Tree.{node_of}
use Rattle.mapf_certificate.specs.Buffered.{spare}
use Rattle.mapf_certificate.proofs.Collecting.{Collected}
use Rattle.mapf_certificate.proofs.cert_reader.collect.Given as goal

abbrev pub invariant-loop-tree : goal.invariant-loop-tree
invariant-loop-tree g l =
    let source = g.S.Source in
    record {
      works : source.has_failed l.source ≡ false;
      unfaulted : l.lines.fault ≡ None;
      read : IsSome l.lines.header;
      part : l.lines.is_whole ≡ false;
      collected : Collected (source.remaining l.fn.source) (source.remaining l.source) l.fn.lines l.lines l.version l.agents l.claim (map node_of l.tree.items);
    }

abbrev pub decreases-loop-tree : goal.decreases-loop-tree
decreases-loop-tree g l = spare l.lines.buffer
