use Rattle.std.proofs.Common.{◌≡◌, ◌-◌, ◌≤◌, false, vec_len}
use Rattle.std.specs.Io.KnownBytes.{Consumes}
use Rattle.mapf_model.proofs.source.read_all.Given as goal

abbrev pub invariant-loop-n : goal.invariant-loop-n
invariant-loop-n g l =
    let source = g.S.Source in
    record {
      works : source.has_failed l.source ≡ false;
      given : Consumes (source.remaining l.fn.source) (source.remaining l.source) l.bytes.items;
      within : vec_len l.bytes ≤ l.limit;
    }

abbrev pub decreases-loop-n : goal.decreases-loop-n
decreases-loop-n g l = l.limit - vec_len l.bytes
