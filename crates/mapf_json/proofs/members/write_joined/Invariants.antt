use Rattle.std.proofs.Common.{◌≡◌, false, take}
use Rattle.std.specs.Io.KnownBytes.{Appends}
use Rattle.mapf_json.specs.Written.{joined}
use Rattle.mapf_json.proofs.members.write_joined.Given as goal

abbrev pub invariant-loop-text : goal.invariant-loop-text
invariant-loop-text g l =
    let sink = g.K.Sink in
    record {
      works : sink.has_failed l.sink ≡ false;
      written : Appends (sink.contents l.fn.sink) (sink.contents l.sink) (joined (take l.text-index l.texts));
    }
