use Rattle.std.proofs.Common.{◌+◌, ◌-◌, ◌≡◌, ◌≤◌, [], ℕ, List, false, length}
use Rattle.std.specs.Io.KnownBytes.{Appends, Consumes}
use Rattle.mapf_player.specs.Following.{IsHearing, most_request_bytes}
use Rattle.mapf_player.proofs.live.follow.Given as goal

abbrev pub invariant-loop-count : goal.invariant-loop-count
invariant-loop-count g l =
    let source = g.R.Source in
    let sink = g.K.Sink in
    record {
      readable : source.has_failed l.requests ≡ false;
      writable : sink.has_failed l.sink ≡ false;
      empty : l.page ≡ [];
      came : List ℕ;
      written : List ℕ;
      consumed : Consumes (source.remaining l.fn.requests) (source.remaining l.requests) came;
      wrote : Appends (sink.contents l.fn.sink) (sink.contents l.sink) written;
      hearing : IsHearing l.grid.width l.fn.dispatch came written l.follower;
      counted : length came ≡ l.count;
      few : l.follower.number ≤ l.count + 1;
    }

abbrev pub decreases-loop-count : goal.decreases-loop-count
decreases-loop-count g l = most_request_bytes + 1 - l.count
