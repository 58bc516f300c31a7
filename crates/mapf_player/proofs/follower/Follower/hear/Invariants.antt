use Rattle.std.proofs.Common.{◌+◌, ◌≡◌, ◌≤◌, ◌++◌, [], ℕ, List, false, take}
use Rattle.std.specs.Io.KnownBytes.{Appends}
use Rattle.mapf_player.specs.Dispatching.{Progress}
use Rattle.mapf_player.specs.Following.{IsHearing}
use Rattle.mapf_player.proofs.follower.Follower.hear.Given as goal

abbrev pub invariant-loop-byte : goal.invariant-loop-byte
invariant-loop-byte g l =
    let sink = g.K.Sink in
    record {
      works : sink.has_failed l.sink ≡ false;
      empty : l.page ≡ [];
      few : l.self.number ≤ l.fn.self.number + l.byte-index;
      heard : (before : Progress) (came written : List ℕ) → IsHearing l.grid.width before came written l.fn.self → (text : List ℕ)
          × Appends (sink.contents l.fn.sink) (sink.contents l.sink) text
          × IsHearing l.grid.width before (came ++ take l.byte-index l.bytes) (written ++ text) l.self;
    }
