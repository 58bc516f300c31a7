use Rattle.std.proofs.Common.{◌∷◌, [], ◌≡◌, ◌<◌, ◌≤◌, length, arith, sym, ap}
use Rattle.std.proofs.lemmas.List.{length-take-le, take_at}
use Rattle.mapf_player.proofs.FollowLemmas.{start_pushed}
use Rattle.mapf_player.proofs.line_start.LineStart.push.Goals as goal

pub returns-then-self-lt-START_ROOM : goal.returns-then-self-lt-START_ROOM
returns-then-self-lt-START_ROOM c =
    let within : c.self.inside.used < length c.self.inside.bytes = omega arith in
    start_pushed c.self.inside.bytes c.args.self.now c.self.inside.used c.args.byte within c.if-self-lt-START_ROOM.true c.self.view_is

pub returns-else-self-lt-START_ROOM : goal.returns-else-self-lt-START_ROOM
returns-else-self-lt-START_ROOM c =
    let within : c.self.inside.used ≤ length c.self.inside.bytes = omega arith in
    let size : length c.args.self.now ≡ 65 = omega (arith, ap length c.self.view_is, length-take-le c.self.inside.used c.self.inside.bytes within, c.if-self-lt-START_ROOM.false, c.self.invariant) in
    sym (take_at c.args.self.now (c.args.byte ∷ []) 65 size)
