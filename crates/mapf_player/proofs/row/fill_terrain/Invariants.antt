use Rattle.std.proofs.Common.{◌≡◌, ◌<◌, ◌+◌, ◌*◌, ℕ, get_or}
use Rattle.mapf_player.specs.Play.{terrain}
use Rattle.mapf_player.proofs.row.fill_terrain.Given as goal

abbrev pub invariant-loop-x : goal.invariant-loop-x
invariant-loop-x l = (x : ℕ) → x < l.x → get_or l.row x 0 ≡ terrain l.grid (l.y * l.grid.width + x)
