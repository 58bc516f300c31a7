use Rattle.std.proofs.Common.{arith}
use Rattle.mapf_player.proofs.dispatch.key_of.Goals as goal

pub overflow_add-result : goal.overflow_add-result
overflow_add-result c = omega (arith, c.first_key.ensures.small)
