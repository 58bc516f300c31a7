use Rattle.std.proofs.Common.{◌≡◌, length}
use Rattle.mapf_cbs.specs.Start.{AreShortest}
use Rattle.mapf_cbs.proofs.start.shortest_paths.Given as goal

abbrev pub invariant-loop-agent : goal.invariant-loop-agent
invariant-loop-agent l = record { so_many : length l.paths.items ≡ l.agent-index; shortest : AreShortest l.problem l.paths.items }
