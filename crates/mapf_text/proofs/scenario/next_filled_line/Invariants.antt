use Rattle.std.proofs.Common.{◌≡◌, length}
use Rattle.mapf_text.specs.Scenarios.{filled_lines}
use Rattle.mapf_text.proofs.scenario.next_filled_line.Given as goal

abbrev pub invariant-loop-line : goal.invariant-loop-line
invariant-loop-line l = filled_lines l.rest ≡ filled_lines l.text

abbrev pub decreases-loop-line : goal.decreases-loop-line
decreases-loop-line l = length l.rest
