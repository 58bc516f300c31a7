use Rattle.std.proofs.Common.{◌≡◌, ◌≤◌, ◌*◌, take}
use Rattle.mapf_certificate.specs.Plans.{cost_of}
use Rattle.mapf_certificate.proofs.plan_writer.cost_of.Given as goal

abbrev pub invariant-loop-path : goal.invariant-loop-path
invariant-loop-path l = (l.cost ≡ cost_of (take l.path-index l.paths)) × (l.cost ≤ 9999999 * l.path-index)
