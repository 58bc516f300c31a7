use Rattle.std.proofs.Common.{◌≡◌, ◌≤◌, ◌*◌, ◌-◌, length, sum_by, take}
use Rattle.mapf_cbs.proofs.start.total_of.Given as goal

abbrev pub invariant-loop-path : goal.invariant-loop-path
invariant-loop-path l = (l.total ≡ sum_by (λ path. length path - 1) (take l.path-index l.paths)) × (l.total ≤ 9999999 * l.path-index)
