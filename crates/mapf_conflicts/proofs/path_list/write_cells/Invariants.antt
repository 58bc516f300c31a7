use Rattle.std.proofs.Common.{◌≡◌, map, take}
use Rattle.mapf_conflicts.specs.Pairs.{cells_at}
use Rattle.mapf_conflicts.proofs.path_list.write_cells.Given as goal

abbrev pub invariant-loop-i : goal.invariant-loop-i
invariant-loop-i g l = take l.i l.cells ≡ cells_at (map g.P.AsPath.cells (take l.i l.paths)) l.tick
