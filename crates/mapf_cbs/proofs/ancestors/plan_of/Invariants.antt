use Rattle.std.proofs.Common.{◌≡◌, ◌≤◌, All, length, take}
use Rattle.mapf_conflicts.specs.Pairs.{paths_behind}
use Rattle.mapf_cbs.proofs.ancestors.plan_of.Given as goal

abbrev pub invariant-loop-path : goal.invariant-loop-path
invariant-loop-path l = record {
  same : l.copies.items ≡ paths_behind (take l.path-index l.paths);
  short : All (λ path. length path ≤ 10000000) l.copies.items;
}
