use Rattle.std.proofs.Common.{◌≡◌, ◌≤◌, ◌*◌, ◌++◌, ℕ, List, All, length}
use Rattle.mapf_model.specs.Printed.{IsPathInRange}
use Rattle.mapf_certificate.specs.Lines.{grid_of}
use Rattle.mapf_certificate.specs.Plans.{ArePaths, PathsGoOn, paths_text}
use Rattle.mapf_certificate.proofs.plan_reader.paths_of.Given as goal

abbrev pub invariant-loop-due : goal.invariant-loop-due
invariant-loop-due l =
    let grid = grid_of l.sizes.width l.sizes.height in
    record {
      found : ArePaths grid l.due l.fn.bytes l.paths.items l.sum l.rest;
      only : (plan : List (List ℕ)) (rest : List ℕ) → length plan ≡ l.sizes.agents → All (IsPathInRange grid) plan → l.fn.bytes ≡ paths_text l.sizes.width 0 plan ++ rest → PathsGoOn l.sizes.width l.due plan l.paths.items rest l.rest;
      few : l.sum ≤ 9999999 * l.due;
    }
