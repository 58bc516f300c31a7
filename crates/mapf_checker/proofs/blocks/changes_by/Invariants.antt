use Rattle.std.proofs.Common.{take}
use Rattle.mapf_checker.specs.Branch.{place_of}
use Rattle.mapf_checker.specs.Starts.{AreChangesBy}
use Rattle.mapf_checker.proofs.blocks.changes_by.Given as goal

abbrev pub invariant-loop-block : goal.invariant-loop-block
invariant-loop-block l = AreChangesBy l.problem (place_of l.branch).here.entries (take l.block-index l.blocks) l.changes.items
