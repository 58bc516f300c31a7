use Rattle.std.proofs.Common.{ℕ, ◌<◌, ◌≤◌, length, slice_index_or}
use Rattle.mapf_model.specs.Blocks.{LabelBlock}
use Rattle.mapf_checker.specs.Leaf.{IsGoodBlock}
use Rattle.mapf_checker.specs.Marks.{CoverGrid}
use Rattle.mapf_checker.specs.Branch.{place_of}
use Rattle.mapf_checker.proofs.blocks.judge_blocks.Given as goal

abbrev pub invariant-loop-block : goal.invariant-loop-block
invariant-loop-block l = record {
  good : (k : ℕ) (d : LabelBlock) → k < l.block-index → IsGoodBlock l.node.problem.now (place_of l.node.branch.now).here (slice_index_or l.blocks k d);
  marks : (k : ℕ) (d : LabelBlock) → l.block-index ≤ k → k < length l.blocks → CoverGrid l.node.problem.now.grid l.marks;
}
