use Rattle.std.proofs.Common.{ℕ, ◌<◌, slice_index_or}
use Rattle.mapf_model.specs.Blocks.{LabelBlock}
use Rattle.mapf_distance.specs.Tables.{AreMade, HasTable}
use Rattle.mapf_checker.proofs.blocks.make_tables.Given as goal

abbrev pub invariant-loop-block : goal.invariant-loop-block
invariant-loop-block l = record {
  tables : AreMade l.problem l.tables;
  made : (k : ℕ) (d : LabelBlock) → k < l.block-index → HasTable l.tables (slice_index_or l.blocks k d).agent;
}
