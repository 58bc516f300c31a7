use Rattle.std.proofs.Common.{◌≡◌, ◌<◌, Result, Ok, Err, OnErr, length, slice_index_or, refl, sym, subst, ⊎_elim, arith}
use Rattle.std.proofs.lemmas.Bool.{cases_lt}
use Rattle.std.proofs.lemmas.Option.{slice_get_read, get_or_from_slice_get}
use Rattle.mapf_model.specs.Blocks.{LabelBlock}
use Rattle.mapf_model.specs.Printed.{IsBlockInRange}
use Rattle.mapf_checker.specs.AgentProblem.{CanJudge}
use Rattle.mapf_checker.specs.Leaf.{IsGoodBlock}
use Rattle.mapf_checker.specs.Branch.{place_of}
use Rattle.mapf_checker.proofs.blocks.judge_blocks.Goals as goal

on_err : {E X : Type 0} (r : Result X E) (P : Type 0) → P → OnErr r P
on_err (Ok x) P p = tt
on_err (Err e) P p = p

pub judge_block-requires-clause-block : goal.judge_block-requires-clause-block
judge_block-requires-clause-block c =
    subst (λ b. IsBlockInRange c.args.node.now.problem.now.grid (length c.args.node.now.problem.now.agents) b) (sym c.block-item.is) (c.requires.blocks c.loop-block.block-index c.block-item.result c.loop-block-test.true)

pub returns-in_err-judge_block-clause-err : goal.returns-in_err-judge_block-clause-err
returns-in_err-judge_block-clause-err c = on_err c.from_residual.result _ (record {
  block = c.block-item.result;
  listed = (c.loop-block.block-index, c.loop-block-test.true, sym c.block-item.is);
  unsound = c.in_err-judge_block.ensures.err;
})

pub loop-block-preserved : goal.loop-block-preserved
loop-block-preserved c =
    let blocks = c.args.blocks.now in
    let here = (place_of c.args.node.now.branch.now).here in
    let read = slice_get_read blocks _ c.loop-block.block-index c.block-item.result refl c.loop-block-test.true c.block-item.is in
    record {
      good = λ k d within. ⊎_elim
          (λ (less : k < c.loop-block.block-index). c.loop-block.invariant.good k d less)
          (λ past. let same : k ≡ c.loop-block.block-index = omega arith in
          subst (λ j. IsGoodBlock c.args.node.now.problem.now here (slice_index_or blocks j d)) (sym same)
          (subst (λ b. IsGoodBlock c.args.node.now.problem.now here b) (sym (get_or_from_slice_get blocks c.loop-block.block-index c.block-item.result d read)) c.in_ok-judge_block.ensures.ok))
          (cases_lt k c.loop-block.block-index);
      marks = λ k d from within. c.in_ok-judge_block.ensures.marks;
    }

pub returns-clause-ok : goal.returns-clause-ok
returns-clause-ok c k d within = c.loop-block.invariant.good k d (omega arith)

pub judge_block-requires-clause-ready : goal.judge_block-requires-clause-ready
judge_block-requires-clause-ready c =
    subst (λ (b : LabelBlock). CanJudge c.args.node.now.tables.now c.args.node.now.branch.now b) (sym c.block-item.is) (c.requires.ready c.loop-block.block-index c.block-item.result c.loop-block-test.true)

pub judge_block-requires-clause-marks : goal.judge_block-requires-clause-marks
judge_block-requires-clause-marks c = c.loop-block.invariant.marks c.loop-block.block-index c.block-item.result (omega arith) c.loop-block-test.true

pub loop-block-init : goal.loop-block-init
loop-block-init c = record {
  good = λ k d none. absurd (omega arith);
  marks = λ k d from within. c.requires.marks k d within;
}
