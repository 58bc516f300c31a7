use Rattle.std.proofs.Common.{◌≡◌, ◌<◌, length, slice_index_or, refl, sym, subst, ⊎_elim, arith}
use Rattle.std.proofs.lemmas.Bool.{cases_lt}
use Rattle.std.proofs.lemmas.Option.{slice_get_read, get_or_from_slice_get}
use Rattle.mapf_model.specs.Blocks.{LabelBlock}
use Rattle.mapf_distance.specs.Tables.{HasTable}
use Rattle.mapf_checker.proofs.blocks.make_tables.Goals as goal

pub make-requires-clause-known : goal.make-requires-clause-known
make-requires-clause-known c =
    let in_range = c.requires.blocks c.loop-block.block-index c.block-item.result c.loop-block-test.true in
    let here : c.block-item.result.agent < length c.args.problem.now.agents = subst (λ (b : LabelBlock). b.agent < length c.args.problem.now.agents) (sym c.block-item.is) in_range.agent in
    omega (arith, c.agent_of.ensures)

pub loop-block-preserved : goal.loop-block-preserved
loop-block-preserved c =
    let blocks = c.args.blocks.now in
    let read = slice_get_read blocks _ c.loop-block.block-index c.block-item.result refl c.loop-block-test.true c.block-item.is in
    record {
      tables = c.in_ok-make.ensures.tables;
      made = λ k d within. ⊎_elim
          (λ (less : k < c.loop-block.block-index). c.in_ok-make.ensures.kept (slice_index_or blocks k d).agent (c.loop-block.invariant.made k d less))
          (λ past. let same : k ≡ c.loop-block.block-index = omega arith in
          subst (λ j. HasTable c.make.new.self (slice_index_or blocks j d).agent) (sym same)
          (subst (λ (b : LabelBlock). HasTable c.make.new.self b.agent) (sym (get_or_from_slice_get blocks c.loop-block.block-index c.block-item.result d read))
          (subst (λ i. HasTable c.make.new.self i) c.agent_of.ensures c.in_ok-make.ensures.made)))
          (cases_lt k c.loop-block.block-index);
    }
