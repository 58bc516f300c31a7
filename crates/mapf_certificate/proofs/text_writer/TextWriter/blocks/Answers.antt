use Rattle.std.proofs.Common.{◌<◌, length, rules, ap, sym, arith}
use Rattle.std.proofs.lemmas.Option.{get_or_from_slice_get}
use Rattle.mapf_fields.proofs.Prefixes.{fails}
use Rattle.mapf_fields.proofs.ListPieces.{list_more, list_prefix}
use Rattle.mapf_model.proofs.ClaimLemmas.{slice_get_inside}
use Rattle.mapf_model.specs.Tree.{blocks_of}
use Rattle.mapf_certificate.specs.Certificates.{block_text}
use Rattle.mapf_certificate.proofs.text_writer.TextWriter.blocks.Goals as goal

pub returns-in_err-block-clause-text : goal.returns-in_err-block-clause-text
returns-in_err-block-clause-text g c =
    let blocks = blocks_of (g.N.AsNode.node c.args.node.now) in let place = c.loop-place.place in
    let inside : place < length blocks = omega (arith, c.block_count-place-end.ensures, c.loop-place-test.true) in
    let (block, is) = slice_get_inside blocks place inside in
    fails _ _ _ _ _ _ _ c.from_residual.ensures.1 (list_prefix (block_text c.args.self.now.width) blocks place block inside (sym (get_or_from_slice_get blocks place block block is))
    _ _ _ _ _ _ (ap (λ w. block_text w block) c.loop-place.invariant.width) c.loop-place.invariant.text (c.in_err-block.ensures.text block is))

pub loop-place-preserved : goal.loop-place-preserved
loop-place-preserved g c =
    let blocks = blocks_of (g.N.AsNode.node c.args.node.now) in let place = c.loop-place.place in
    let inside : place < length blocks = omega (arith, c.block_count-place-end.ensures, c.loop-place-test.true) in
    let (block, is) = slice_get_inside blocks place inside in
    record {
      works = search rules;
      width = search rules;
      text = list_more (block_text c.args.self.now.width) blocks place block inside (sym (get_or_from_slice_get blocks place block block is))
          _ _ _ _ _ _ _ (ap (λ w. block_text w block) c.loop-place.invariant.width) c.loop-place.invariant.text (c.in_ok-block.ensures.text block is);
    }
