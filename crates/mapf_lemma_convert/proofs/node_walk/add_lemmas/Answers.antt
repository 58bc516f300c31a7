use Rattle.std.proofs.Common.{rules, ◌≡◌, ◌+◌, [], ◌∷◌, ◌++◌, length, length-append, append_assoc, ap, map, take, sym, ◌∙◌, arith}
use Rattle.std.proofs.lemmas.List.{length-map, map-append}
use Rattle.mapf_lemma_convert.specs.Conversion.{numbered}
use Rattle.mapf_lemma_convert.specs.NodeWalk.{block_part}
use Rattle.mapf_lemma_convert.proofs.WalkSteps.{numbered_more, take_more}
use Rattle.mapf_lemma_convert.proofs.node_walk.add_lemmas.Goals as goal

pub loop-block-preserved : goal.loop-block-preserved
loop-block-preserved c =
    let before = take c.loop-block.block-index c.args.blocks.now in
    let block = c.block-item.result in
    let old = c.args.lemmas.now.items in
    let force = c.args.in_force.now.items in
    let one = block_part c.args.constraints.now in
    let next = take_more c.args.blocks.now c.loop-block.block-index block c.loop-block-test.true c.block-item.is in
    let counted : c.len.result ≡ length c.loop-block.lemmas.items = search rules in
    let made = ap length c.loop-block.invariant.lemmas in
    let both = length-append old (map one before) in
    let mapped = length-map before one in
    let number : c.len.result ≡ length old + length before = omega (arith, counted, made, both, mapped) in
    record {
      lemmas = c.in_ok-push-2.ensures.items
          ∙ ap (λ t. t ++ c.in_ok-lemma_part.field-0 ∷ []) c.loop-block.invariant.lemmas
          ∙ append_assoc old (map one before) (c.in_ok-lemma_part.field-0 ∷ [])
          ∙ ap (λ p. old ++ (map one before ++ p ∷ [])) c.in_ok-lemma_part.ensures
          ∙ ap (λ t. old ++ t) (sym (map-append one before (block ∷ [])) ∙ ap (map one) (sym next));
      in_force = c.in_ok-push.ensures.items
          ∙ ap (λ a. c.loop-block.in_force.items ++ record { agent = a; number = c.len.result } ∷ []) (ap (λ b. b.agent) c.block.view_is)
          ∙ ap (λ t. t ++ record { agent = block.agent; number = c.len.result } ∷ []) c.loop-block.invariant.in_force
          ∙ append_assoc force (numbered (length old) before) (record { agent = block.agent; number = c.len.result } ∷ [])
          ∙ ap (λ n. force ++ (numbered (length old) before ++ record { agent = block.agent; number = n } ∷ [])) number
          ∙ ap (λ t. force ++ t) (sym (numbered_more (length old) before block) ∙ ap (numbered (length old)) (sym next));
    }
