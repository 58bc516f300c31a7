use Rattle.std.proofs.Common.{[], ◌∷◌, ap, map, take, sym, ◌∙◌}
use Rattle.std.proofs.lemmas.List.{map-append}
use Rattle.mapf_model.specs.Tree.{node_of}
use Rattle.mapf_lemma_convert.specs.NodeWalk.{node_after, walk_over}
use Rattle.mapf_lemma_convert.proofs.WalkSteps.{take_more, walk_more}
use Rattle.mapf_lemma_convert.proofs.node_walk.NodeWalk.nodes.Goals as goal

pub loop-item-preserved : goal.loop-item-preserved
loop-item-preserved c =
    let before = take c.loop-item.item-index c.args.items.now in
    let item = c.item-item.result in
    record {
      same = c.in_ok-node.ensures
          ∙ ap (λ w. node_after w (node_of item)) c.loop-item.invariant.same
          ∙ sym (walk_more (map node_of before) c.args.self.now (node_of item))
          ∙ ap (walk_over c.args.self.now) (sym (map-append node_of before (item ∷ [])) ∙ ap (map node_of) (sym (take_more c.args.items.now c.loop-item.item-index item c.loop-item-test.true c.item-item.is)));
    }
