use Rattle.std.proofs.Common.{ap, ◌++◌, filter, is_none, map, ◌∙◌}
use Rattle.mapf_model.specs.Tree.{block_of, node_of}
use Rattle.mapf_lemma_convert.specs.NodeWalk.{block_part}
use Rattle.mapf_lemma_convert.proofs.WalkSteps.{node_done}
use Rattle.mapf_lemma_convert.proofs.node_walk.NodeWalk.node.Goals as goal

pub returns : goal.returns
returns c =
    let above = c.in-Some.above in
    let blocks = c.blocks-blocks.result.now in
    let lemmas = c.self.inside.lemmas.items in
    let constraints = c.deref-2.ensures.value ∙ ap (λ a. a.constraints) c.above.view_is in
    let below = c.deref-4.ensures.value ∙ ap (λ a. a.constraints) c.above.view_is in
    rw (← c.self.view_is)
    (node_done c.kind-kind.result (node_of c.args.item.now) blocks c.self.inside.pending.items c.pop.new.self.items above lemmas c.self.inside.cases.items
    c.add_lemmas.new.lemmas.items c.push.new.self.items c.in_ok-case_part.field-0 c.in_ok-in_force.in_force.items c.add_lemmas.new.in_force.items c.deref-3.result.now c.deref-5.result.now c.deref-4.result.now
    c.in-Some.ensures.items
    c.blocks-blocks.ensures
    c.kind-kind.ensures
    (c.in_ok-in_force.ensures ∙ ap (filter (λ lemma. is_none (block_of blocks lemma.agent))) (c.deref.ensures.value ∙ ap (λ a. a.in_force) c.above.view_is))
    c.in_ok-add_lemmas.ensures.in_force
    c.deref-3.ensures.value
    c.deref-5.ensures.value
    below
    (c.in_ok-add_lemmas.ensures.lemmas ∙ ap (λ t. lemmas ++ map (block_part t) blocks) constraints)
    c.in_ok-case_part.ensures
    c.in_ok-push.ensures.items
    c.add_children.result c.add_children.new.self c.add_children.ensures)
