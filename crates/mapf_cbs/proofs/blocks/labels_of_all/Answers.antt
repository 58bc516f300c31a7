use Rattle.std.proofs.Common.{◌≡◌, ◌++◌, ◌∷◌, [], rules, map-id, sym, subst}
use Rattle.std.proofs.lemmas.Iterator.Consumers.{YieldsList-end}
use Rattle.std.proofs.lemmas.Iterator.Adapters.{YieldsList-from_vec}
use Rattle.mapf_cbs.proofs.BlockLemmas.{ArePaired, IsOwnList, paired_more, own_lists}
use Rattle.mapf_cbs.proofs.blocks.labels_of_all.Goals as goal

pub loop-node-preserved : goal.loop-node-preserved
loop-node-preserved c =
    let pushed : c.push.new.self.items ≡ c.loop-node.lists.items ++ c.bound_labels_of.result ∷ [] = c.in_ok-push.ensures.items in
    subst (λ ls. ArePaired IsOwnList (c.loop-node.yielded ++ c.in-Some.node ∷ []) ls) (sym pushed)
    (paired_more IsOwnList c.loop-node.yielded c.loop-node.lists.items c.in-Some.node c.bound_labels_of.result c.loop-node.invariant (c.bound_labels_of.ensures.own, c.bound_labels_of.ensures.small))

pub returns : goal.returns
returns c views are =
    let end = YieldsList-end (YieldsList-from_vec {s = c.into_iter-node-iterator.result} c.args.nodes.items (search rules) (search rules))
    c.loop-node.yielded c.loop-node.node-iterator c.loop-node.yielded_by c.next.result c.next.new.self c.in-None.is c.next.ensures.steps in
    let paired : ArePaired IsOwnList c.args.nodes.items c.loop-node.lists.items = rw (← end.0, map-id) c.loop-node.invariant in
    own_lists c.args.nodes.items c.loop-node.lists.items paired views are
