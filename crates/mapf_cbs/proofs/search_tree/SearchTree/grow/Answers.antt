use Rattle.std.proofs.Common.{◌<◌, ◌+◌, All, sym, subst, ◌∙◌}
use Rattle.mapf_cbs.proofs.StateLemmas.{newest_after}
use Rattle.mapf_cbs.proofs.search_tree.SearchTree.grow.Goals as goal

pub add_open-requires-2 : goal.add_open-requires-2
add_open-requires-2 c =
    let number = c.in_ok-number.number in
    let newest = subst (λ n. All (λ key. key.1 < n) c.args.self.now.waiting) (c.requires.same ∙ sym c.in_ok-number.ensures.number) c.requires.newest in
    subst (All (λ key. key.1 < number + 1)) (sym c.in_ok-add_open.ensures.waiting) (newest_after c.args.self.now.waiting number c.args.left.total newest)
