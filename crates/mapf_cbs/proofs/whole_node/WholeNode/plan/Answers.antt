use Rattle.std.proofs.Common.{◌≡◌, sym, ◌∙◌, arith}
use Rattle.std.proofs.lemmas.Option.{same_Some}
use Rattle.mapf_model.proofs.DecidedLemmas.{same_list}
use Rattle.mapf_cbs.proofs.whole_node.WholeNode.plan.Goals as goal

pub returns-clause-paths : goal.returns-clause-paths
returns-clause-paths c view whole =
    let count = c.loop-i.invariant.so_many in
    let past = c.loop-i-test.false in let e = c.loop-i.auto.i-end in
    let size = whole.count in let so_many = c.len-i-end.ensures in let ok = c.args.self.now.agent_paths.ok in
    let same : c.loop-i.paths.items ≡ view.paths = same_list c.loop-i.paths.items view.paths (omega (arith, count, past, e, size, so_many, ok)) (λ i x y x_is y_is.
    same_Some x y (sym (c.loop-i.invariant.each i x x_is view whole) ∙ y_is)) in
    c.in-Some.ensures.value ∙ same
