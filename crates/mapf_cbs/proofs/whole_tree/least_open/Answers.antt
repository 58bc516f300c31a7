use Rattle.std.proofs.Common.{◌≡◌, length, subst, arith}
use Rattle.mapf_cbs.specs.Whole.{IsLeastBelow}
use Rattle.mapf_cbs.proofs.whole_tree.least_open.Goals as goal

pub returns : goal.returns
returns c =
    let end : c.loop-k.k ≡ length c.args.statuses.now = (let a = c.loop-k-test.false in let b = c.loop-k.auto.k-end in let same = c.requires.same in omega (arith, a, b, same)) in
    subst (λ n. IsLeastBelow c.args.nodes.now c.args.statuses.now n c.loop-k.least) end c.loop-k.invariant
