use Rattle.std.proofs.Common.{◌≡◌, drop, subst, arith}
use Rattle.mapf_checker.specs.Starts.{AreKept, with_changes}
use Rattle.mapf_checker.proofs.starts.Starts.change.Goals as goal

pub returns-clause-entries : goal.returns-clause-entries
returns-clause-entries c entries are =
    let all : c.loop-k.k ≡ 0 = let none = c.loop-k-test.false in omega (arith, none) in
    subst (λ k. AreKept (with_changes (drop k c.args.changes.now) entries) c.loop-k.self.entries.items) all (c.loop-k.invariant.kept entries are)
