use Rattle.mapf_checker.proofs.BranchLemmas.{IsIndexedBranch-push}
use Rattle.mapf_checker.specs.Branch.{place_after}
use Rattle.mapf_checker.proofs.branch.Branch.descend.Goals as goal

pub invariant_of-self-2 : goal.invariant_of-self-2
invariant_of-self-2 c =
    let edges = c.self.inside.edges.items in
    let here = (place_after edges).here in
    let branch = c.self.invariant in
    rw (c.push_reserved.ensures.items, c.reserve.ensures.items)
    (IsIndexedBranch-push edges (record { conflict = c.args.conflict.now; child = c.args.child; changes = c.args.changes }) c.self.inside.undos.items c.self.inside.index c.self.inside.starts c.change.new.self branch c.change.ensures.count
    (rw c.deref.ensures.value at (c.change.ensures.entries here.entries branch.kept))
    (record { agents = rw (← c.self.view_is) at c.requires.agents; entries = rw (← c.self.view_is) at c.requires.entries }))
