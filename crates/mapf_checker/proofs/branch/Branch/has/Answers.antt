use Rattle.mapf_checker.specs.Branch.{place_after}
use Rattle.mapf_checker.proofs.BranchLemmas.{indexes_all}
use Rattle.mapf_checker.proofs.branch.Branch.has.Goals as goal

pub returns : goal.returns
returns c =
    let edges = c.self.inside.edges.items in
    rw (← c.self.view_is) (c.has.ensures (place_after edges).here.bars (indexes_all edges c.self.inside.undos.items c.self.inside.index c.self.invariant.first (rw (← c.self.view_is) at c.requires)))
