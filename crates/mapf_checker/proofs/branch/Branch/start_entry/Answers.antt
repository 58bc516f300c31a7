use Rattle.mapf_checker.specs.Branch.{place_after}
use Rattle.mapf_checker.proofs.branch.Branch.start_entry.Goals as goal

pub returns : goal.returns
returns c = rw (← c.self.view_is) (c.get.ensures (place_after c.self.inside.edges.items).here.entries c.self.invariant.kept)
