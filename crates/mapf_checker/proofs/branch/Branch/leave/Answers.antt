use Rattle.std.proofs.Common.{sym, ◌∙◌}
use Rattle.mapf_checker.proofs.BranchLemmas.{IsIndexedBranch-pop, last_edge}
use Rattle.mapf_checker.proofs.branch.Branch.leave.Goals as goal

pub undo-requires : goal.undo-requires
undo-requires c =
    let branch = rw c.in_ok-edge.ensures.items at c.self.invariant in
    record { agents = rw c.deref.ensures.value (last_edge c.pop.new.self.items c.in_ok-edge.edge c.self.inside.undos.items c.self.inside.index c.self.inside.starts branch).agents }

pub invariant_of-self-2 : goal.invariant_of-self-2
invariant_of-self-2 c =
    let edges = c.pop.new.self.items in
    let edge = c.in_ok-edge.edge in
    let branch = rw c.in_ok-edge.ensures.items at c.self.invariant in
    let edges_count = c.pop.new.self.ok.0 in
    IsIndexedBranch-pop edges edge c.self.inside.undos.items c.take_out.new.undos.items c.self.inside.index c.take_out.new.index c.self.inside.starts c.undo.new.self branch c.undo.ensures.count
    (c.take_out.ensures edges (sym (c.len.ensures ∙ edges_count)) branch.first) (rw c.deref.ensures.value at c.undo.ensures.entries)

pub returns-clause-undone : goal.returns-clause-undone
returns-clause-undone c =
    let branch = rw c.in_ok-edge.ensures.items at c.self.invariant in
    rw c.undo.ensures.count (last_edge c.pop.new.self.items c.in_ok-edge.edge c.self.inside.undos.items c.self.inside.index c.self.inside.starts branch)
