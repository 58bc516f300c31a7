use Rattle.std.proofs.Common.{◌≡◌, ◌<◌, length, slice_index_or, subst, sym, ◌∙◌}
use Rattle.mapf_model.specs.Tree.{with_constraint}
use Rattle.mapf_checker.specs.Index.{Indexes, CanUndo}
use Rattle.mapf_checker.proofs.BranchLemmas.{IndexesFirst-next}
use Rattle.mapf_checker.proofs.branch.Branch.index_next.Goals as goal

pub invariant_of-self-in_err-undo : goal.invariant_of-self-in_err-undo
invariant_of-self-in_err-undo c =
    let branch = c.self.invariant in
    rw c.reserve.ensures.items (record {
      first = record { within = branch.first.within; indexed = c.in_err-undo.ensures.unchanged _ branch.first.indexed; undone = branch.first.undone };
      kept = branch.kept;
      undone = branch.undone;
    })

pub invariant_of-self-2 : goal.invariant_of-self-2
invariant_of-self-2 c =
    let branch = c.self.invariant in
    let edges = c.self.inside.edges.items in
    let undos = c.self.inside.undos.items in
    let edge = c.index.result.now in
    let within : length undos < length edges = rw (← c.self.view_is) at c.requires in
    let is_next : c.len.result ≡ length undos = c.len.ensures ∙ c.reserve.ensures.len ∙ c.self.inside.undos.ok.0 in
    let at : slice_index_or edges (length undos) edge ≡ edge = sym (subst (λ k. edge ≡ slice_index_or edges k edge) is_next c.index.ensures) in
    rw (c.push_reserved.ensures.items, c.reserve.ensures.items) (record {
      first = IndexesFirst-next edges edge undos c.in_ok-undo.undo c.self.inside.index c.add.new.self within at branch.first
          (λ bars indexed. subst (λ k. Indexes (with_constraint bars k) c.add.new.self) c.constraint-constraint.ensures (c.in_ok-undo.ensures.added bars indexed))
          (λ bars indexed. subst (λ k. CanUndo bars k c.in_ok-undo.undo) c.constraint-constraint.ensures (c.in_ok-undo.ensures.undo bars indexed));
      kept = branch.kept;
      undone = branch.undone;
    })
