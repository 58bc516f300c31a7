use Rattle.std.proofs.Common.{subst, sym, arith}
use Rattle.mapf_model.specs.Tree.{with_constraint}
use Rattle.mapf_checker.specs.Index.{Indexes, CanUndo}
use Rattle.mapf_checker.proofs.BranchLemmas.{IndexesFirst-cut, IndexesFirst-pop}
use Rattle.mapf_checker.proofs.branch.take_out.Goals as goal

pub returns-then-len-edges : goal.returns-then-len-edges
returns-then-len-edges c before count first = IndexesFirst-cut before c.args.edge.now c.args.undos.now.items c.args.index.now (omega (arith, count)) first

pub returns-in-Some : goal.returns-in-Some
returns-in-Some c before count first =
    IndexesFirst-pop before c.args.edge.now c.pop.new.self.items c.in-Some.undo c.args.index.now c.undo.new.self (rw c.in-Some.ensures.items at first)
    (omega (arith, count, c.in-Some.ensures.len)) (λ bars indexed can. c.undo.ensures bars
    (subst (λ k. Indexes (with_constraint bars k) c.args.index.now) (sym c.constraint.ensures) indexed)
    (subst (λ k. CanUndo bars k c.in-Some.undo) (sym c.constraint.ensures) can))
