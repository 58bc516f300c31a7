use Rattle.std.proofs.Common.{◌≡◌, ◌<◌, ◌≤◌, ◌∙◌, slice_index_or, sym, subst, ⊎_elim, arith}
use Rattle.std.proofs.lemmas.Bool.{cases_lt}
use Rattle.std.proofs.lemmas.List.{get_or_default}
use Rattle.mapf_joint_labels.specs.Never.{IsClosedIn}
use Rattle.mapf_joint_labels.proofs.never.CellSet.first_open.Goals as goal

pub loop-k-preserved : goal.loop-k-preserved
loop-k-preserved c = λ j d below. ⊎_elim
    (λ (before : j < c.loop-k.k). c.loop-k.invariant j d before)
    (λ (past : c.loop-k.k ≤ j).
    let same : j ≡ c.loop-k.k = omega (arith, past, below) in
    let cells = c.args.self.now.cells.now in
    let here = c.is_closed_at.ensures.0 c.if-not-is_closed_at.false in
    subst (λ n. IsClosedIn c.args.self.now (slice_index_or cells n d)) (sym same)
    (subst (IsClosedIn c.args.self.now) (c.cell-item.is ∙ get_or_default cells c.loop-k.k c.cell-item.result d c.loop-k-test.true) here))
    (cases_lt j c.loop-k.k)
