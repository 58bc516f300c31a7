use Rattle.std.proofs.Common.{◌≡◌, ℕ, ◌+◌, ◌<◌, ◌∙◌, length, ap, sym, slice_index_or, arith}
use Rattle.std.proofs.Math.ListN.{set}
use Rattle.std.proofs.lemmas.Bool.Decides.{nat_tests}
use Rattle.std.proofs.lemmas.List.{get_or_default, length-set}
use Rattle.mapf_lemmas.specs.declared.joint.JointCell.{JointCell}
use Rattle.mapf_joint_labels.proofs.RunLemmas.{runs_same, runs_other}
use Rattle.mapf_joint_labels.proofs.never.mark.Goals as goal
use Rattle.mapf_joint_labels.proofs.never.mark.Goals.{then-ne, else-ne}

pub loop-k-preserved : goal.loop-k-preserved
loop-k-preserved c =
    let i = c.loop-k.invariant in
    let cells = c.args.cells.now in
    let k = c.loop-k.k in
    let begin = c.loop-k.begin in
    let here = c.index-cells-k.result in
    let there = c.index-cells-begin.result in
    let first = (slice_index_or cells k here).first in
    let within : k < length cells = c.loop-k-test.true in
    let low = i.so_far.low in
    let inside : begin < length cells = omega (arith, low, within) in
    let at : (d : JointCell) → (slice_index_or cells k d).first ≡ first = λ d. ap (λ (p : JointCell). p.first) (get_or_default cells k d here within) in
    let size : (next : ℕ) → length (set c.loop-k.runs first (record { begin = next; end = k + 1 })) ≡ length c.args.runs.now = λ next. length-set c.loop-k.runs first (record { begin = next; end = k + 1 }) ∙ i.size in
    elim c.if-ne.branch [
      | then-ne w ↦
          let other : (slice_index_or cells begin there).first ≡ first → ⊥ = let e = c.ne.ensures in let t = w.if-ne.true in grind (arith, nat_tests) in
          rw (c.set.ensures, w.begin-is) (record {
            so_far = runs_other cells c.loop-k.runs begin k first c.requires within at i.so_far (λ d same. other (sym (ap (λ (p : JointCell). p.first) (get_or_default cells begin d there inside)) ∙ same));
            size = size k;
          })
      | else-ne w ↦
          let same : (slice_index_or cells begin there).first ≡ first = let e = c.ne.ensures in let t = w.if-ne.false in grind (arith, nat_tests) in
          rw (c.set.ensures, w.begin-is) (record {
            so_far = runs_same cells c.loop-k.runs begin k first c.requires within at i.so_far (λ d. ap (λ (p : JointCell). p.first) (get_or_default cells begin d there inside) ∙ same);
            size = size begin;
          })
    ]

pub returns-clause-runs : goal.returns-clause-runs
returns-clause-runs c = λ k first within inside is. c.loop-k.invariant.so_far.runs_to k first (let e = c.loop-k-test.false in omega (arith, e, within)) inside is
