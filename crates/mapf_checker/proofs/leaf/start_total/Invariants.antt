use Rattle.std.proofs.Common.{◌≡◌, ◌*◌, ◌≤◌, List, length}
use Rattle.mapf_model.specs.declared.label.Label.{Label}
use Rattle.mapf_model.specs.Labels.{label_sum}
use Rattle.mapf_checker.specs.Branch.{place_of}
use Rattle.mapf_checker.specs.Leaf.{label_of_total, IsPlaceOfAgent}
use Rattle.mapf_checker.proofs.StartLemmas.{AreLabelsBelow, sum_of}
use Rattle.mapf_checker.proofs.leaf.start_total.Given as goal

abbrev pub invariant-loop-i : goal.invariant-loop-i
invariant-loop-i l = record {
  labels : (labels : List Label) × (length labels ≡ l.i) × AreLabelsBelow l.node.problem.now l.blocks (place_of l.node.branch.now).here.entries labels × (label_sum labels ≡ label_of_total (sum_of l.is_finite l.sum));
  bound : l.sum ≤ 4294967295 * l.i;
  cut : IsPlaceOfAgent l.blocks l.place l.i;
}
