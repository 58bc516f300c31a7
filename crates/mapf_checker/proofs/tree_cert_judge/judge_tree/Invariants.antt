use Rattle.std.proofs.Common.{◌≡◌, false}
use Rattle.mapf_certificate.specs.Buffered.{spare}
use Rattle.mapf_checker.specs.CertJudging.{IsBetweenItems, IsReadTo}
use Rattle.mapf_checker.specs.Progress.{pending_by}
use Rattle.mapf_checker.proofs.tree_cert_judge.judge_tree.Given as goal

abbrev pub invariant-loop-progress : goal.invariant-loop-progress
invariant-loop-progress g l = record {
  works : (g.S.Source).has_failed l.source ≡ false;
  between : IsBetweenItems l.problem l.claim l.lines l.progress;
  read : IsReadTo l.problem l.claim ((g.S.Source).remaining l.fn.source) ((g.S.Source).remaining l.source) l.fn.lines l.lines (pending_by l.progress);
}

abbrev pub decreases-loop-progress : goal.decreases-loop-progress
decreases-loop-progress g l = spare l.lines.buffer
