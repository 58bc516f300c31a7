use Rattle.std.proofs.Common.{◌≡◌, false}
use Rattle.mapf_certificate.specs.Buffered.{spare}
use Rattle.mapf_lemma_checker.specs.CertJudging.{IsBetweenParts, IsJudgedTo}
use Rattle.mapf_lemma_checker.specs.Judges.{IsReady, state_of}
use Rattle.mapf_lemma_checker.proofs.cert_judge.judge_parts.Given as goal

abbrev pub invariant-loop-judge : goal.invariant-loop-judge
invariant-loop-judge g l = record {
  works : (g.S.Source).has_failed l.source ≡ false;
  ready : IsReady l.problem l.judge;
  target : l.judge.target ≡ l.fn.judge.target;
  between : IsBetweenParts l.problem l.fn.judge.target l.reader (state_of l.judge);
  read : IsJudgedTo l.problem l.fn.judge.target ((g.S.Source).remaining l.fn.source) ((g.S.Source).remaining l.source) l.fn.reader l.reader (state_of l.judge);
}

abbrev pub decreases-loop-judge : goal.decreases-loop-judge
decreases-loop-judge g l = spare l.reader.buffer
