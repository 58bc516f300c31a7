use Rattle.std.proofs.Common.{refl, sym, subst, ◌∙◌}
use Rattle.mapf_lemma_checker.specs.CertJudging.{HasPartRefusal, IsBetweenParts, IsJudgedTo}
use Rattle.mapf_lemma_checker.specs.Faults.{IsOfChecking}
use Rattle.mapf_lemma_checker.specs.States.{JudgeState}
use Rattle.mapf_lemma_checker.proofs.JudgedLemmas.{err_passed, judged_none}
use Rattle.mapf_lemma_checker.proofs.cert_judge.judge_parts.Goals as goal

pub loop-judge-init : goal.loop-judge-init
loop-judge-init g c =
    let problem = c.args.problem.now in
    let target = c.args.judge.target in
    let start = c.args.reader.now in
    let had = (g.S.Source).remaining c.args.source.now in
    record {
      works = c.requires.works;
      ready = c.requires.ready;
      target = refl;
      between = subst (λ (s : JudgeState). IsBetweenParts problem target start s) (sym c.requires.nothing) c.requires.between;
      read = subst (λ (s : JudgeState). IsJudgedTo problem target had had start start s) (sym c.requires.nothing) (judged_none problem target had start);
    }

pub returns-in_err-judge_next-clause-stops : goal.returns-in_err-judge_next-clause-stops
returns-in_err-judge_next-clause-stops g c =
    let problem = c.args.problem.now in
    let start = c.args.reader.now in
    let had = (g.S.Source).remaining c.args.source.now in
    let left = (g.S.Source).remaining c.judge_next.new.source in
    let failed = (g.S.Source).has_failed c.judge_next.new.source in
    let fault = c.in_err-judge_next.field-0.0 in
    let kept = c.loop-judge.invariant in
    err_passed c.from_residual.result (IsOfChecking had left failed start.buffer (HasPartRefusal problem c.args.judge.target had start)) fault c.from_residual.ensures.1
    (rw kept.target at (c.in_err-judge_next.ensures.judged had start (rw kept.target kept.read)).stops)

pub loop-judge-preserved : goal.loop-judge-preserved
loop-judge-preserved g c =
    let start = c.args.reader.now in
    let had = (g.S.Source).remaining c.args.source.now in
    let kept = c.loop-judge.invariant in
    let did = c.in_ok-judge_next.ensures in
    record {
      works = did.works;
      ready = did.ready;
      target = did.target ∙ kept.target;
      between = rw kept.target at (did.between c.if-branch.true);
      read = rw kept.target at (rw c.if-branch.true at (did.judged had start (rw kept.target kept.read)).read);
    }

pub returns-clause-came : goal.returns-clause-came
returns-clause-came g c =
    let kept = c.loop-judge.invariant in
    (c.in_ok-judge_next.ensures.judged ((g.S.Source).remaining c.args.source.now) c.args.reader.now (rw kept.target kept.read)).came

pub returns-clause-judged : goal.returns-clause-judged
returns-clause-judged g c =
    let kept = c.loop-judge.invariant in
    rw kept.target at (rw c.if-branch.false at (c.in_ok-judge_next.ensures.judged ((g.S.Source).remaining c.args.source.now) c.args.reader.now (rw kept.target kept.read)).read)
