use Rattle.std.proofs.Common.{length, sym, ◌∙◌, ap}
use Rattle.mapf_checker.specs.CertJudging.{HasTreeRefusal}
use Rattle.mapf_checker.specs.Faults.{IsNoRefusal, IsOfChecking}
use Rattle.mapf_checker.specs.Progress.{pending_by}
use Rattle.mapf_checker.proofs.ReadLemmas.{read_none, err_passed}
use Rattle.mapf_checker.proofs.tree_cert_judge.judge_tree.Goals as goal

pub loop-progress-init : goal.loop-progress-init
loop-progress-init g c = record {
  works = c.requires.works;
  between = record {
    width = c.requires.headed.width;
    height = c.requires.headed.height;
    header = c.requires.headed.header;
    fault = c.requires.headed.fault;
    part = c.requires.headed.part;
    count = c.requires.headed.pending ∙ ap length (sym c.in_ok-progress.ensures.pending);
    ready = c.in_ok-progress.ensures.ready;
  };
  read = read_none c.args.problem.now c.args.claim.now ((g.S.Source).remaining c.args.source.now) c.args.lines.now (pending_by c.in_ok-progress.progress) c.in_ok-progress.ensures.pending;
}

pub returns-in_err-judge_next-clause-only : goal.returns-in_err-judge_next-clause-only
returns-in_err-judge_next-clause-only g c nodes awaits shows =
    err_passed c.from_residual-in_err-judge_next.result IsNoRefusal c.in_err-judge_next.field-0.0 c.from_residual-in_err-judge_next.ensures.1
    ((c.in_err-judge_next.ensures.judged ((g.S.Source).remaining c.args.source.now) c.args.lines.now c.loop-progress.invariant.read).only nodes awaits shows)

pub returns-in_err-judge_next-clause-stops : goal.returns-in_err-judge_next-clause-stops
returns-in_err-judge_next-clause-stops g c =
    let had = (g.S.Source).remaining c.args.source.now in
    let start = c.args.lines.now in
    err_passed c.from_residual-in_err-judge_next.result (IsOfChecking had ((g.S.Source).remaining c.judge_next.new.source) ((g.S.Source).has_failed c.judge_next.new.source) start.buffer (HasTreeRefusal c.args.problem.now c.args.claim.now had start))
    c.in_err-judge_next.field-0.0 c.from_residual-in_err-judge_next.ensures.1 (c.in_err-judge_next.ensures.judged had start c.loop-progress.invariant.read).stops

pub loop-progress-preserved : goal.loop-progress-preserved
loop-progress-preserved g c = record {
  works = c.in_ok-judge_next.ensures.works;
  between = c.in_ok-judge_next.ensures.between c.if-branch.true;
  read = rw c.if-branch.true at (c.in_ok-judge_next.ensures.judged ((g.S.Source).remaining c.args.source.now) c.args.lines.now c.loop-progress.invariant.read).read;
}

pub returns-clause-came : goal.returns-clause-came
returns-clause-came g c = (c.in_ok-judge_next.ensures.judged ((g.S.Source).remaining c.args.source.now) c.args.lines.now c.loop-progress.invariant.read).came

pub returns-clause-judged : goal.returns-clause-judged
returns-clause-judged g c = rw c.if-branch.false at (c.in_ok-judge_next.ensures.judged ((g.S.Source).remaining c.args.source.now) c.args.lines.now c.loop-progress.invariant.read).read
