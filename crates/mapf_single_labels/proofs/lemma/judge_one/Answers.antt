use Rattle.std.proofs.Common.{Result, Ok, Err, OnErr}
use Rattle.mapf_single_labels.proofs.StatementLemmas.{shows_bound, shows_nothing}
use Rattle.mapf_single_labels.proofs.lemma.judge_one.Goals as goal

on_err : {E X : Type 0} (r : Result X E) (P : Type 0) → P → OnErr r P
on_err (Ok x) P p = tt
on_err (Err e) P p = p

pub returns-in_err-judge_entries-clause-nothing : goal.returns-in_err-judge_entries-clause-nothing
returns-in_err-judge_entries-clause-nothing c = on_err c.from_residual.result _ (shows_nothing c.args.task.now c.args.entries.now c.requires.rising _ c.in_err-judge_entries.ensures.err)

pub returns-clause-shown : goal.returns-clause-shown
returns-clause-shown c = shows_bound c.args.task.now c.args.entries.now c.start_bound.result c.in_ok-judge_entries.ensures.ok c.start_bound.ensures.is
