use Rattle.mapf_joint_labels.specs.declared.two.TwoFault.TheVariants.{First, Second, Joint}
use Rattle.mapf_joint_labels.proofs.TwoLemmas.{shows_bound, shows_nothing}
use Rattle.mapf_joint_labels.proofs.two.judge_two.Goals as goal

pub returns-in-Err-clause-nothing : goal.returns-in-Err-clause-nothing
returns-in-Err-clause-nothing c = shows_nothing c.args.pair.now c.requires.pair (First c.in-Err.place) c.in-Err.ensures.err

pub returns-in-Err-judge_entries-clause-nothing : goal.returns-in-Err-judge_entries-clause-nothing
returns-in-Err-judge_entries-clause-nothing c = shows_nothing c.args.pair.now c.requires.pair (Second c.in-Err-judge_entries.place) (c.in_default.ensures.ok, c.in-Err-judge_entries.ensures.err)

pub returns-in-Err-judge_joint_entries-clause-nothing : goal.returns-in-Err-judge_joint_entries-clause-nothing
returns-in-Err-judge_joint_entries-clause-nothing c = shows_nothing c.args.pair.now c.requires.pair (Joint c.in-Err-judge_joint_entries.place) (c.in_default.ensures.ok, c.in_default-judge_entries.ensures.ok, c.in-Err-judge_joint_entries.ensures.err)

pub returns-in-Ok-clause-shown : goal.returns-in-Ok-clause-shown
returns-in-Ok-clause-shown c = shows_bound c.args.pair.now c.requires.pair c.start_bound.result c.start_bound.ensures.is c.in_default.ensures.ok c.in_default-judge_entries.ensures.ok c.in-Ok.ensures.ok
