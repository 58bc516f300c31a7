use Rattle.std.proofs.Common.{sym, ◌∙◌, arith}
use Rattle.mapf_single_labels.specs.Ranges.{IsPricedEntryInRange, greatest_entry_label, greatest_label}
use Rattle.mapf_single_labels.proofs.EntryLemmas.{listed_all}
use Rattle.mapf_single_labels.proofs.TaskLemmas.{up_to_more}
use Rattle.mapf_single_labels.proofs.task.SingleTask.label.Goals as goal

pub returns-in-Some-clause-small : goal.returns-in-Some-clause-small
returns-in-Some-clause-small c =
    let range = listed_all IsPricedEntryInRange c.args.entries.now c.args.cell c.args.marks.now.tick c.in-Some.label c.requires.range (sym c.entry.ensures ∙ c.in-Some.is) in
    up_to_more c.in-Some.label greatest_entry_label greatest_label range.1 (omega arith)
