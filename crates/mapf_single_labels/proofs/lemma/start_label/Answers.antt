use Rattle.std.proofs.Common.{sym, ◌∙◌, arith}
use Rattle.mapf_single_labels.specs.Ranges.{IsPricedEntryInRange, greatest_entry_label, greatest_label}
use Rattle.mapf_single_labels.proofs.EntryLemmas.{listed_all}
use Rattle.mapf_single_labels.proofs.TaskLemmas.{up_to_more}
use Rattle.mapf_single_labels.proofs.lemma.start_label.Goals as goal

pub returns-in-Some-clause-small : goal.returns-in-Some-clause-small
returns-in-Some-clause-small c =
    let range = listed_all IsPricedEntryInRange c.args.entries.now c.agent-start.result.start 0 c.in-Some.label c.requires.range (sym c.entry_at.ensures ∙ c.in-Some.is) in
    up_to_more c.in-Some.label greatest_entry_label greatest_label range.1 (omega arith)

pub returns-in-Some-clause-plain : goal.returns-in-Some-clause-plain
returns-in-Some-clause-plain c unit =
    let range = listed_all IsPricedEntryInRange c.args.entries.now c.agent-start.result.start 0 c.in-Some.label c.requires.range (sym c.entry_at.ensures ∙ c.in-Some.is) in
    range.1
