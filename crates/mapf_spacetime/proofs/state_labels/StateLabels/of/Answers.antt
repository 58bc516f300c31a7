use Rattle.std.proofs.Common.{sym, subst}
use Rattle.mapf_spacetime.specs.Listed.{AreEntriesOf, entry_for}
use Rattle.std.proofs.Common.{map}
use Rattle.mapf_spacetime.proofs.EntryLemmas.{listed_entries}
use Rattle.mapf_spacetime.proofs.state_labels.StateLabels.of.Goals as goal

pub returns : goal.returns
returns c = subst (λ l. AreEntriesOf c.args.states.now c.args.cost (map (entry_for c.args.cost) l)) (sym c.in_ok-from_slice.ensures.items) (listed_entries c.args.cost c.args.states.now c.requires)
