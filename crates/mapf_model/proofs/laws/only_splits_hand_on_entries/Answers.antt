use Rattle.mapf_model.proofs.AlikeLemmas.{only_splits_hand_on_entries}
use Rattle.mapf_model.proofs.laws.only_splits_hand_on_entries.Goals as goal

pub returns : goal.returns
returns c = only_splits_hand_on_entries
