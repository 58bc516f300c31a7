use Rattle.mapf_lemmas.proofs.CaseLemmas.{tree_true}
use Rattle.mapf_lemmas.proofs.laws.trees_show_truth.Goals as goal

pub returns : goal.returns
returns c scope target constraints tree plan costs are known shows costed obey = tree_true scope plan costs costed known are target tree constraints obey shows
