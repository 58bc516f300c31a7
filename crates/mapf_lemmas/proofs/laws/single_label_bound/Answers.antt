use Rattle.mapf_lemmas.proofs.SingleLemmas.{start_bound}
use Rattle.mapf_lemmas.proofs.laws.single_label_bound.Goals as goal

pub returns : goal.returns
returns c task entries path cost label sound is lawful costs obeys = start_bound task entries path cost sound lawful.is_path.steps obeys costs.rests lawful.start label is
