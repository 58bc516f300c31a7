use Rattle.mapf_lemmas.proofs.JointLemmas.{closed_refuted}
use Rattle.mapf_lemmas.proofs.laws.closed_means_none.Goals as goal

pub returns : goal.returns
returns c grid first second cells p q closed p_lawful q_lawful apart = closed_refuted grid first second cells p q closed p_lawful q_lawful apart
