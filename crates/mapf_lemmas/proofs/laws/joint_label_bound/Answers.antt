use Rattle.mapf_lemmas.proofs.JointLemmas.{both_start}
use Rattle.mapf_lemmas.proofs.laws.joint_label_bound.Goals as goal

pub returns : goal.returns
returns c pair entries p q k d label sound is p_lawful p_costs p_obeys q_lawful q_costs q_obeys apart =
    both_start pair entries p q k d sound p_lawful.is_path.steps q_lawful.is_path.steps p_obeys q_obeys p_costs.rests q_costs.rests apart p_lawful.start q_lawful.start label is
