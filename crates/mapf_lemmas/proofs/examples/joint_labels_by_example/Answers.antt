use Rattle.mapf_lemmas.proofs.JointExamples.{alone_avoids_the_others_goal, alone_is_never_in_the_others_goal}
use Rattle.mapf_lemmas.proofs.examples.joint_labels_by_example.Goals as goal

pub returns-clause-alone : goal.returns-clause-alone
returns-clause-alone c = alone_avoids_the_others_goal

pub returns-clause-in_goal : goal.returns-clause-in_goal
returns-clause-in_goal c = alone_is_never_in_the_others_goal
