use Rattle.mapf_checker.proofs.labels.entry_or.Goals as goal

pub returns-in-None : goal.returns-in-None
returns-in-None c = λ grid goal cell far. rw c.in-None.is (c.distance_label.ensures grid goal cell far)
