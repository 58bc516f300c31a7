use Rattle.mapf_model.proofs.BarLemmas.{Satisfies-same, AreSound-same}
use Rattle.mapf_model.proofs.laws.only_membership_counts.Goals as goal

pub returns : goal.returns
returns c xs ys same = record { obeys = Satisfies-same xs ys same; sound = AreSound-same xs ys same }
