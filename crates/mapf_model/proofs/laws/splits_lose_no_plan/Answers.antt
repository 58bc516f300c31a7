use Rattle.mapf_model.specs.Tree.{root}
use Rattle.mapf_model.proofs.SplitLemmas.{some_end_obeyed, AllSatisfy-root}
use Rattle.mapf_model.proofs.laws.splits_lose_no_plan.Goals as goal

pub returns : goal.returns
returns c problem tree plan proper valid = some_end_obeyed problem plan valid tree root proper (AllSatisfy-root plan)
