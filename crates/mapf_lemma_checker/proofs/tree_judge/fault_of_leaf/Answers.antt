use Rattle.std.proofs.Common.{inl, refl}
use Rattle.mapf_lemma_checker.proofs.tree_judge.fault_of_leaf.Goals as goal

pub returns-in-TooWeak : goal.returns-in-TooWeak
returns-in-TooWeak c = (c.args.line, inl refl)
