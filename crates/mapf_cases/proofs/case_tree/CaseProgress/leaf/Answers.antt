use Rattle.mapf_cases.specs.Progress.{pending_by}
use Rattle.mapf_cases.proofs.ProgressLemmas.{after_leaf, on_ok}
use Rattle.mapf_cases.proofs.case_tree.CaseProgress.leaf.Goals as goal

pub returns : goal.returns
returns c =
    on_ok c.end.result (after_leaf c.args.self.now.is_over c.requires.going c.args.self.now.path (pending_by c.end.new.self)) c.end.ensures
