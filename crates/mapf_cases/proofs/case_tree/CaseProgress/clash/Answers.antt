use Rattle.mapf_cases.specs.Progress.{pending_by}
use Rattle.mapf_cases.proofs.ProgressLemmas.{after_clash}
use Rattle.mapf_cases.proofs.case_tree.CaseProgress.clash.Goals as goal

pub returns-clause-pending : goal.returns-clause-pending
returns-clause-pending c =
    after_clash c.args.self.now.is_over c.requires.going c.args.self.now.path (pending_by c.end.new.self) c.in-Ok.ensures c.args.problem.now c.args.i c.args.j
