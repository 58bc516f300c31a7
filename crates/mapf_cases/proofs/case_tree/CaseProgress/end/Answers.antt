use Rattle.mapf_cases.proofs.ProgressLemmas.{ended}
use Rattle.mapf_cases.proofs.case_tree.CaseProgress.end.Goals as goal

pub returns : goal.returns
returns c = ended c.args.self.now.path c.next.new.self c.in_ok-more.more c.in_ok-more.ensures
