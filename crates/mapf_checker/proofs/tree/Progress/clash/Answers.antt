use Rattle.std.proofs.Common.{refl}
use Rattle.std.proofs.lemmas.Bool.{iff_false}
use Rattle.mapf_checker.specs.Branch.{place_of}
use Rattle.mapf_checker.specs.Progress.{pending_by}
use Rattle.mapf_checker.proofs.TreeLemmas.{on_ok, contexts_after_clash}
use Rattle.mapf_checker.proofs.tree.Progress.clash.Goals as goal

pub returns-then-not-share_goal-clause-refused : goal.returns-then-not-share_goal-clause-refused
returns-then-not-share_goal-clause-refused c claim = (c.args.line, refl, iff_false c.share_goal.ensures c.if-not-share_goal.true)

pub returns-clause-pending : goal.returns-clause-pending
returns-clause-pending c =
    on_ok c.end.result (contexts_after_clash c.args.i c.args.j c.args.self.now.is_over (place_of c.args.self.now.branch) (pending_by c.end.new.self) c.requires.going) c.end.ensures.pending
