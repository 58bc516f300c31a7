use Rattle.mapf_checker.specs.Branch.{place_of}
use Rattle.mapf_checker.specs.Progress.{pending_by}
use Rattle.mapf_checker.proofs.TreeLemmas.{on_ok, contexts_after_leaf}
use Rattle.mapf_checker.proofs.tree.Progress.leaf.Goals as goal

pub returns-in-Err-clause-refused : goal.returns-in-Err-clause-refused
returns-in-Err-clause-refused c = rw (c.see_to_distances.ensures.branch, c.see_to_blocks.ensures.edges) at c.in-Err.ensures.err

pub returns-clause-pending : goal.returns-clause-pending
returns-clause-pending c =
    on_ok c.end.result (contexts_after_leaf c.args.blocks.now c.args.self.now.is_over (place_of c.args.self.now.branch) (pending_by c.end.new.self) c.requires.going) (rw (c.see_to_distances.ensures.branch, c.see_to_blocks.ensures.edges) at c.end.ensures.pending)

pub returns-clause-good : goal.returns-clause-good
returns-clause-good c = on_ok c.end.result (λ _. rw (c.see_to_distances.ensures.branch, c.see_to_blocks.ensures.edges) at c.in_default.ensures.ok) c.end.ensures.pending

pub judge_leaf-requires-clause-ready : goal.judge_leaf-requires-clause-ready
judge_leaf-requires-clause-ready c = rw (c.see_to_distances.ensures.tables, c.see_to_distances.ensures.branch) c.in_ok-see_to_blocks.ensures.blocks

pub judge_leaf-requires-clause-marks : goal.judge_leaf-requires-clause-marks
judge_leaf-requires-clause-marks c = rw c.see_to_distances.ensures.marks c.in_ok-see_to_blocks.ensures.marks
