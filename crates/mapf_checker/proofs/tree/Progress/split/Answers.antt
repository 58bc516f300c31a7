use Rattle.std.proofs.Common.{length, refl, sym, subst, inl}
use Rattle.std.proofs.lemmas.Bool.{iff_false}
use Rattle.mapf_checker.specs.Branch.{place_after, place_of}
use Rattle.mapf_checker.specs.Progress.{here_of}
use Rattle.mapf_checker.specs.Starts.{AreOfFirst, KnowEntries}
use Rattle.mapf_checker.proofs.TreeLemmas.{changes_of_first, changes_know, contexts_after_split}
use Rattle.mapf_checker.proofs.tree.Progress.split.Goals as goal

pub returns-then-not-is_proper_split-clause-refused : goal.returns-then-not-is_proper_split-clause-refused
returns-then-not-is_proper_split-clause-refused c claim = inl (c.args.line, refl, iff_false c.is_proper_split.ensures c.if-not-is_proper_split.true)

pub split-requires-clause-agents : goal.split-requires-clause-agents
split-requires-clause-agents c =
    let problem = c.args.problem.now in
    let changes = c.in_ok-changes.changes.items in
    subst (λ count. AreOfFirst count changes) (sym c.in_ok-changes.ensures.ready.agents)
    (changes_of_first problem (here_of c.args.self.now).entries (length problem.agents) c.args.blocks.now changes c.in_ok-changes.ensures.proper.1 c.in_ok-changes.ensures.changes)

pub split-requires-clause-entries : goal.split-requires-clause-entries
split-requires-clause-entries c =
    let changes = c.in_ok-changes.changes.items in
    subst (λ edges. KnowEntries (place_after edges).here.entries changes) (sym c.changes.ensures.edges)
    (changes_know c.args.problem.now (here_of c.args.self.now).entries c.args.blocks.now changes c.in_ok-changes.ensures.changes)

pub returns-clause-pending : goal.returns-clause-pending
returns-clause-pending c =
    let self = c.args.self.now in
    rw c.changes.ensures.over
    (contexts_after_split c.args.problem.now c.args.conflict.now c.args.blocks.now c.in_ok-changes.changes.items self.is_over (place_of self.branch) (place_of c.split.new.self) c.requires.going
    c.in_ok-changes.ensures.changes (rw c.changes.ensures.edges at c.in-Ok.ensures.split))
