use Rattle.std.proofs.Common.{◌↔◌, ◌+◌, nat_lt, false, IsTrue, subst}
use Rattle.mapf_lemmas.specs.SingleLabels.{Task}
use Rattle.mapf_single_labels.specs.TaskConstraints.{IsLeastMost}
use Rattle.mapf_single_labels.specs.Tasks.{IsTooLate}
use Rattle.mapf_single_labels.proofs.TaskLemmas.{late_none, late_some}
use Rattle.mapf_single_labels.proofs.task.SingleTask.is_too_late.Goals as goal

pub returns-in-None-default : goal.returns-in-None-default
returns-in-None-default c =
    let task : Task = record { grid = c.self.inside.grid.now; list = c.self.inside.prices.now; agent = c.self.inside.agent; constraints = c.self.inside.constraints.now } in
    let none = subst (IsLeastMost c.self.inside.constraints.now) c.in-None-default.is-0 c.most.ensures in
    subst (λ t. IsTrue false ↔ IsTooLate t c.args.cell c.args.tick) c.self.view_is (λ no. absurd cc, λ late. absurd (late_none task c.args.cell c.args.tick none late))

pub returns-in-Some-Some : goal.returns-in-Some-Some
returns-in-Some-Some c =
    let task : Task = record { grid = c.self.inside.grid.now; list = c.self.inside.prices.now; agent = c.self.inside.agent; constraints = c.self.inside.constraints.now } in
    subst (λ t. IsTrue (nat_lt c.in-Some-Some.most (c.args.tick + c.in-Some-Some.distance)) ↔ IsTooLate t c.args.cell c.args.tick) c.self.view_is
    (late_some task c.args.cell c.args.tick c.in-Some-Some.most c.in-Some-Some.distance c.in-Some-Some.ensures (rw c.self.invariant.1 at (rw c.self.invariant.0 at c.in-Some-Some.ensures'.some)))
