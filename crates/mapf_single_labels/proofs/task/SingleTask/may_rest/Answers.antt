use Rattle.std.proofs.Common.{◌↔◌, not, IsTrue, sym, ◌∙◌, subst}
use Rattle.std.proofs.lemmas.Bool.{true≢false, eqb-true, eqb-false, leb-true, leb-false}
use Rattle.mapf_lemmas.specs.SingleLabels.{Task, MayRest}
use Rattle.mapf_single_labels.proofs.TaskLemmas.{no_rest_yet, may_rest_if}
use Rattle.mapf_single_labels.proofs.task.SingleTask.may_rest.Goals as goal
use Rattle.mapf_single_labels.proofs.task.SingleTask.may_rest.Goals.{then-eq, else-eq}

pub returns-then-least-tick : goal.returns-then-least-tick
returns-then-least-tick c =
    let task : Task = record { grid = c.self.inside.grid.now; list = c.self.inside.prices.now; agent = c.self.inside.agent; constraints = c.self.inside.constraints.now } in
    subst (λ t. IsTrue (not c.forbids_from.result) ↔ MayRest t c.args.cell c.args.tick) c.self.view_is
    (elim c.if-eq.branch [
      | then-eq w ↦ may_rest_if task c.args.cell c.args.tick c.forbids_from.result (eqb-true _ _ (sym c.eq.ensures ∙ w.if-eq.true)) (rw w.least.ensures at (leb-true w.least.result c.args.tick (sym w.value-is ∙ c.if-least-tick.true))) c.forbids_from.ensures
      | else-eq w ↦ absurd (true≢false (sym c.if-least-tick.true ∙ w.value-is ∙ w.if-eq.false))
    ])

pub returns-else-least-tick : goal.returns-else-least-tick
returns-else-least-tick c =
    let task : Task = record { grid = c.self.inside.grid.now; list = c.self.inside.prices.now; agent = c.self.inside.agent; constraints = c.self.inside.constraints.now } in
    subst (λ t. IsTrue c.if-eq.value ↔ MayRest t c.args.cell c.args.tick) c.self.view_is (
      λ yes. absurd (true≢false (sym yes ∙ c.if-least-tick.false)),
      λ may. absurd (elim c.if-eq.branch [
        | then-eq w ↦ no_rest_yet task c.args.cell c.args.tick (rw w.least.ensures at (leb-false w.least.result c.args.tick (sym w.value-is ∙ c.if-least-tick.false))) may
        | else-eq w ↦ eqb-false _ _ (sym c.eq.ensures ∙ w.if-eq.false) may.at_goal
      ]),
    )
