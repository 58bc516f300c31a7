use Rattle.std.proofs.Common.{Some, refl, ap}
use Rattle.mapf_model.specs.declared.bar.Bar.TheVariants.{Cell, Move}
use Rattle.mapf_single_labels.proofs.ConstraintLemmas.{bar_added, clear_added, most_added, least_added}
use Rattle.mapf_single_labels.proofs.constraint_index.ConstraintIndex.add.Goals as goal

pub returns-in_ok-insert-in-NotAt-clause-added : goal.returns-in_ok-insert-in-NotAt-clause-added
returns-in_ok-insert-in-NotAt-clause-added c listed indexed =
    rw c.in-NotAt.is (bar_added listed (Cell c.in-NotAt.cell c.in-NotAt.tick) c.args.self.now _ indexed c.in_ok-insert-in-NotAt.ensures.updates refl refl refl)

pub returns-in_ok-insert-in-NotMove-clause-added : goal.returns-in_ok-insert-in-NotMove-clause-added
returns-in_ok-insert-in-NotMove-clause-added c listed indexed =
    rw c.in-NotMove.is (bar_added listed (Move c.in-NotMove.from c.in-NotMove.to c.in-NotMove.tick) c.args.self.now _ indexed c.in_ok-insert-in-NotMove.ensures.updates refl refl refl)

pub returns-in_ok-insert-in-Clear-clause-added : goal.returns-in_ok-insert-in-Clear-clause-added
returns-in_ok-insert-in-Clear-clause-added c listed indexed =
    rw c.in-Clear.is (clear_added listed c.in-Clear.cell c.in-Clear.tick c.first_clear.result c.args.self.now _ indexed c.first_clear.ensures (rw c.least_of-first.ensures at c.in_ok-insert-in-Clear.ensures.updates) refl refl refl)

pub returns-in-Most-clause-added : goal.returns-in-Most-clause-added
returns-in-Most-clause-added c listed indexed =
    rw c.in-Most.is (most_added listed c.in-Most.ticks c.args.self.now _ indexed (ap Some c.least_of.ensures) refl refl refl)

pub returns-in-Least-clause-added : goal.returns-in-Least-clause-added
returns-in-Least-clause-added c listed indexed =
    rw c.in-Least.is (least_added listed c.in-Least.ticks c.args.self.now _ indexed c.max-self.ensures refl refl refl)
