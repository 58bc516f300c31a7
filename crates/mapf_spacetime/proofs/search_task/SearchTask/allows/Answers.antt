use Rattle.std.proofs.Common.{◌+◌, refl}
use Rattle.mapf_model.specs.declared.bar.Bar.TheVariants.{Cell, Move}
use Rattle.mapf_spacetime.proofs.search_task.SearchTask.allows.Goals as goal

pub returns-then-not-may_bar_arrival-clause-yes : goal.returns-then-not-may_bar_arrival-clause-yes
returns-then-not-may_bar_arrival-clause-yes g c lets =
    let none = c.may_bar_arrival.ensures c.if-not-may_bar_arrival.true in
    rw (← c.self.view_is) (record {
      step = rw (← c.self.view_is) at c.requires.step;
      arrival = λ barred. none (Cell c.args.to (c.args.from.now.tick + 1)) barred refl;
      move = λ barred. none (Move c.args.from.now.cell c.args.to c.args.from.now.tick) barred refl;
    })
