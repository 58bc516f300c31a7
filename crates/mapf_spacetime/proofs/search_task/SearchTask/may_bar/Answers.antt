use Rattle.std.proofs.Common.{◌+◌, refl, arith}
use Rattle.mapf_model.specs.declared.bar.Bar.TheVariants.{Cell, Move}
use Rattle.mapf_spacetime.proofs.search_task.SearchTask.may_bar.Goals as goal

pub returns-then-tick-self : goal.returns-then-tick-self
returns-then-tick-self g c = rw (← c.self.view_is) (λ none from to step. record {
  step = step;
  arrival = λ barred. let before = c.self.invariant.3 (Cell to (c.args.tick + 1)) barred in let end = c.if-tick-self.true in omega (arith, before, end);
  move = λ barred. let before = c.self.invariant.3 (Move from to c.args.tick) barred in let end = c.if-tick-self.true in omega (arith, before, end);
})

pub returns-else-may_bar_at : goal.returns-else-may_bar_at
returns-else-may_bar_at g c = rw (← c.self.view_is) (λ none from to step. record {
  step = step;
  arrival = λ barred. c.may_bar_at-else-may_bar_at.ensures none (Cell to (c.args.tick + 1)) barred refl;
  move = λ barred. c.may_bar_at.ensures c.if-may_bar_at.false (Move from to c.args.tick) barred refl;
})
