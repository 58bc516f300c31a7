use Rattle.std.proofs.Common.{refl, subst, arith, rules}
use Rattle.mapf_model.specs.declared.bar.Bar.TheVariants.{Cell, Move}
use Rattle.mapf_constraints.specs.BarSets.{IsLastOn}
use Rattle.mapf_spacetime.proofs.search_task.SearchTask.rest.Goals as goal

pub overflow_add-result : goal.overflow_add-result
overflow_add-result g c =
    let last = subst (IsLastOn (g.B.BarTable.bars c.self.inside.bars.now) c.self.inside.agent.goal) c.in-Some.is c.self.invariant.5 in
    let before = c.self.invariant.3 (Cell c.self.inside.agent.goal c.in-Some.last) last.0 in
    let early = c.self.invariant.4 in
    search rules

pub returns-in-Some-clause-early : goal.returns-in-Some-clause-early
returns-in-Some-clause-early g c =
    let last = subst (IsLastOn (g.B.BarTable.bars c.self.inside.bars.now) c.self.inside.agent.goal) c.in-Some.is c.self.invariant.5 in
    rw (← c.self.view_is) (λ bound above. let before = above (Cell c.self.inside.agent.goal c.in-Some.last) last.0 in omega arith)

pub returns-in-Some-clause-rest : goal.returns-in-Some-clause-rest
returns-in-Some-clause-rest g c =
    let last = subst (IsLastOn (g.B.BarTable.bars c.self.inside.bars.now) c.self.inside.agent.goal) c.in-Some.is c.self.invariant.5 in
    rw (← c.self.view_is) (λ tick late. record {
      stay = λ later after barred. (let le = last.1 later barred in omega arith);
      wait = λ later after barred. c.self.invariant.2 (Move _ _ later) barred refl;
    })

pub returns-in-None-clause-rest : goal.returns-in-None-clause-rest
returns-in-None-clause-rest g c =
    let last = subst (IsLastOn (g.B.BarTable.bars c.self.inside.bars.now) c.self.inside.agent.goal) c.in-None.is c.self.invariant.5 in
    rw (← c.self.view_is) (λ tick late. record {
      stay = λ later after barred. last later barred;
      wait = λ later after barred. c.self.invariant.2 (Move _ _ later) barred refl;
    })
