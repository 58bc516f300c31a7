use Rattle.std.proofs.Common.{refl, subst, arith}
use Rattle.std.proofs.lemmas.Bool.Decides.{nat_tests}
use Rattle.mapf_constraints.specs.BarSets.{IsLastOn}
use Rattle.mapf_model.specs.declared.bar.Bar.TheVariants.{Move}
use Rattle.mapf_spacetime.proofs.search_task.SearchTask.may_rest_from.Goals as goal

pub returns-in-Some-clause-yes : goal.returns-in-Some-clause-yes
returns-in-Some-clause-yes g c =
    let last = subst (IsLastOn (g.B.BarTable.bars c.self.inside.bars.now) c.self.inside.agent.goal) c.in-Some.is c.self.invariant.5 in
    rw (← c.self.view_is) (λ yes. record {
      stay = λ later after barred. (let le = last.1 later barred in grind (arith, nat_tests));
      wait = λ later after barred. c.self.invariant.2 (Move _ _ later) barred refl;
    })

pub returns-in-Some-clause-no : goal.returns-in-Some-clause-no
returns-in-Some-clause-no g c =
    let last = subst (IsLastOn (g.B.BarTable.bars c.self.inside.bars.now) c.self.inside.agent.goal) c.in-Some.is c.self.invariant.5 in
    rw (← c.self.view_is) (λ no. (c.in-Some.last, grind (arith, nat_tests), last.0))

pub returns-in-None-clause-yes : goal.returns-in-None-clause-yes
returns-in-None-clause-yes g c =
    let last = subst (IsLastOn (g.B.BarTable.bars c.self.inside.bars.now) c.self.inside.agent.goal) c.in-None.is c.self.invariant.5 in
    rw (← c.self.view_is) (λ yes. record {
      stay = λ later after barred. last later barred;
      wait = λ later after barred. c.self.invariant.2 (Move _ _ later) barred refl;
    })
