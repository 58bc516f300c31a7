use Rattle.std.proofs.Common.{ℕ, List, reverse, subst}
use Rattle.mapf_lemmas.specs.declared.constraint.PathConstraint.{PathConstraint}
use Rattle.mapf_lemmas.specs.Cases.{with_constraint}
use Rattle.mapf_cases.specs.Rules.{CanRemove, Indexes}
use Rattle.mapf_cases.proofs.StandingLemmas.{AreLayers-less_one, AreLayers-less_others, reverse_push}
use Rattle.mapf_cases.proofs.standing.Standing.take_last.Goals as goal

pub invariant_of-self-in-One : goal.invariant_of-self-in-One
invariant_of-self-in-One c =
    let own = c.in-One.own in
    let items = c.in-Some.ensures.items in
    let is = c.in-One.is in
    let are = rw (items, reverse_push, is) at c.self.invariant in
    AreLayers-less_one (reverse c.pop.new.self.items) c.self.inside.rules c.remove.new.self c.self.inside.clears c.self.inside.clears own c.in-One.is_new are
    (subst (λ k. (constraints : ℕ → List PathConstraint) → Indexes (with_constraint constraints own.agent k) c.self.inside.rules → CanRemove constraints own.agent k c.in-One.is_new → Indexes constraints c.remove.new.self) c.of.ensures c.remove.ensures)

pub invariant_of-self-in-Others : goal.invariant_of-self-in-Others
invariant_of-self-in-Others c =
    let items = c.in-Some.ensures.items in
    let is = c.in-Others.is in
    let are = rw (items, reverse_push, is) at c.self.invariant in
    AreLayers-less_others (reverse c.pop.new.self.items) c.self.inside.rules c.self.inside.rules c.self.inside.clears c.remove-in-Others.new.self c.in-Others.agent c.in-Others.cell c.in-Others.tick c.in-Others.before are c.remove-in-Others.ensures
