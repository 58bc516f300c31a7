use Rattle.std.proofs.Common.{◌≡◌, ℕ, List, length, map, sym, ap, subst, ◌∙◌, arith}
use Rattle.mapf_player.specs.declared.visit.Visit.{Visit}
use Rattle.mapf_player.specs.Dispatching.{Progress, IsOfValidPlan}
use Rattle.mapf_player.specs.Turns.{AreSortedTurns}
use Rattle.mapf_player.proofs.DispatchLemmas.{length-beginning, reached_first, zeros}
use Rattle.mapf_player.proofs.dispatch.Dispatch.new.Goals as goal

numbers_are : (c : goal.In_ok-resize) → c.resize.new.self.items ≡ map (λ (own : List Visit). 0) c.in_ok-visits.visits.items
numbers_are c = zeros c.in_ok-visits.visits.items c.len.result _ c.new-numbers.result.items c.resize.new.self.items c.new-numbers.ensures.items c.new-numbers.ensures.len (c.len.ensures ∙ sym c.deref.ensures.len ∙ ap length c.deref.ensures.value) c.in_ok-resize.ensures.items

pub returns-clause-beginning : goal.returns-clause-beginning
returns-clause-beginning c = ap (λ (ns : List ℕ). record { visits = c.in_ok-visits.visits.items; numbers = ns }) (numbers_are c)

pub invariant_of-result : goal.invariant_of-result
invariant_of-result c = (
  subst (λ (p : Progress). IsOfValidPlan p) (sym (returns-clause-beginning c)) (record {
    problem = c.requires.valid.0;
    plan = c.args.plan.now;
    valid = c.requires.valid.1;
    reached = reached_first c.args.plan.now c.in_ok-visits.visits.items c.in_ok-visits.ensures.visits;
  }),
  subst (λ vs. AreSortedTurns vs c.in_ok-turns.turns.items) c.deref.ensures.value c.in_ok-turns.ensures,
  omega (arith, ap length (numbers_are c) ∙ length-beginning c.in_ok-visits.visits.items, c.in_ok-visits.ensures.few),
)
