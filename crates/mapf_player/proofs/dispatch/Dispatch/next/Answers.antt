use Rattle.std.proofs.Common.{Some, length, arith, sym, ap, subst, ◌∙◌}
use Rattle.mapf_player.specs.declared.visit.Visit.{Visit}
use Rattle.mapf_player.specs.Dispatching.{Progress, IsOfValidPlan}
use Rattle.mapf_player.proofs.DueLemmas.{current_visit, of_valid_progress, visits_within, own_visits, next_is, next_none}
use Rattle.mapf_player.proofs.dispatch.Dispatch.next.Goals as goal

pub bounds-visits-agent : goal.bounds-visits-agent
bounds-visits-agent c =
    visits_within c.args.self.now c.as_slice-visits.result.now (subst (λ (p : Progress). IsOfValidPlan p) c.self.view_is c.self.invariant.0) (c.as_slice-visits.ensures.value ∙ ap (λ (p : Progress). p.visits) c.self.view_is)
    c.args.agent c.args.number c.requires

pub returns-then-place-own-clause-next : goal.returns-then-place-own-clause-next
returns-then-place-own-clause-next c =
    let same = c.as_slice-visits.ensures.value ∙ ap (λ (p : Progress). p.visits) c.self.view_is in
    let within = visits_within c.args.self.now c.as_slice-visits.result.now (subst (λ (p : Progress). IsOfValidPlan p) c.self.view_is c.self.invariant.0) same c.args.agent c.args.number c.requires in
    let own_is = own_visits c.args.self.now c.as_slice-visits.result.now same c.args.agent c.index-visits-agent.result within c.index-visits-agent.is in
    next_is c.args.self.now c.args.agent c.args.number c.as_slice-own.result.now c.index-own-place.result c.requires (own_is ∙ ap Some (sym c.as_slice-own.ensures.value)) c.if-place-own.true c.index-own-place.is

pub returns-then-place-own-clause-current : goal.returns-then-place-own-clause-current
returns-then-place-own-clause-current c =
    let of_valid = subst (λ (p : Progress). IsOfValidPlan p) c.self.view_is c.self.invariant.0 in
    let same = c.as_slice-visits.ensures.value ∙ ap (λ (p : Progress). p.visits) c.self.view_is in
    let within = visits_within c.args.self.now c.as_slice-visits.result.now of_valid same c.args.agent c.args.number c.requires in
    let own_is = own_visits c.args.self.now c.as_slice-visits.result.now same c.args.agent c.index-visits-agent.result within c.index-visits-agent.is in
    let current = current_visit c.args.self.now (of_valid_progress c.args.self.now of_valid).0 c.args.agent c.args.number c.requires c.index-visits-agent.result own_is in
    (current.0, current.1)

pub returns-else-place-own-clause-next : goal.returns-else-place-own-clause-next
returns-else-place-own-clause-next c =
    let same = c.as_slice-visits.ensures.value ∙ ap (λ (p : Progress). p.visits) c.self.view_is in
    let within = visits_within c.args.self.now c.as_slice-visits.result.now (subst (λ (p : Progress). IsOfValidPlan p) c.self.view_is c.self.invariant.0) same c.args.agent c.args.number c.requires in
    let own_is = own_visits c.args.self.now c.as_slice-visits.result.now same c.args.agent c.index-visits-agent.result within c.index-visits-agent.is in
    next_none c.args.self.now c.args.agent c.args.number c.as_slice-own.result.now c.requires (own_is ∙ ap Some (sym c.as_slice-own.ensures.value)) c.if-place-own.false

pub returns-else-place-own-clause-current : goal.returns-else-place-own-clause-current
returns-else-place-own-clause-current c =
    let of_valid = subst (λ (p : Progress). IsOfValidPlan p) c.self.view_is c.self.invariant.0 in
    let same = c.as_slice-visits.ensures.value ∙ ap (λ (p : Progress). p.visits) c.self.view_is in
    let within = visits_within c.args.self.now c.as_slice-visits.result.now of_valid same c.args.agent c.args.number c.requires in
    let own_is = own_visits c.args.self.now c.as_slice-visits.result.now same c.args.agent c.index-visits-agent.result within c.index-visits-agent.is in
    let current = current_visit c.args.self.now (of_valid_progress c.args.self.now of_valid).0 c.args.agent c.args.number c.requires c.index-visits-agent.result own_is in
    (current.0, current.1)

pub returns-else-place-own-clause-small : goal.returns-else-place-own-clause-small
returns-else-place-own-clause-small c =
    let of_valid = subst (λ (p : Progress). IsOfValidPlan p) c.self.view_is c.self.invariant.0 in
    let same = c.as_slice-visits.ensures.value ∙ ap (λ (p : Progress). p.visits) c.self.view_is in
    let within = visits_within c.args.self.now c.as_slice-visits.result.now of_valid same c.args.agent c.args.number c.requires in
    let own_is = own_visits c.args.self.now c.as_slice-visits.result.now same c.args.agent c.index-visits-agent.result within c.index-visits-agent.is in
    let current = current_visit c.args.self.now (of_valid_progress c.args.self.now of_valid).0 c.args.agent c.args.number c.requires c.index-visits-agent.result own_is in
    let low = current.2 in
    let few = c.as_slice-own.ensures.few in
    let size = ap (length {A = Visit}) c.as_slice-own.ensures.value in
    omega arith
