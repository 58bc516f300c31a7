use Rattle.std.proofs.Common.{rules, ◌≡◌, IfSome, ⊎_elim, ◌∙◌, sym, subst}
use Rattle.std.proofs.lemmas.Result.{err_from_is_err_and}
use Rattle.mapf_certificate.proofs.Windows.{err_passed}
use Rattle.mapf_player.specs.Events.{SpellsEvents}
use Rattle.mapf_player.specs.Replies.{reply_text}
use Rattle.mapf_app.specs.Dispatched.{ShowsReplies}
use Rattle.mapf_app.specs.Faults.{IsDispatching, IsOfMap}
use Rattle.mapf_app.specs.declared.planned.Planned.{Planned}
use Rattle.mapf_app.proofs.DispatchLemmas.{events_fault, not_map, plan_fault, shown}
use Rattle.mapf_app.proofs.PlannedLemmas.{handed_back, hands_on_device}
use Rattle.mapf_app.proofs.dispatch.run_dispatch.Goals as goal

pub returns-in_err-problem-clause-due : goal.returns-in_err-problem-clause-due
returns-in_err-problem-clause-due g c = λ problem paths agents due.
    hands_on_device _ _ _ (err_from_is_err_and c.from_residual.result c.from_residual.ensures.1)
    (⊎_elim (λ e. cc) (λ says. says) (c.in_err-problem.ensures.only (record { problem = problem; plan = paths }) due.planned))

pub returns-in_err-problem-clause-fault : goal.returns-in_err-problem-clause-fault
returns-in_err-problem-clause-fault g c =
    let map = g.M.Source.remaining c.args.map.now in
    let scen = g.S.Source.remaining c.args.scen.now in
    let plan = g.P.Source.remaining c.args.plan.now in
    let events = g.E.Source.remaining c.args.events.now in
    err_passed c.from_residual.result (IsDispatching map scen plan events c.args.k) c.in_err-problem.field-0.0 (err_from_is_err_and c.from_residual.result c.from_residual.ensures.1)
    (plan_fault map scen plan events c.args.k c.in_err-problem.field-0.0 c.in_err-problem.ensures.fault)

pub returns-in_err-agents-clause-due : goal.returns-in_err-agents-clause-due
returns-in_err-agents-clause-due g c = λ problem paths agents due.
    hands_on_device _ _ _ (err_from_is_err_and c.from_residual-in_err-agents.result c.from_residual-in_err-agents.ensures.1)
    (c.in_err-agents.ensures.only due.event_text agents due.events_told due.asked).1

pub returns-in_err-agents-clause-fault : goal.returns-in_err-agents-clause-fault
returns-in_err-agents-clause-fault g c =
    let map = g.M.Source.remaining c.args.map.now in
    let scen = g.S.Source.remaining c.args.scen.now in
    let plan = g.P.Source.remaining c.args.plan.now in
    let events = g.E.Source.remaining c.args.events.now in
    err_passed c.from_residual-in_err-agents.result (IsDispatching map scen plan events c.args.k) c.in_err-agents.field-0.0 (err_from_is_err_and c.from_residual-in_err-agents.result c.from_residual-in_err-agents.ensures.1)
    (events_fault map scen plan events c.args.k _ _ c.in_ok-problem.ensures.found c.in_err-agents.field-0.0 c.in_err-agents.ensures.fault)

pub returns-in_err-agents-clause-scen : goal.returns-in_err-agents-clause-scen
returns-in_err-agents-clause-scen g c = record {
  source = record { justified = search rules; reported = search rules; within = search rules };
  unpulled = err_passed c.from_residual-in_err-agents.result (λ fault. IsOfMap fault → c.read_planned.new.scen ≡ c.args.scen.now) c.in_err-agents.field-0.0 (err_from_is_err_and c.from_residual-in_err-agents.result c.from_residual-in_err-agents.ensures.1) (λ early. absurd (not_map (g.E.Source.remaining c.args.events.now) c.args.k c.in_err-agents.field-0.0 c.in_err-agents.ensures.fault early));
  order = c.in_ok-problem.ensures.scen.order;
}

pub returns-in_err-agents-clause-events : goal.returns-in_err-agents-clause-events
returns-in_err-agents-clause-events g c = record {
  source = record {
    justified = λ is. c.in_err-agents.ensures.unreadable (handed_back c.from_residual-in_err-agents.result c.in_err-agents.field-0.0 _ (err_from_is_err_and c.from_residual-in_err-agents.result c.from_residual-in_err-agents.ensures.1) is);
    reported = search rules;
    within = search rules;
  };
  unpulled = search rules;
  order = search rules;
}

pub returns-in-Ok-dispatch_all-clause-due : goal.returns-in-Ok-dispatch_all-clause-due
returns-in-Ok-dispatch_all-clause-due g c = λ problem paths agents due.
    let planned : Planned = record { problem = problem; plan = paths } in
    let same : c.in_ok-problem.field-0 ≡ planned = ⊎_elim (λ e. cc) (λ no. absurd no) (c.in_ok-problem.ensures.only planned due.planned) in
    let asked = c.as_slice.ensures.value ∙ (c.in_ok-agents.ensures.only due.event_text agents due.events_told due.asked).0 in
    let old = g.K.Sink.contents c.args.sink.now in
    let new = g.K.Sink.contents c.dispatch_all.new.sink in
    let (replies, are, wrote) = c.in-Ok-dispatch_all.ensures.text in
    let shows = shown c.in_ok-problem.field-0.problem c.in_ok-problem.field-0.plan c.as_slice.result.now c.in-Ok.dispatch c.in-Ok.ensures.visits c.in-Ok.ensures.beginning replies c.dispatch_all.new.dispatch are in
    subst (λ (p : Planned). ShowsReplies p.problem p.plan agents old new) same
    (subst (λ xs. ShowsReplies c.in_ok-problem.field-0.problem c.in_ok-problem.field-0.plan xs old new) asked (reply_text c.in_ok-problem.field-0.problem.grid.width c.as_slice.result.now replies, shows, rw c.grid.ensures at wrote))

pub returns-clause-text : goal.returns-clause-text
returns-clause-text g c =
    let (replies, after, are, n, low, wrote) = c.in-Err-dispatch_all.ensures.front in
    let shows = shown c.in_ok-problem.field-0.problem c.in_ok-problem.field-0.plan c.as_slice.result.now c.in-Ok.dispatch c.in-Ok.ensures.visits c.in-Ok.ensures.beginning replies after are in
    let events = g.E.Source.remaining c.args.events.now in
    let asked = subst (λ xs. IfSome events (λ bytes. SpellsEvents bytes c.args.k xs)) (sym c.as_slice.ensures.value) c.in_ok-agents.ensures.found in
    record {
      text = tt;
      reported = search rules;
      front = λ is. (
        reply_text c.in_ok-problem.field-0.problem.grid.width c.as_slice.result.now replies,
        n,
        record { problem = c.in_ok-problem.field-0.problem; paths = c.in_ok-problem.field-0.plan; planned = c.in_ok-problem.ensures.found; agents = c.as_slice.result.now; asked = asked; replied = shows },
        rw c.grid.ensures at wrote,
      );
      unwritten = search rules;
    }
