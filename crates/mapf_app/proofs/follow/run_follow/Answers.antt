use Rattle.std.specs.Prelude.{⊤}
use Rattle.std.proofs.Common.{rules, ◌≡◌, Result, Ok, Err, ⊎_elim, refl}
use Rattle.std.proofs.lemmas.Result.{err_from_is_err_and}
use Rattle.mapf_certificate.proofs.Windows.{err_passed}
use Rattle.mapf_app.specs.Followed.{Follows, IsFollowing}
use Rattle.mapf_player.specs.declared.follow_fault.FollowFault.{FollowFault}
use Rattle.mapf_app.proofs.FollowedLemmas.{ended_so, followed_truly, following_end, hands_on_input, inner_end, none_of, not_of_map, not_of_plan, not_of_scen, of_requests, on_grid, passes_stays, past_map, past_problem, planning_fault, replies_end, replies_told, requests_end, requests_told}
use Rattle.mapf_app.proofs.follow.run_follow.Goals as goal

pub returns-in_err-problem-clause-followed : goal.returns-in_err-problem-clause-followed
returns-in_err-problem-clause-followed g c =
    let map = g.M.Source.remaining c.args.map.now in
    let scen = g.S.Source.remaining c.args.scen.now in
    let plan = g.P.Source.remaining c.args.plan.now in
    let there : (c.args.requests.now ≡ c.args.requests.now) × (c.args.sink.now ≡ c.args.sink.now) = (refl, refl) in
    let requests = g.R.Source.remaining c.args.requests.now in
    let sink = g.K.Sink.contents c.args.sink.now in
    passes_stays map scen plan c.args.k (Follows map scen plan c.args.k requests requests sink sink) _ c.from_residual.result c.in_err-problem.field-0.0 (err_from_is_err_and c.from_residual.result c.from_residual.ensures.1) c.in_err-problem.ensures.fault there

pub returns-in_err-problem-clause-due : goal.returns-in_err-problem-clause-due
returns-in_err-problem-clause-due g c = λ problem paths due.
    hands_on_input c.from_residual.result c.in_err-problem.field-0.0 (err_from_is_err_and c.from_residual.result c.from_residual.ensures.1)
    (⊎_elim (λ e. cc) (λ says. says) (c.in_err-problem.ensures.only (record { problem = problem; plan = paths }) due))

pub returns-in_err-problem-clause-fault : goal.returns-in_err-problem-clause-fault
returns-in_err-problem-clause-fault g c =
    let map = g.M.Source.remaining c.args.map.now in
    let scen = g.S.Source.remaining c.args.scen.now in
    let plan = g.P.Source.remaining c.args.plan.now in
    err_passed c.from_residual.result (IsFollowing map scen plan c.args.k) c.in_err-problem.field-0.0 (err_from_is_err_and c.from_residual.result c.from_residual.ensures.1)
    (planning_fault map scen plan c.args.k c.in_err-problem.field-0.0 c.in_err-problem.ensures.fault)

pub returns-in-Ok-follow-clause-followed : goal.returns-in-Ok-follow-clause-followed
returns-in-Ok-follow-clause-followed g c =
    let map = g.M.Source.remaining c.args.map.now in
    let scen = g.S.Source.remaining c.args.scen.now in
    let plan = g.P.Source.remaining c.args.plan.now in
    let requests = g.R.Source.remaining c.args.requests.now in
    let left = g.R.Source.remaining c.follow.new.requests in
    let old = g.K.Sink.contents c.args.sink.now in
    let new = g.K.Sink.contents c.follow.new.sink in
    let end : Result ⊤ FollowFault = Ok tt in
    let (came, written, consumed, wrote, outcome) = c.in-Ok-follow.ensures.outcome in
    let shown = on_grid {T = ⊤} c.grid.result.now c.in_ok-problem.field-0.problem.grid c.in-Ok.dispatch left came written end c.grid.ensures outcome in
    followed_truly map scen plan c.args.k requests left old new c.in_ok-problem.field-0.problem c.in_ok-problem.field-0.plan c.in_ok-problem.ensures.found c.in-Ok.dispatch c.in-Ok.ensures.visits c.in-Ok.ensures.beginning came written consumed wrote end shown

pub returns-clause-followed : goal.returns-clause-followed
returns-clause-followed g c =
    let map = g.M.Source.remaining c.args.map.now in
    let scen = g.S.Source.remaining c.args.scen.now in
    let plan = g.P.Source.remaining c.args.plan.now in
    let requests = g.R.Source.remaining c.args.requests.now in
    let left = g.R.Source.remaining c.follow.new.requests in
    let old = g.K.Sink.contents c.args.sink.now in
    let new = g.K.Sink.contents c.follow.new.sink in
    let end : Result ⊤ FollowFault = Err c.in-Err-follow.end in
    let (came, written, consumed, wrote, outcome) = c.in-Err-follow.ensures.outcome in
    let shown = on_grid {T = ⊤} c.grid.result.now c.in_ok-problem.field-0.problem.grid c.in-Ok.dispatch left came written end c.grid.ensures outcome in
    let follows : Follows map scen plan c.args.k requests left old new end = followed_truly map scen plan c.args.k requests left old new c.in_ok-problem.field-0.problem c.in_ok-problem.field-0.plan c.in_ok-problem.ensures.found c.in-Ok.dispatch c.in-Ok.ensures.visits c.in-Ok.ensures.beginning came written consumed wrote end shown in
    rw c.fault_of_end.ensures
    (ended_so {T = ⊤} (Follows {T = ⊤} map scen plan c.args.k requests left old new) _ c.in-Err-follow.end follows)

pub returns-clause-due : goal.returns-clause-due
returns-clause-due g c = λ problem paths due. rw c.fault_of_end.ensures (of_requests c.in-Err-follow.end)

pub returns-clause-inner : goal.returns-clause-inner
returns-clause-inner g c =
    let (came, written, consumed, wrote, outcome) = c.in-Err-follow.ensures.outcome in
    rw c.fault_of_end.ensures (inner_end c.grid.result.now.width c.in-Ok.dispatch (g.R.Source.remaining c.follow.new.requests) came written c.in-Err-follow.end outcome)

pub returns-clause-requests : goal.returns-clause-requests
returns-clause-requests g c =
    rw c.fault_of_end.ensures (λ is. c.in-Err-follow.ensures.requests (requests_end c.in-Err-follow.end is))

pub returns-clause-failed : goal.returns-clause-failed
returns-clause-failed g c =
    rw c.fault_of_end.ensures (λ failed. requests_told c.in-Err-follow.end (c.in-Err-follow.ensures.failed failed))

pub returns-clause-sink : goal.returns-clause-sink
returns-clause-sink g c =
    rw c.fault_of_end.ensures (λ is. c.in-Err-follow.ensures.sink.0 (replies_end c.in-Err-follow.end is), λ failed. replies_told c.in-Err-follow.end (c.in-Err-follow.ensures.sink.1 failed))

pub returns-clause-fault : goal.returns-clause-fault
returns-clause-fault g c =
    let map = g.M.Source.remaining c.args.map.now in
    let scen = g.S.Source.remaining c.args.scen.now in
    let plan = g.P.Source.remaining c.args.plan.now in
    rw c.fault_of_end.ensures (following_end map scen plan c.args.k c.in_ok-problem.field-0.problem c.in_ok-problem.field-0.plan c.in_ok-problem.ensures.found c.in-Err-follow.end)

pub returns-clause-map : goal.returns-clause-map
returns-clause-map g c = record {
  justified = λ is. absurd (none_of c.fault_of_end.result c.in-Err-follow.end _ c.fault_of_end.ensures (not_of_map c.in-Err-follow.end) is);
  reported = search rules;
  within = search rules;
}

pub returns-clause-scen : goal.returns-clause-scen
returns-clause-scen g c = record {
  source = record {
    justified = λ is. absurd (none_of c.fault_of_end.result c.in-Err-follow.end _ c.fault_of_end.ensures (not_of_scen c.in-Err-follow.end) is);
    reported = search rules;
    within = search rules;
  };
  unpulled = λ early. absurd (past_map c.fault_of_end.result c.in-Err-follow.end c.fault_of_end.ensures early);
  order = c.in_ok-problem.ensures.scen.order;
}

pub returns-clause-plan : goal.returns-clause-plan
returns-clause-plan g c = record {
  source = record {
    justified = λ is. absurd (none_of c.fault_of_end.result c.in-Err-follow.end _ c.fault_of_end.ensures (not_of_plan c.in-Err-follow.end) is);
    reported = search rules;
    within = search rules;
  };
  unpulled = λ early. absurd (past_problem c.fault_of_end.result c.in-Err-follow.end c.fault_of_end.ensures early);
  order = c.in_ok-problem.ensures.plan.order;
}
