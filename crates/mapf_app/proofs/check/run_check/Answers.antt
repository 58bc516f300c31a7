use Rattle.std.proofs.Common.{rules, ◌≤◌, ⊎_elim, length}
use Rattle.mapf_app.proofs.InputLemmas.{read_as}
use Rattle.mapf_app.proofs.CheckLemmas.{if_known, judges, due_here, refusal_of, none_good, is_refusal, refusal_says}
use Rattle.mapf_checker.specs.Refusals.{HasRefusal}
use Rattle.mapf_model.specs.Limits.{most_cert_bytes}
use Rattle.mapf_app.proofs.check.run_check.Goals as goal

pub returns-in-Ok-clause-verdict : goal.returns-in-Ok-clause-verdict
returns-in-Ok-clause-verdict g c =
    let same = read_as (g.P.Source.remaining c.args.plan.now) c.as_slice.ensures.value c.in_ok-plan_text.ensures.whole in
    judges (g.M.Source.remaining c.args.map.now) (g.S.Source.remaining c.args.scen.now) (g.P.Source.remaining c.args.plan.now) (g.C.Source.remaining c.args.cert.now) c.args.k c.in_ok-problem.problem c.in_ok-problem.ensures.found c.as_slice.result.now same c.in_ok-problem.ensures.posed c.in-Ok.verdict c.in-Ok.ensures.truth c.in-Ok.ensures.accepted

pub returns-in-Ok-clause-accepted : goal.returns-in-Ok-clause-accepted
returns-in-Ok-clause-accepted g c =
    let same = read_as (g.P.Source.remaining c.args.plan.now) c.as_slice.ensures.value c.in_ok-plan_text.ensures.whole in
    λ verdict due. c.in-Ok.ensures.only due.cert_text verdict due.cert_told (due_here (g.M.Source.remaining c.args.map.now) (g.S.Source.remaining c.args.scen.now) (g.P.Source.remaining c.args.plan.now) (g.C.Source.remaining c.args.cert.now) c.args.k c.in_ok-problem.problem c.in_ok-problem.ensures.found c.as_slice.result.now same (λ other map_told scen_told read. ⊎_elim (λ e. cc) (λ no. absurd no) (c.in_ok-problem.ensures.only other map_told scen_told read)) verdict due)

pub returns-in-Ok-clause-cert : goal.returns-in-Ok-clause-cert
returns-in-Ok-clause-cert g c =
    let same = read_as (g.P.Source.remaining c.args.plan.now) c.as_slice.ensures.value c.in_ok-plan_text.ensures.whole in
    record {
      source = record { justified = search rules; reported = search rules; within = if_known (g.C.Source.remaining c.args.cert.now) (λ bytes. length bytes ≤ most_cert_bytes) c.in-Ok.ensures.within };
      unpulled = search rules;
      order = λ none. c.check_from.ensures.unpulled (none_good (g.M.Source.remaining c.args.map.now) (g.S.Source.remaining c.args.scen.now) (g.P.Source.remaining c.args.plan.now) (g.C.Source.remaining c.args.cert.now) c.args.k c.in_ok-problem.problem c.in_ok-problem.ensures.found c.as_slice.result.now same (λ good. none (c.in_ok-problem.ensures.whole, c.in_ok-plan_text.ensures.read, good)));
    }

pub returns-in-Err-Refused-clause-accepted : goal.returns-in-Err-Refused-clause-accepted
returns-in-Err-Refused-clause-accepted g c =
    let same = read_as (g.P.Source.remaining c.args.plan.now) c.as_slice.ensures.value c.in_ok-plan_text.ensures.whole in
    λ verdict due. is_refusal c.in-Err-Refused.field-0 c.in-Err-Refused.refusal c.in-Err-Refused.field-0-is (c.in-Err-Refused.ensures.only due.cert_text verdict due.cert_told (due_here (g.M.Source.remaining c.args.map.now) (g.S.Source.remaining c.args.scen.now) (g.P.Source.remaining c.args.plan.now) (g.C.Source.remaining c.args.cert.now) c.args.k c.in_ok-problem.problem c.in_ok-problem.ensures.found c.as_slice.result.now same (λ other map_told scen_told read. ⊎_elim (λ e. cc) (λ no. absurd no) (c.in_ok-problem.ensures.only other map_told scen_told read)) verdict due))

pub returns-in-Err-Refused-clause-fault : goal.returns-in-Err-Refused-clause-fault
returns-in-Err-Refused-clause-fault g c =
    let same = read_as (g.P.Source.remaining c.args.plan.now) c.as_slice.ensures.value c.in_ok-plan_text.ensures.whole in
    refusal_of (g.M.Source.remaining c.args.map.now) (g.S.Source.remaining c.args.scen.now) (g.P.Source.remaining c.args.plan.now) (g.C.Source.remaining c.args.cert.now) c.args.k c.in_ok-problem.problem c.in_ok-problem.ensures.found c.as_slice.result.now same c.in-Err-Refused.refusal (refusal_says (HasRefusal c.in_ok-problem.problem c.as_slice.result.now (g.C.Source.remaining c.args.cert.now)) c.in-Err-Refused.field-0 c.in-Err-Refused.refusal c.in-Err-Refused.field-0-is c.in-Err-Refused.ensures.refused)

pub returns-in-Err-Refused-clause-cert : goal.returns-in-Err-Refused-clause-cert
returns-in-Err-Refused-clause-cert g c =
    let same = read_as (g.P.Source.remaining c.args.plan.now) c.as_slice.ensures.value c.in_ok-plan_text.ensures.whole in
    record {
      source = record { justified = search rules; reported = search rules; within = tt };
      unpulled = search rules;
      order = λ none. c.check_from.ensures.unpulled (none_good (g.M.Source.remaining c.args.map.now) (g.S.Source.remaining c.args.scen.now) (g.P.Source.remaining c.args.plan.now) (g.C.Source.remaining c.args.cert.now) c.args.k c.in_ok-problem.problem c.in_ok-problem.ensures.found c.as_slice.result.now same (λ good. none (c.in_ok-problem.ensures.whole, c.in_ok-plan_text.ensures.read, good)));
    }

pub returns-in-Err-Device-clause-cert : goal.returns-in-Err-Device-clause-cert
returns-in-Err-Device-clause-cert g c =
    let same = read_as (g.P.Source.remaining c.args.plan.now) c.as_slice.ensures.value c.in_ok-plan_text.ensures.whole in
    record {
      source = record { justified = search rules; reported = search rules; within = tt };
      unpulled = search rules;
      order = λ none. c.check_from.ensures.unpulled (none_good (g.M.Source.remaining c.args.map.now) (g.S.Source.remaining c.args.scen.now) (g.P.Source.remaining c.args.plan.now) (g.C.Source.remaining c.args.cert.now) c.args.k c.in_ok-problem.problem c.in_ok-problem.ensures.found c.as_slice.result.now same (λ good. none (c.in_ok-problem.ensures.whole, c.in_ok-plan_text.ensures.read, good)));
    }

pub returns-in-Err-TooLong-clause-cert : goal.returns-in-Err-TooLong-clause-cert
returns-in-Err-TooLong-clause-cert g c =
    let same = read_as (g.P.Source.remaining c.args.plan.now) c.as_slice.ensures.value c.in_ok-plan_text.ensures.whole in
    record {
      source = record { justified = search rules; reported = search rules; within = tt };
      unpulled = search rules;
      order = λ none. c.check_from.ensures.unpulled (none_good (g.M.Source.remaining c.args.map.now) (g.S.Source.remaining c.args.scen.now) (g.P.Source.remaining c.args.plan.now) (g.C.Source.remaining c.args.cert.now) c.args.k c.in_ok-problem.problem c.in_ok-problem.ensures.found c.as_slice.result.now same (λ good. none (c.in_ok-problem.ensures.whole, c.in_ok-plan_text.ensures.read, good)));
    }

pub returns-clause-cert : goal.returns-clause-cert
returns-clause-cert g c =
    let same = read_as (g.P.Source.remaining c.args.plan.now) c.as_slice.ensures.value c.in_ok-plan_text.ensures.whole in
    record {
      source = record { justified = search rules; reported = search rules; within = tt };
      unpulled = search rules;
      order = λ none. c.check_from.ensures.unpulled (none_good (g.M.Source.remaining c.args.map.now) (g.S.Source.remaining c.args.scen.now) (g.P.Source.remaining c.args.plan.now) (g.C.Source.remaining c.args.cert.now) c.args.k c.in_ok-problem.problem c.in_ok-problem.ensures.found c.as_slice.result.now same (λ good. none (c.in_ok-problem.ensures.whole, c.in_ok-plan_text.ensures.read, good)));
    }
