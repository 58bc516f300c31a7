use Rattle.std.proofs.Common.{◌≡◌, Ok, None, Some, Option, List, ℕ, ⊎_elim, sym, subst}
use Rattle.mapf_model.specs.Plan.{Instance}
use Rattle.std.specs.Option.{IsSome}
use Rattle.std.proofs.lemmas.Bool.{true≢false}
use Rattle.mapf_app.specs.Answered.{answering}
use Rattle.mapf_app.specs.Checked.{HasNoCheckMemory}
use Rattle.mapf_app.specs.Solved.{Prints}
use Rattle.mapf_checker.specs.declared.fault.CheckFault.{CheckFault}
use Rattle.mapf_app.specs.declared.kind.Kind.{Kind}
use Rattle.mapf_words.specs.declared.job.Search.{Search}
use Rattle.mapf_words.specs.declared.job.Search.TheVariants.{Cbs, Cbsh}
use Rattle.mapf_app.proofs.SolveLemmas.{answered_fault, answered_limit, answered_sinks, answered_texts, due_of, each_error, no_inner, none_refused, not_plain, refused_besides, scenario_told, solving, source_told, weaker}
use Rattle.mapf_app.proofs.solve_by.run_solve_by.Goals as goal

-- where something was refused the texts are those of plain search
prints_plain : (problem : Instance) (kind : Kind) (plan cert : List ℕ) (refused : Option CheckFault) → IsSome refused → Prints (answering Cbsh refused) problem kind plan cert → Prints Cbs problem kind plan cert
prints_plain problem kind plan cert (Some refusal) is prints = prints
prints_plain problem kind plan cert None is prints = absurd (true≢false (sym is))

pub returns-in-Cbs-clause-printed : goal.returns-in-Cbs-clause-printed
returns-in-Cbs-clause-printed g c = rw c.with_refusal.ensures (answered_texts c.write_plain.result None _ _ _ _ _ _ (λ kind plan cert is. record {
  problem = c.in_ok-problem.problem;
  posed = c.in_ok-problem.ensures.posed;
  read = c.in_ok-problem.ensures.found;
  printed = subst (λ (s : Search). Prints s c.in_ok-problem.problem kind plan cert) (sym c.in-Cbs.is) is.0;
}) c.write_plain.ensures.texts)

pub returns-in-Cbs-clause-policy : goal.returns-in-Cbs-clause-policy
returns-in-Cbs-clause-policy g c = rw c.with_refusal.ensures (answered_texts c.write_plain.result None _ _ _ _ _ _ (λ kind plan cert is. λ plain. record {
  truly = record { problem = c.in_ok-problem.problem; posed = c.in_ok-problem.ensures.posed; read = c.in_ok-problem.ensures.found; printed = is.0 };
  policy = is.1;
}) c.write_plain.ensures.texts)

pub returns-in-Cbs-clause-limit : goal.returns-in-Cbs-clause-limit
returns-in-Cbs-clause-limit g c = rw c.with_refusal.ensures (answered_limit c.write_plain.result None _ c.write_plain.ensures.limit)

pub returns-in-Cbs-clause-refused : goal.returns-in-Cbs-clause-refused
returns-in-Cbs-clause-refused g c = rw c.with_refusal.ensures (none_refused c.write_plain.result _)

pub returns-in-Cbs-clause-due : goal.returns-in-Cbs-clause-due
returns-in-Cbs-clause-due g c asked map_told scen_told read =
    let problem = c.in_ok-problem.problem in
    let same : problem ≡ asked = ⊎_elim (λ (e : Ok problem ≡ Ok asked). cc) (λ no. absurd no) (c.in_ok-problem.ensures.only asked map_told scen_told read) in
    rw c.with_refusal.ensures (due_of _ _ _ _ _ _ (answered_texts c.write_plain.result None _ _ _ _ _ _ (λ kind plan cert is. subst (λ (p : Instance). Prints c.args.asked.search p kind plan cert) same (subst (λ (s : Search). Prints s problem kind plan cert) (sym c.in-Cbs.is) is.0)) c.write_plain.ensures.texts) (answered_fault c.write_plain.result None _ c.write_plain.ensures.fault))

pub returns-in-Cbs-clause-fault : goal.returns-in-Cbs-clause-fault
returns-in-Cbs-clause-fault g c = rw c.with_refusal.ensures (each_error _ _ _ (solving _ _ _) (answered_fault c.write_plain.result None _ c.write_plain.ensures.fault))

pub returns-in-Cbs-clause-inner : goal.returns-in-Cbs-clause-inner
returns-in-Cbs-clause-inner g c = rw c.with_refusal.ensures (each_error _ _ _ no_inner (answered_fault c.write_plain.result None _ c.write_plain.ensures.fault))

pub returns-in-Cbs-clause-map : goal.returns-in-Cbs-clause-map
returns-in-Cbs-clause-map g c = rw c.with_refusal.ensures (source_told c.in_ok-problem.problem _ _ _ _ _ _ c.in_ok-problem.ensures.map (answered_fault c.write_plain.result None _ c.write_plain.ensures.fault))

pub returns-in-Cbs-clause-scen : goal.returns-in-Cbs-clause-scen
returns-in-Cbs-clause-scen g c = rw c.with_refusal.ensures (scenario_told c.in_ok-problem.problem _ _ _ _ _ _ _ c.in_ok-problem.ensures.scen (answered_fault c.write_plain.result None _ c.write_plain.ensures.fault))

pub returns-in-Cbs-clause-sinks : goal.returns-in-Cbs-clause-sinks
returns-in-Cbs-clause-sinks g c = rw c.with_refusal.ensures (answered_sinks c.write_plain.result None _ _ _ _ c.write_plain.ensures.sinks)

pub returns-clause-printed : goal.returns-clause-printed
returns-clause-printed g c = weaker _ _ _ _ _ _ _ (λ answer plan cert is. record {
  problem = c.in_ok-problem.problem;
  posed = c.in_ok-problem.ensures.posed;
  read = c.in_ok-problem.ensures.found;
  printed = subst (λ (s : Search). Prints (answering s answer.refused) c.in_ok-problem.problem answer.kind plan cert) (sym c.in-Cbsh.is) is.0;
}) c.write_by_cbsh.ensures.texts

pub returns-clause-policy : goal.returns-clause-policy
returns-clause-policy g c = weaker _ _ _ _ _ _ _ (λ answer plan cert is. λ plain.
    let refused = ⊎_elim (λ cbs. absurd (not_plain c.args.asked.search c.in-Cbsh.is cbs)) (λ some. some) plain in
    record {
      truly = record { problem = c.in_ok-problem.problem; posed = c.in_ok-problem.ensures.posed; read = c.in_ok-problem.ensures.found; printed = prints_plain c.in_ok-problem.problem answer.kind plan cert answer.refused refused is.0 };
      policy = is.1 refused;
    }) c.write_by_cbsh.ensures.texts

pub returns-clause-refused : goal.returns-clause-refused
returns-clause-refused g c = refused_besides c.write_by_cbsh.result HasNoCheckMemory _ (not_plain c.args.asked.search c.in-Cbsh.is) c.write_by_cbsh.ensures.refused

pub returns-clause-due : goal.returns-clause-due
returns-clause-due g c asked map_told scen_told read =
    let problem = c.in_ok-problem.problem in
    let same : problem ≡ asked = ⊎_elim (λ (e : Ok problem ≡ Ok asked). cc) (λ no. absurd no) (c.in_ok-problem.ensures.only asked map_told scen_told read) in
    due_of c.write_by_cbsh.result _ _ _ _ _ (weaker _ _ _ _ _ _ _ (λ answer plan cert is. subst (λ (p : Instance). Prints (answering c.args.asked.search answer.refused) p answer.kind plan cert) same (subst (λ (s : Search). Prints (answering s answer.refused) problem answer.kind plan cert) (sym c.in-Cbsh.is) is.0)) c.write_by_cbsh.ensures.texts) c.write_by_cbsh.ensures.fault
