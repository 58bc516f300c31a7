use Rattle.std.proofs.Common.{◌≡◌, Ok, ⊎_elim, subst}
use Rattle.mapf_model.specs.Plan.{Instance}
use Rattle.mapf_app.specs.Solved.{Prints}
use Rattle.mapf_words.specs.declared.job.Search.TheVariants.{Cbs}
use Rattle.mapf_app.proofs.SolveLemmas.{due_of, each_error, no_inner, scenario_told, solving, source_told, weaker}
use Rattle.mapf_app.proofs.solve.run_solve.Goals as goal

pub returns-clause-policy : goal.returns-clause-policy
returns-clause-policy g c = weaker _ _ _ _ _ _ _ (λ kind plan cert is. record {
  truly = record { problem = c.in_ok-problem.problem; posed = c.in_ok-problem.ensures.posed; read = c.in_ok-problem.ensures.found; printed = is.0 };
  policy = is.1;
}) c.write_plain.ensures.texts

pub returns-clause-printed : goal.returns-clause-printed
returns-clause-printed g c = weaker _ _ _ _ _ _ _ (λ kind plan cert is. record {
  problem = c.in_ok-problem.problem;
  posed = c.in_ok-problem.ensures.posed;
  read = c.in_ok-problem.ensures.found;
  printed = is.0;
}) c.write_plain.ensures.texts

pub returns-clause-due : goal.returns-clause-due
returns-clause-due g c asked map_told scen_told read =
    let problem = c.in_ok-problem.problem in
    let same : problem ≡ asked = ⊎_elim (λ (e : Ok problem ≡ Ok asked). cc) (λ no. absurd no) (c.in_ok-problem.ensures.only asked map_told scen_told read) in
    due_of c.write_plain.result _ _ _ _ _ (weaker _ _ _ _ _ _ _ (λ kind plan cert is. subst (λ (p : Instance). Prints Cbs p kind plan cert) same is.0) c.write_plain.ensures.texts) c.write_plain.ensures.fault

pub returns-clause-fault : goal.returns-clause-fault
returns-clause-fault g c = each_error c.write_plain.result _ _ (solving _ _ _) c.write_plain.ensures.fault

pub returns-clause-inner : goal.returns-clause-inner
returns-clause-inner g c = each_error c.write_plain.result _ _ no_inner c.write_plain.ensures.fault

pub returns-clause-map : goal.returns-clause-map
returns-clause-map g c = source_told c.in_ok-problem.problem c.write_plain.result _ _ _ _ _ c.in_ok-problem.ensures.map c.write_plain.ensures.fault

pub returns-clause-scen : goal.returns-clause-scen
returns-clause-scen g c = scenario_told c.in_ok-problem.problem c.write_plain.result _ _ _ _ _ _ c.in_ok-problem.ensures.scen c.write_plain.ensures.fault
