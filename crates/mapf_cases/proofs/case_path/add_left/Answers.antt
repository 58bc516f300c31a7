use Rattle.std.proofs.Common.{◌≡◌, ◌∙◌}
use Rattle.mapf_cases.specs.Splits.{cost_additions}
use Rattle.mapf_cases.proofs.PathLemmas.{on_err}
use Rattle.mapf_cases.proofs.case_path.add_left.Goals as goal

pub returns-in_ok-add_cost-in-Costs-clause-more : goal.returns-in_ok-add_cost-in-Costs-clause-more
returns-in_ok-add_cost-in-Costs-clause-more c =
    on_err c.add_one-in-Costs.result (λ (same : c.add_one-in-Costs.new.standing ≡ c.add_cost-in-Costs.new.standing).
    (cost_additions c.args.problem.now c.in-Costs.i c.in-Costs.ticks, same ∙ c.in_ok-add_cost-in-Costs.ensures.added)) c.add_one-in-Costs.ensures.unchanged
