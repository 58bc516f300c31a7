use Rattle.std.proofs.Common.{◌≡◌, [], ◌∷◌, ◌∙◌}
use Rattle.mapf_cases.specs.declared.addition.Addition.TheVariants.{Others}
use Rattle.mapf_cases.proofs.PathLemmas.{on_err}
use Rattle.mapf_cases.proofs.case_path.add_cost.Goals as goal

pub returns-clause-more : goal.returns-clause-more
returns-clause-more c =
    on_err c.add_one.result (λ (same : c.add_one.new.standing ≡ c.add.new.self). (Others _ _ _ ∷ [], same ∙ c.in_ok-add.ensures.added)) c.add_one.ensures.unchanged
