use Rattle.mapf_text.proofs.MapLemmas.{map_unique}
use Rattle.mapf_text.proofs.ScenarioLaws.{scenario_unique}
use Rattle.mapf_text.proofs.laws.inputs_are_spelled_apart.Goals as goal

pub returns-clause-map : goal.returns-clause-map
returns-clause-map c = map_unique

pub returns-clause-scen : goal.returns-clause-scen
returns-clause-scen c = scenario_unique
