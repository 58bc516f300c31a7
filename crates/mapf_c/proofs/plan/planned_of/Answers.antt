use Rattle.mapf_c.proofs.MemoryLemmas.{unplanned}
use Rattle.mapf_c.proofs.plan.planned_of.Goals as goal

pub returns-in-Err-clause-due : goal.returns-in-Err-clause-due
returns-in-Err-clause-due c =
    unplanned c.args.map.now c.args.scen.now c.args.plan.now _ _ _ c.args.agents c.in-Err.fault c.of-map.ensures.bytes c.of-scen.ensures.bytes c.of-plan.ensures.bytes c.in-Err.ensures.only
