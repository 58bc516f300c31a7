use Rattle.mapf_app.proofs.InputLemmas.{scenario_fault_told}
use Rattle.mapf_app.proofs.input.read_agents.Goals as goal

pub returns-clause-fault : goal.returns-clause-fault
returns-clause-fault g c =
    rw c.fault_of_scenario.ensures (scenario_fault_told (g.S.Source.remaining c.args.scen.now) c.as_slice.result.now (rw c.as_slice.ensures.value c.in_ok-text.ensures.whole) c.args.grid c.args.k c.in-Err.fault c.in-Err.ensures.only c.in-Err.ensures.fault)
