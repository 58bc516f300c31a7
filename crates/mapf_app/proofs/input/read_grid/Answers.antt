use Rattle.mapf_app.proofs.InputLemmas.{map_fault_told}
use Rattle.mapf_app.proofs.input.read_grid.Goals as goal

pub returns-clause-fault : goal.returns-clause-fault
returns-clause-fault g c = rw c.fault_of_map.ensures (map_fault_told (g.M.Source.remaining c.args.map.now) c.as_slice.result.now (rw c.as_slice.ensures.value c.in_ok-text.ensures.whole) c.in-Err.fault c.in-Err.ensures.only c.in-Err.ensures.fault)
