use Rattle.std.proofs.Common.{◌<◌, length, refl, ap, arith}
use Rattle.std.proofs.lemmas.Option.{slice_get_read}
use Rattle.mapf_checker.proofs.DefectLemmas.{unlawful_defect, lawful_more}
use Rattle.mapf_checker.proofs.validity.check_paths.Goals as goal

pub loop-i-preserved : goal.loop-i-preserved
loop-i-preserved c =
    let agents = c.agents-agents.ensures.value in
    let within : c.loop-i.i < length c.args.paths.now = omega (arith, ap length agents) in
    let is_agent = slice_get_read c.agents-agents.result.now _ c.loop-i.i c.index-agents-i.result refl c.loop-i-test.true c.index-agents-i.is in
    let is_path = slice_get_read c.args.paths.now _ c.loop-i.i c.index-paths-i.result refl within c.index-paths-i.is in
    lawful_more c.args.problem.now c.args.paths.now c.loop-i.i c.index-agents-i.result c.index-paths-i.result c.loop-i.invariant (rw agents at is_agent) is_path (rw c.grid.ensures at c.in_default.ensures.lawful)

pub returns-clause-lawful : goal.returns-clause-lawful
returns-clause-lawful c i agent path within = c.loop-i.invariant i agent path (omega (arith, ap length c.agents-agents.ensures.value))

pub returns-in-Err-clause-fault : goal.returns-in-Err-clause-fault
returns-in-Err-clause-fault c =
    let agents = c.agents-agents.ensures.value in
    let within : c.loop-i.i < length c.args.paths.now = omega (arith, ap length agents) in
    let is_agent = slice_get_read c.agents-agents.result.now _ c.loop-i.i c.index-agents-i.result refl c.loop-i-test.true c.index-agents-i.is in
    let is_path = slice_get_read c.args.paths.now _ c.loop-i.i c.index-paths-i.result refl within c.index-paths-i.is in
    rw c.fault_of_path.ensures (unlawful_defect c.args.problem.now c.args.paths.now c.loop-i.i c.index-agents-i.result c.index-paths-i.result c.in-Err.fault (rw agents at is_agent) is_path (rw c.grid.ensures at c.in-Err.ensures.fault))
