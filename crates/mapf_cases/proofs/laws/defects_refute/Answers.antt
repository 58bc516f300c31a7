use Rattle.mapf_cases.proofs.ProgressLemmas.{defect_refutes}
use Rattle.mapf_cases.proofs.laws.defects_refute.Goals as goal

pub returns : goal.returns
returns c scope target here node fault other defect good = defect_refutes scope here target node fault other defect good
