use Rattle.std.proofs.Common.{refl}
use Rattle.std.proofs.lemmas.Option.{slice_get_within}
use Rattle.mapf_checker.proofs.DefectLemmas.{defect_refutes, valid_of, no_answer}
use Rattle.mapf_checker.proofs.validity.check_plan.Goals as goal

pub returns-in_err-check_paths-clause-valid : goal.returns-in_err-check_paths-clause-valid
returns-in_err-check_paths-clause-valid c =
    no_answer c.args.problem.now c.args.plan.now c.from_residual.result c.from_residual.ensures.0
    (defect_refutes c.args.problem.now c.args.plan.now c.in_err-check_paths.field-0.0 (rw c.paths.ensures.value at c.in_err-check_paths.ensures.fault))

pub unreachable-requires : goal.unreachable-requires
unreachable-requires c =
    let lawful = rw c.paths.ensures.value at c.in_ok-check_paths.ensures.lawful in
    let (i, agent, path, is_agent, is_path, elsewhere) = c.in-None.ensures.none in
    elsewhere (lawful i agent path (slice_get_within c.args.plan.now i path is_path) is_agent is_path).goal

pub returns-in-Some-clause-fault : goal.returns-in-Some-clause-fault
returns-in-Some-clause-fault c = rw c.paths-2.ensures.value at (c.in-Some.ensures.some c.args.problem.now)

pub returns-in-Some-clause-valid : goal.returns-in-Some-clause-valid
returns-in-Some-clause-valid c =
    let defect = rw c.paths-2.ensures.value at (c.in-Some.ensures.some c.args.problem.now) in
    (λ no. absurd cc, λ valid. absurd (defect_refutes c.args.problem.now c.args.plan.now c.in-Some.fault defect valid))

pub returns-clause-valid : goal.returns-clause-valid
returns-clause-valid c =
    let valid = valid_of c.args.problem.now c.args.plan.now c.requires (rw c.paths.ensures.value at c.in_ok-check_paths.ensures.lawful) (rw c.paths-2.ensures.value at c.in_default.ensures.none) in
    (λ is_ok. valid, λ _. refl)
