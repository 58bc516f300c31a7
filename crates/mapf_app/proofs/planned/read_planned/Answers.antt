use Rattle.std.proofs.Common.{◌≡◌, Ok, Err, inl, inr, ⊎_elim, ◌∙◌, ap}
use Rattle.std.proofs.lemmas.Result.{err_from_is_err_and}
use Rattle.mapf_certificate.proofs.Windows.{err_passed}
use Rattle.mapf_app.specs.Faults.{IsPlanning}
use Rattle.mapf_app.specs.declared.fault.Fault.TheVariants.{F6}
use Rattle.mapf_app.proofs.InputLemmas.{read_as}
use Rattle.mapf_app.proofs.PlannedLemmas.{due_here, plan_fault_told, same_planned}
use Rattle.mapf_app.proofs.planned.read_planned.Goals as goal

pub returns-in_err-paths-clause-only : goal.returns-in_err-paths-clause-only
returns-in_err-paths-clause-only g c = λ planned due.
    let map = g.M.Source.remaining c.args.map.now in
    let scen = g.S.Source.remaining c.args.scen.now in
    let plan = g.P.Source.remaining c.args.plan.now in
    let fault = c.in_err-paths.field-0.0 in
    let same = read_as plan c.as_slice.ensures.value c.in_ok-text.ensures.whole in
    let here = due_here map scen plan c.args.k c.in_ok-problem.problem c.as_slice.result.now same (λ other map_told scen_told read. ⊎_elim (λ e. cc) (λ no. absurd no) (c.in_ok-problem.ensures.only other map_told scen_told read)) planned.problem planned.plan due in
    let memory : fault ≡ F6 = ⊎_elim (λ e. cc) (λ e. cc) (c.in_err-paths.ensures.only planned.plan here.1) in
    let (given, is, handed) = err_from_is_err_and c.from_residual-in_err-paths.result c.from_residual-in_err-paths.ensures.1 in
    let told : c.from_residual-in_err-paths.result ≡ Err F6 = is ∙ ap Err (handed ∙ memory) in
    inr (rw told tt)

pub returns-in_err-paths-clause-fault : goal.returns-in_err-paths-clause-fault
returns-in_err-paths-clause-fault g c =
    let map = g.M.Source.remaining c.args.map.now in
    let scen = g.S.Source.remaining c.args.scen.now in
    let plan = g.P.Source.remaining c.args.plan.now in
    let fault = c.in_err-paths.field-0.0 in
    let same = read_as plan c.as_slice.ensures.value c.in_ok-text.ensures.whole in
    err_passed c.from_residual-in_err-paths.result (IsPlanning map scen plan c.args.k) fault (err_from_is_err_and c.from_residual-in_err-paths.result c.from_residual-in_err-paths.ensures.1)
    (plan_fault_told map scen plan c.args.k c.in_ok-problem.problem c.in_ok-problem.ensures.found c.as_slice.result.now same fault c.in_err-paths.ensures.fault)

pub returns-clause-only : goal.returns-clause-only
returns-clause-only g c = λ planned due.
    let map = g.M.Source.remaining c.args.map.now in
    let scen = g.S.Source.remaining c.args.scen.now in
    let plan = g.P.Source.remaining c.args.plan.now in
    let same = read_as plan c.as_slice.ensures.value c.in_ok-text.ensures.whole in
    let here = due_here map scen plan c.args.k c.in_ok-problem.problem c.as_slice.result.now same (λ other map_told scen_told read. ⊎_elim (λ e. cc) (λ no. absurd no) (c.in_ok-problem.ensures.only other map_told scen_told read)) planned.problem planned.plan due in
    let those : c.in_ok-paths.paths ≡ planned.plan = ⊎_elim (λ e. cc) (λ e. cc) (c.in_ok-paths.ensures.only planned.plan here.1) in
    inl (ap Ok (same_planned planned c.in_ok-problem.problem c.in_ok-paths.paths here.0 those))
