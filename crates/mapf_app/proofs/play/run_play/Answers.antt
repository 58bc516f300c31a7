use Rattle.std.proofs.Common.{◌≡◌, ⊎_elim, subst}
use Rattle.std.proofs.lemmas.Result.{err_from_is_err_and}
use Rattle.mapf_app.specs.Played.{ShowsPlan}
use Rattle.mapf_app.specs.declared.planned.Planned.{Planned}
use Rattle.mapf_app.proofs.PlannedLemmas.{hands_on_device}
use Rattle.mapf_app.proofs.play.run_play.Goals as goal

pub returns-in_err-problem-clause-due : goal.returns-in_err-problem-clause-due
returns-in_err-problem-clause-due g c = λ problem paths due.
    hands_on_device _ _ _ (err_from_is_err_and c.from_residual.result c.from_residual.ensures.1)
    (⊎_elim (λ e. cc) (λ says. says) (c.in_err-problem.ensures.only (record { problem = problem; plan = paths }) due))

pub returns-in-Ok-clause-due : goal.returns-in-Ok-clause-due
returns-in-Ok-clause-due g c = λ problem paths due.
    let planned : Planned = record { problem = problem; plan = paths } in
    let same : c.in_ok-problem.field-0 ≡ planned = ⊎_elim (λ e. cc) (λ no. absurd no) (c.in_ok-problem.ensures.only planned due) in
    let old = g.K.Sink.contents c.args.sink.now in
    let new = g.K.Sink.contents c.play.new.sink in
    subst (λ (p : Planned). ShowsPlan p.problem p.plan old new) same c.in-Ok.ensures.text
