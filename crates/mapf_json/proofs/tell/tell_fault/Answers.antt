use Rattle.std.proofs.Common.{subst}
use Rattle.mapf_app.proofs.LineLemmas.{gets}
use Rattle.mapf_app.specs.FaultLines.{fault_line}
use Rattle.mapf_app.specs.Told.{Gets}
use Rattle.mapf_json.specs.Written.{object_text}
use Rattle.mapf_json.proofs.ToldLemmas.{error_told}
use Rattle.mapf_json.proofs.tell.tell_fault.Goals as goal

pub returns : goal.returns
returns g c =
    let out = g.O.Sink in
    let err = g.E.Sink in
    let (two, told) = error_told (err.has_failed c.tell_run-status.new.err) (err.contents c.args.err.now) (err.contents c.tell_run-status.new.err) (fault_line c.args.fault) c.tell_run-status.result c.tell_run-status.ensures.fault in
    (two, subst (λ t. Gets (out.has_failed c.write_object.new.sink) (out.contents c.args.out.now) (out.contents c.write_object.new.sink) t) c.of_fault.ensures (gets c.write_object.result _ _ _ (object_text c.of_fault.result) c.write_object.ensures.failed c.write_object.ensures.text c.write_object.ensures.prefix), told)
