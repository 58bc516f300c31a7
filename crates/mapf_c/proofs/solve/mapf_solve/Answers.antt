use Rattle.std.proofs.Common.{Err, [], refl, ap, ◌∙◌}
use Rattle.mapf_c.specs.Answers.{unsolved}
use Rattle.mapf_c.proofs.MemoryLemmas.{solution}
use Rattle.mapf_c.proofs.solve.mapf_solve.Goals as goal

pub returns-in-Ok-clause-answer : goal.returns-in-Ok-clause-answer
returns-in-Ok-clause-answer c askable =
    solution c.args.map.now c.args.scen.now c.args.question c.in-Ok.written.answer c.in-Ok.written.plan.0 c.in-Ok.written.cert.0 c.bytes-plan_text.result.now c.bytes-cert_text.result.now c.args.plan.now c.put-is_written.new.plan c.args.cert.now c.put-is_written.new.cert c.of_kind.result c.of_refused.result c.flag.result c.put-is_written.result c.bytes-plan_text.ensures c.bytes-cert_text.ensures c.of_kind.ensures c.of_refused.ensures c.flag.ensures c.put-is_written.ensures.fit c.put-is_written.ensures.plan c.put-is_written.ensures.cert c.in-Ok.ensures.answer

pub returns-in-Err-clause-answer : goal.returns-in-Err-clause-answer
returns-in-Err-clause-answer c askable = record {
  ended = Err c.in-Err.fault;
  plan = [];
  cert = [];
  told = c.unsolved-in-Err.ensures ∙ ap unsolved c.of.ensures;
  holds = c.in-Err.ensures.fault;
  plan_put = refl;
  cert_put = refl;
}
