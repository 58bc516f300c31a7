use Rattle.std.proofs.Common.{ap}
use Rattle.mapf_app.specs.declared.answer_writer.Answered.{Answered}
use Rattle.mapf_c.proofs.MemoryLemmas.{answers, hinders}
use Rattle.mapf_c.proofs.solving.solve_in_memory.Goals as goal

pub returns-in-Ok-clause-answer : goal.returns-in-Ok-clause-answer
returns-in-Ok-clause-answer c =
    answers c.args.map.now c.args.scen.now c.args.question.now c.in-Ok.answer _ _ _ _ _ _ c.search_of.result (ap (λ t. t.0) c.new-plan.ensures) (ap (λ t. t.0) c.new-cert.ensures) c.of-map.ensures.bytes c.of-scen.ensures.bytes c.search_of.ensures c.in-Ok.ensures.printed c.in-Ok.ensures.policy c.in-Ok.ensures.limit c.in-Ok.ensures.refused

pub returns-in-Err-clause-fault : goal.returns-in-Err-clause-fault
returns-in-Err-clause-fault c =
    rw c.of_memory.ensures (hinders Answered c.args.map.now c.args.scen.now _ _ c.args.question.now.agents c.in-Err.fault _ _ c.of-map.ensures.bytes c.of-scen.ensures.bytes c.in-Err.ensures.map c.in-Err.ensures.scen.source c.in-Err.ensures.fault c.in-Err.ensures.due)
