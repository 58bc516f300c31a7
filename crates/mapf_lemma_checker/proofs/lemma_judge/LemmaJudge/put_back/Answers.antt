use Rattle.std.proofs.Common.{◌∙◌, Option, ap, sym}
use Rattle.std.proofs.lemmas.Result.{on_ok_weaker}
use Rattle.mapf_lemmas.specs.Statements.{Statement}
use Rattle.mapf_lemma_checker.proofs.StateLemmas.{case_ready}
use Rattle.mapf_lemma_checker.proofs.lemma_judge.LemmaJudge.put_back.Goals as goal

pub returns-clause-ready : goal.returns-clause-ready
returns-clause-ready c problem ready =
    let judge = c.args.self.now in
    let next = c.learn.new.self in
    on_ok_weaker c.learn.result (case_ready problem judge next c.args.tree c.in-Some.statement c.requires (sym c.take.ensures.value ∙ c.in-Some.is)
    (c.learn.ensures.rest ∙ ap (λ (case : Option Statement). record judge { known = next.known; case = case }) c.take.ensures.after) ready)
    c.learn.ensures.known
