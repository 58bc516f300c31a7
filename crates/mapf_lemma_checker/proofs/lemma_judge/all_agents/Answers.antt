use Rattle.std.proofs.Common.{◌∙◌, ◌++◌, ◌∷◌, [], ap, sym}
use Rattle.mapf_lemma_checker.proofs.AgentLemmas.{range_more}
use Rattle.mapf_lemma_checker.proofs.lemma_judge.all_agents.Goals as goal

pub loop-agent-preserved : goal.loop-agent-preserved
loop-agent-preserved c =
    c.in_ok-push.ensures.items ∙ ap (λ xs. xs ++ c.loop-agent.agent ∷ []) c.loop-agent.invariant
    ∙ sym (range_more c.loop-agent.agent)
