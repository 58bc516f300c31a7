use Rattle.std.proofs.Common.{◌≡◌, List, ◌∷◌, [], ◌++◌, ◌+◌, take, sym, ◌∙◌, ap, subst}
use Rattle.std.proofs.lemmas.List.{take_more}
use Rattle.mapf_lemmas.specs.declared.constraint.AgentConstraint.{AgentConstraint}
use Rattle.mapf_lemmas.specs.declared.constraint.PathConstraint.{PathConstraint}
use Rattle.mapf_lemmas.specs.Statements.{constraints_of}
use Rattle.mapf_single_labels.proofs.ConstraintLemmas.{of_agent_more, of_agent_same}
use Rattle.mapf_single_labels.proofs.task_constraints.TaskConstraints.of_agent.Goals as goal
use Rattle.mapf_single_labels.proofs.task_constraints.TaskConstraints.of_agent.Goals.{then-one-agent+in_ok-add, else-one-agent}

pub loop-one-preserved : goal.loop-one-preserved
loop-one-preserved c =
    let constraints = c.args.constraints.now in
    let before = take c.loop-one.one-index constraints in
    let more : take (c.loop-one.one-index + 1) constraints ≡ before ++ c.one-item.result ∷ [] = take_more constraints c.loop-one.one-index c.one-item.result c.loop-one-test.true ∙ ap (λ (p : AgentConstraint). before ++ p ∷ []) (sym c.one-item.is) in
    subst (λ (listed : List AgentConstraint). c.if-one-agent.own ≡ constraints_of listed c.args.agent) (sym more)
    (elim c.if-one-agent.branch [
      | then-one-agent+in_ok-add w ↦ w.own-is ∙ w.in_ok-add.ensures.added ∙ ap (λ (own : List PathConstraint). own ++ c.one-item.result.constraint ∷ []) c.loop-one.invariant ∙ sym (of_agent_more before c.one-item.result c.args.agent w.if-one-agent.true)
      | else-one-agent w ↦ w.own-is ∙ c.loop-one.invariant ∙ sym (of_agent_same before c.one-item.result c.args.agent w.if-one-agent.false)
    ])
