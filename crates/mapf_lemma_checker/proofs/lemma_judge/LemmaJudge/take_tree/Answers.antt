use Rattle.std.proofs.Common.{◌≡◌, ◌∙◌, IfOk, None, Option, option_map, sym, subst}
use Rattle.std.proofs.lemmas.Result.{IfOk-weaker}
use Rattle.mapf_lemma_checker.proofs.AgentLemmas.{all_spoken_of}
use Rattle.mapf_lemma_checker.proofs.StateLemmas.{no_case, opened_last}
use Rattle.mapf_lemma_checker.specs.Judges.{AreSpokenOf, tree_state}
use Rattle.mapf_lemma_checker.specs.States.{tree_in}
use Rattle.mapf_lemma_checker.specs.declared.tree_judge.OpenTree.{OpenTree}
use Rattle.mapf_lemma_checker.proofs.lemma_judge.LemmaJudge.take_tree.Goals as goal

pub new-requires : goal.new-requires
new-requires c =
    (subst (AreSpokenOf c.args.problem.now) (sym c.in_ok-agents-in-None.ensures) (all_spoken_of c.args.problem.now c.requires.few)).0

pub returns-in_ok-agents-in-None-clause-tree : goal.returns-in_ok-agents-in-None-clause-tree
returns-in_ok-agents-in-None-clause-tree c =
    let judge = c.args.self.now in
    let problem = c.args.problem.now in
    let none : judge.tree ≡ None = sym c.take.ensures.value ∙ c.in-None.is in
    subst (λ (t : Option OpenTree). IfOk c.new.result (λ tree. tree_state judge.case tree ≡ tree_in problem judge.target (option_map (tree_state judge.case) t))) (sym none)
    (opened_last problem judge.target judge.case (no_case problem judge c.requires none) c.new.result c.in_ok-agents-in-None.agents.items c.deref.result.now
    c.in_ok-agents-in-None.ensures (c.deref.ensures.value ∙ c.new-none.ensures.items) c.new.ensures.agents c.new.ensures.target c.new.ensures.pending)

pub returns-in_ok-agents-in-None-clause-agents : goal.returns-in_ok-agents-in-None-clause-agents
returns-in_ok-agents-in-None-clause-agents c =
    let problem = c.args.problem.now in
    IfOk-weaker c.new.result (λ (tree : OpenTree). tree.agents ≡ c.in_ok-agents-in-None.agents.items) (λ (tree : OpenTree). AreSpokenOf problem tree.agents)
    (λ tree is. subst (AreSpokenOf problem) (sym (is ∙ c.in_ok-agents-in-None.ensures)) (all_spoken_of problem c.requires.few)) c.new.ensures.agents
