use Rattle.std.proofs.Common.{◌∙◌, ◌++◌, ◌∷◌, [], None, refl, ap}
use Rattle.mapf_lemmas.specs.Prices.{no_list}
use Rattle.mapf_lemmas.specs.Statements.{Statement}
use Rattle.mapf_lemma_checker.proofs.LearnedLemmas.{lemma_shows, lemma_shows_none, lemma_state, never_made}
use Rattle.mapf_lemma_checker.proofs.RefusalLemmas.{refused_through}
use Rattle.mapf_lemma_checker.proofs.StateLemmas.{no_tree}
use Rattle.mapf_lemma_checker.specs.Judges.{state_of}
use Rattle.mapf_lemma_checker.specs.LemmaParts.{HasNoStatement, never_of, never_statement}
use Rattle.mapf_lemma_checker.specs.States.{JudgeState, ShowsLemma}
use Rattle.mapf_lemma_checker.proofs.lemma_judge.LemmaJudge.never.Goals as goal

pub returns-in_err-never-clause-refused : goal.returns-in_err-never-clause-refused
returns-in_err-never-clause-refused c =
    let problem = c.args.problem.now in
    let state = state_of c.args.self.now in
    let v = c.args.lemma in
    refused_through (HasNoStatement problem no_list (never_of v) None)
    ((next : JudgeState) → ShowsLemma problem state (never_of v) next → ⊥)
    (lemma_shows_none problem state (never_of v) None no_list refl)
    c.from_residual.result c.in_err-never.field-0.0 c.from_residual.ensures.1 c.in_err-never.ensures.refused

pub returns-clause-shown : goal.returns-clause-shown
returns-clause-shown c =
    let problem = c.args.problem.now in
    let judge = c.args.self.now in
    let next = c.learn.new.self in
    let v = c.args.lemma in
    let made = never_made c.in_ok-agents.agents.items c.new.result.items c.infinite.result _ v c.in_ok-agents.ensures c.new.ensures.items c.infinite.ensures c.lemma.view_is in
    let known = c.in_ok-learn.ensures.known ∙ ap (λ (s : Statement). judge.known.items ++ s ∷ []) made in
    lemma_shows problem (state_of judge) (never_of v) None no_list refl (never_statement v) (state_of next) c.in_ok-never.ensures.shown
    (lemma_state problem judge next c.never.new.self (never_statement v) c.learn.ensures.rest known
    (no_tree judge.case judge.tree c.requires.place))
