use Rattle.std.proofs.Common.{◌∙◌, ◌++◌, ◌∷◌, [], ℕ, Option, ap, subst}
use Rattle.mapf_lemmas.specs.Statements.{Statement, IsListOf}
use Rattle.mapf_lemma_checker.proofs.LearnedLemmas.{lemma_shows, lemma_shows_none, lemma_state, one_made}
use Rattle.mapf_lemma_checker.proofs.RefusalLemmas.{refused_through}
use Rattle.mapf_lemma_checker.proofs.StateLemmas.{no_tree}
use Rattle.mapf_lemma_checker.specs.Judges.{state_of}
use Rattle.mapf_lemma_checker.specs.LemmaParts.{HasNoStatement, one_of, one_statement}
use Rattle.mapf_lemma_checker.specs.States.{JudgeState, ShowsLemma}
use Rattle.mapf_lemma_texts.specs.PartValues.{OneValue}
use Rattle.mapf_lemma_checker.proofs.lemma_judge.LemmaJudge.one.Goals as goal

pub returns-in_err-bound-clause-refused : goal.returns-in_err-bound-clause-refused
returns-in_err-bound-clause-refused c =
    let problem = c.args.problem.now in
    let state = state_of c.args.self.now in
    let v = c.args.lemma in
    let list = c.table-prices.result.now in
    let is = subst (λ (n : Option ℕ). IsListOf state.lists n list) (ap (λ (w : OneValue). w.list_number) c.lemma.view_is) c.table-prices.ensures.is in
    refused_through (HasNoStatement problem list (one_of v) v.list_number)
    ((next : JudgeState) → ShowsLemma problem state (one_of v) next → ⊥)
    (lemma_shows_none problem state (one_of v) v.list_number list is)
    c.from_residual.result c.in_err-bound.field-0.0 c.from_residual.ensures.1 c.in_err-bound.ensures.refused

pub returns-clause-shown : goal.returns-clause-shown
returns-clause-shown c =
    let problem = c.args.problem.now in
    let judge = c.args.self.now in
    let next = c.learn.new.self in
    let v = c.args.lemma in
    let list = c.table-prices.result.now in
    let is = subst (λ (n : Option ℕ). IsListOf judge.lists n list) (ap (λ (w : OneValue). w.list_number) c.lemma.view_is) c.table-prices.ensures.is in
    let made = one_made c.in_ok-agents.agents.items _ v c.in_ok-bound.bound c.in_ok-agents.ensures c.lemma.view_is in
    let known = c.in_ok-learn.ensures.known ∙ ap (λ (s : Statement). judge.known.items ++ s ∷ []) made in
    lemma_shows problem (state_of judge) (one_of v) v.list_number list is (one_statement v c.in_ok-bound.bound) (state_of next)
    c.in_ok-bound.ensures.shown
    (lemma_state problem judge next c.one.new.self (one_statement v c.in_ok-bound.bound) c.learn.ensures.rest known
    (no_tree judge.case judge.tree c.requires.place))
