-- How a judge goes on when a node was judged.
use Rattle.std.proofs.Common.{◌≡◌, ◌∙◌, ◌∷◌, [], List, Option, None, Some, Result, IfErr, refl, sym, ap, subst}
use Rattle.std.specs.Prelude.{IsErrAnd}
use Rattle.mapf_cases.specs.Nodes.{CaseNode, BranchNode, Context, IsGoodNode, contexts_after}
use Rattle.mapf_cases.specs.Progress.{here_of, pending_by}
use Rattle.mapf_lemmas.specs.declared.split.Split.{Split}
use Rattle.mapf_lemmas.specs.Lemmas.{scope_of}
use Rattle.mapf_lemmas.specs.Statements.{Statement}
use Rattle.mapf_lemma_checker.specs.declared.fault.LemmaFault.{LemmaFault}
use Rattle.mapf_lemma_checker.specs.declared.lemma_judge.LemmaJudge.{LemmaJudge}
use Rattle.mapf_lemma_checker.specs.declared.tree_judge.OpenTree.{OpenTree}
use Rattle.mapf_lemma_checker.specs.Faults.{IsRefusedFor}
use Rattle.mapf_lemma_checker.specs.Judges.{state_of, tree_state}
use Rattle.mapf_lemma_checker.specs.States.{JudgeState, TreeState, ShowsNextNode, tree_in, with_tree}
use Rattle.mapf_lemma_checker.proofs.RefusalLemmas.{refused_through}
use Rattle.mapf_lemma_checker.proofs.StateLemmas.{node_showed, node_shows, split_some, stays_open, taken_going}
use Rattle.mapf_model.specs.Plan.{Instance}

-- the state with a tree depends on the lists, the statements and what the tree has to show alone
with_tree_from : (case : Option Statement) (pending : List Context) (old new : JudgeState) (tree after : TreeState) →
    new.lists ≡ old.lists → new.known ≡ old.known → after.speaks_of ≡ tree.speaks_of → after.least ≡ tree.least →
    with_tree new case after pending ≡ with_tree old case tree pending
with_tree_from None pending old new tree after lists known speaks_of least = rw (lists, known, speaks_of, least) refl
with_tree_from (Some statement) [] old new tree after lists known speaks_of least = rw (lists, known) refl
with_tree_from (Some statement) (here ∷ more) old new tree after lists known speaks_of least = rw (lists, known, speaks_of, least) refl

-- the tree was taken out of the judge, before a node that may come
pub record HasTaken (problem : Instance) (judge mid : LemmaJudge) (tree : OpenTree) : Type 0 where
  pub rest : mid ≡ record judge { tree = None }
  pub is : tree_state judge.case tree ≡ tree_in problem judge.target (state_of judge).tree
  pub place : (tree_in problem judge.target (state_of judge).tree).pending ≡ [] → ⊥

-- a node of the tree was judged
pub record HasJudged (problem : Instance) (tree after : OpenTree) (node : CaseNode) : Type 0 where
  pub agents : after.agents ≡ tree.agents
  pub target : after.target ≡ tree.target
  pub pending : pending_by after.progress ≡ contexts_after problem (pending_by tree.progress) node

module _ (problem : Instance) (judge mid : LemmaJudge) (tree : OpenTree) (taken : HasTaken problem judge mid tree) (node : CaseNode) where
  -- a node that isn't good is refused
  pub refused_node : {T : Type 0} (Shows : JudgeState → Type 0) →
      ((next : JudgeState) → Shows next → ShowsNextNode problem judge.target (state_of judge) node next) →
      (result : Result T LemmaFault) (fault : LemmaFault) → IsErrAnd result (λ given. given ≡ fault) →
      IsRefusedFor (IsGoodNode (scope_of problem judge.lists judge.known.items tree.agents) tree.target (here_of tree.progress) node → ⊥) fault →
      IfErr result (IsRefusedFor ((next : JudgeState) → Shows next → ⊥))
  refused_node Shows shown result fault same =
      refused_through (IsGoodNode (scope_of problem judge.lists judge.known.items tree.agents) tree.target (here_of tree.progress) node → ⊥)
      ((next : JudgeState) → Shows next → ⊥)
      (λ bad next shows. bad (node_showed problem judge.target (state_of judge) judge.case tree taken.is taken.place node next (shown next shows)))
      result fault same

  module _ (after : OpenTree) (judged : HasJudged problem tree after node) where
    -- a good node shows what it has to show
    pub goes_on : (next : JudgeState) →
        IsGoodNode (scope_of problem judge.lists judge.known.items tree.agents) tree.target (here_of tree.progress) node →
        next ≡ with_tree (state_of mid) mid.case (tree_state mid.case after) (pending_by after.progress) →
        ShowsNextNode problem judge.target (state_of judge) node next
    goes_on next good same =
        let emptied : LemmaJudge = record judge { tree = None } in
        let from : with_tree (state_of emptied) judge.case (tree_state judge.case after) (pending_by after.progress)
        ≡ with_tree (state_of judge) judge.case (tree_state judge.case tree) (pending_by after.progress) =
        with_tree_from judge.case (pending_by after.progress) (state_of judge) (state_of emptied) (tree_state judge.case tree) (tree_state judge.case after)
        refl refl judged.agents judged.target in
        let is : next ≡ with_tree (state_of judge) judge.case (tree_state judge.case tree) (pending_by after.progress) =
        same ∙ (ap (λ (j : LemmaJudge). with_tree (state_of j) j.case (tree_state j.case after) (pending_by after.progress)) taken.rest ∙ from) in
        subst (ShowsNextNode problem judge.target (state_of judge) node) (sym is)
        (node_shows problem judge.target (state_of judge) judge.case tree taken.is taken.place node (pending_by after.progress) good judged.pending)

    -- after a split the tree is judged further
    pub splits_on : (split : Split) → node ≡ BranchNode split →
        state_of (record mid { tree = Some after })
        ≡ with_tree (state_of mid) mid.case (tree_state mid.case after) (pending_by after.progress)
    splits_on split is =
        sym (stays_open mid.case (pending_by after.progress) (state_of mid) (tree_state mid.case after)
        (λ none. absurd (split_some problem tree.progress.is_over tree.progress.path split
        (taken_going problem judge.target (state_of judge) judge.case tree taken.is taken.place)
        (sym (ap (contexts_after problem (pending_by tree.progress)) is) ∙ (sym judged.pending ∙ none)))))
