-- How the state of a judge goes on.
use Rattle.std.proofs.lemmas.List.Elements.{All-push}
use Rattle.std.proofs.Common.{◌≡◌, ◌∙◌, ◌++◌, ◌∷◌, [], ℕ, Bool, true, false, List, All, Option, None, Some, IfNone, IfSome, IfOk, Result, Ok, Err, option_map, refl, sym, ap, subst}
use Rattle.mapf_cases.specs.Nodes.{CaseNode, BranchNode, Context, IsGoodNode, contexts_after}
use Rattle.mapf_cases.specs.Paths.{PathView, contexts_of}
use Rattle.mapf_cases.specs.Progress.{here_of, pending_at, pending_by}
use Rattle.mapf_cases.specs.Ranges.{IsStatementInRange}
use Rattle.mapf_lemmas.specs.declared.split.Split.{Split}
use Rattle.mapf_lemmas.specs.declared.split.Split.TheVariants as splits
use Rattle.mapf_lemmas.specs.declared.constraint.AgentConstraint.{AgentConstraint}
use Rattle.mapf_lemmas.specs.Lemmas.{all_agents, scope_of}
use Rattle.mapf_lemmas.specs.Statements.{Statement, constraints_of}
use Rattle.mapf_lemma_checker.specs.declared.lemma_judge.LemmaJudge.{LemmaJudge}
use Rattle.mapf_lemma_checker.specs.declared.tree_judge.OpenTree.{OpenTree}
use Rattle.mapf_lemma_checker.specs.States.{JudgeState, TreeState, IsPlaceFor, ShowsNode, ShowsNextNode, ShowsPart, last_tree, tree_in, with_tree}
use Rattle.mapf_lemma_checker.specs.Judges.{AreSpokenOf, IsReady, tree_state}
use Rattle.mapf_lemma_texts.specs.WholeTexts.{split_part}
use Rattle.mapf_model.specs.declared.label.Label.{Label}
use Rattle.mapf_model.specs.Plan.{Instance}

module _ (problem : Instance) (target : Label) (state : JudgeState) where
  -- the part of a split shows what its node shows
  pub split_shows : (split : Split) (next : JudgeState) → ShowsNextNode problem target state (BranchNode split) next →
      ShowsPart problem target state (split_part split) next
  split_shows (splits.Vertex i j cell tick) next shows = shows
  split_shows (splits.Swap i j from to tick) next shows = shows
  split_shows (splits.Cost i ticks) next shows = shows
  split_shows (splits.Costs i ticks j least lemma) next shows = shows

  pub split_showed : (split : Split) (next : JudgeState) → ShowsPart problem target state (split_part split) next →
      ShowsNextNode problem target state (BranchNode split) next
  split_showed (splits.Vertex i j cell tick) next shows = shows
  split_showed (splits.Swap i j from to tick) next shows = shows
  split_showed (splits.Cost i ticks) next shows = shows
  split_showed (splits.Costs i ticks j least lemma) next shows = shows

  -- and comes where a node may come
  pub split_place : (split : Split) → IsPlaceFor problem target state (split_part split) →
      (tree_in problem target state.tree).pending ≡ [] → ⊥
  split_place (splits.Vertex i j cell tick) place = place
  split_place (splits.Swap i j from to tick) place = place
  split_place (splits.Cost i ticks) place = place
  split_place (splits.Costs i ticks j least lemma) place = place

module _ (problem : Instance) (target : Label) (state : JudgeState) (case : Option Statement) (tree : OpenTree)
    (is : tree_state case tree ≡ tree_in problem target state.tree)
    (place : (tree_in problem target state.tree).pending ≡ [] → ⊥) where
  -- the tree that is taken isn't over
  pub taken_going : tree.progress.is_over ≡ false
  taken_going = by tree.progress.is_over refl
    where
      by : (over : Bool) → tree.progress.is_over ≡ over → over ≡ false
      by false same = refl
      by true same = absurd (place (subst (λ (t : TreeState). t.pending ≡ []) is
          (ap (λ over. pending_at over (contexts_of tree.progress.path)) same)))

  -- its next node and the node after it
  pub node_shows : (node : CaseNode) (after : List Context) →
      IsGoodNode (scope_of problem state.lists state.known tree.agents) tree.target (here_of tree.progress) node →
      after ≡ contexts_after problem (pending_by tree.progress) node →
      ShowsNextNode problem target state node (with_tree state case (tree_state case tree) after)
  node_shows node after good same =
      subst (λ (t : TreeState). ShowsNode problem state t t.pending node (with_tree state case (tree_state case tree) after)) is
      (by tree.progress.is_over taken_going same)
    where
      by : (over : Bool) → over ≡ false → after ≡ contexts_after problem (pending_at over (contexts_of tree.progress.path)) node →
          ShowsNode problem state (tree_state case tree) (pending_at over (contexts_of tree.progress.path)) node
          (with_tree state case (tree_state case tree) after)
      by true going same = absurd cc
      by false going same = (good, ap (with_tree state case (tree_state case tree)) same)

  -- a node that shows what it has to show is good
  pub node_showed : (node : CaseNode) (next : JudgeState) → ShowsNextNode problem target state node next →
      IsGoodNode (scope_of problem state.lists state.known tree.agents) tree.target (here_of tree.progress) node
  node_showed node next shows =
      by tree.progress.is_over (subst (λ (t : TreeState). ShowsNode problem state t t.pending node next) (sym is) shows)
    where
      by : (over : Bool) → ShowsNode problem state (tree_state case tree) (pending_at over (contexts_of tree.progress.path)) node next →
          IsGoodNode (scope_of problem state.lists state.known tree.agents) tree.target (here_of tree.progress) node
      by true shows = absurd shows
      by false shows = shows.0

-- after a split some node is still to come
pub split_some : (problem : Instance) (over : Bool) (view : PathView) (split : Split) → over ≡ false →
    contexts_after problem (pending_at over (contexts_of view)) (BranchNode split) ≡ [] → ⊥
split_some problem true view split going none = absurd cc
split_some problem false view split going none = absurd cc

-- a tree stays open while nodes are to come, or if it is the last one
pub stays_open : (case : Option Statement) (pending : List Context) (state : JudgeState) (tree : TreeState) →
    (pending ≡ [] → case ≡ None) → with_tree state case tree pending ≡ record {
      lists = state.lists;
      known = state.known;
      tree = Some (record { case = case; speaks_of = tree.speaks_of; least = tree.least; pending = pending });
    }
stays_open None pending state tree last = refl
stays_open (Some statement) [] state tree last = absurd (cc (last refl))
stays_open (Some statement) (here ∷ more) state tree last = refl

module _ (problem : Instance) (target : Label) (case : Option Statement) (no_case : case ≡ None) where
  -- a tree of all agents that has to show the target, where no constraint stands, is the last tree
  last_state : (tree : OpenTree) → tree.agents ≡ all_agents problem → tree.target ≡ target →
      pending_by tree.progress ≡ (λ agent. []) ∷ [] → tree_state case tree ≡ last_tree problem target
  last_state tree agents least pending =
      ap (λ (c : Option Statement). record { case = c; speaks_of = tree.agents; least = tree.target; pending = pending_by tree.progress }) no_case
      ∙ (ap (λ (xs : List ℕ). record { case = None; speaks_of = xs; least = tree.target; pending = pending_by tree.progress }) agents
      ∙ (ap (λ (l : Label). record { case = None; speaks_of = all_agents problem; least = l; pending = pending_by tree.progress }) least
      ∙ ap (λ (cs : List Context). record { case = None; speaks_of = all_agents problem; least = target; pending = cs }) pending))

  -- so is the tree that is opened as the last one
  pub opened_last : {E : Type 0} (opened : Result OpenTree E) (agents : List ℕ) (constraints : List AgentConstraint) →
      agents ≡ all_agents problem → constraints ≡ [] → IfOk opened (λ tree. tree.agents ≡ agents) →
      IfOk opened (λ tree. tree.target ≡ target) →
      IfOk opened (λ tree. pending_by tree.progress ≡ constraints_of constraints ∷ []) →
      IfOk opened (λ tree. tree_state case tree ≡ last_tree problem target)
  opened_last (Ok tree) agents constraints are none listed least pending =
      last_state tree (listed ∙ are) least
      (subst (λ (cs : List AgentConstraint). pending_by tree.progress ≡ constraints_of cs ∷ []) none pending)
  opened_last (Err fault) agents constraints are none listed least pending = tt

-- no tree is judged
pub no_tree : (case : Option Statement) (tree : Option OpenTree) → option_map (tree_state case) tree ≡ None → tree ≡ None
no_tree case None none = refl
no_tree case (Some tree) none = absurd cc

-- then no lemma by cases is
pub no_case : (problem : Instance) (judge : LemmaJudge) → IsReady problem judge → judge.tree ≡ None → judge.case ≡ None
no_case problem judge ready none = subst (λ (tree : Option OpenTree). IfNone tree (judge.case ≡ None)) none ready.opened

-- a judge that knows the statement of its lemma by cases, whose tree is over, is ready for the next part
pub case_ready : (problem : Instance) (judge next : LemmaJudge) (tree : OpenTree) (statement : Statement) →
    judge.tree ≡ None → judge.case ≡ Some statement → next ≡ record judge { known = next.known; case = None } →
    IsReady problem (record judge { tree = Some tree }) →
    next.known.items ≡ judge.known.items ++ statement ∷ [] → IsReady problem next
case_ready problem judge next tree statement none case same ready known =
    let in_range = subst (λ (c : Option Statement). IfSome c IsStatementInRange) case ready.shown in
    subst (IsReady problem) (sym same) (record {
      few = ready.few;
      tables = ready.tables;
      distances = ready.distances;
      statements = subst (All IsStatementInRange) (sym known)
          (All-push IsStatementInRange judge.known.items statement ready.statements in_range);
      work = ready.work;
      agents_in = subst (λ (t : Option OpenTree). IfSome t (λ opened. AreSpokenOf problem opened.agents)) (sym none) tt;
      opened = subst (λ (t : Option OpenTree). IfNone t (◌≡◌ {A = Option Statement} None None)) (sym none) refl;
      shown = tt;
    })
