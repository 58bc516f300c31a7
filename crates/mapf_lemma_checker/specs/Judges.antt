-- How far a judge has judged a certificate, and what holds of what it keeps.
use Rattle.std.specs.Prelude.{◌≡◌, ℕ, ◌<◌, ◌≤◌, List, Option, IfSome, IfNone, None, All, length, option_map}
use Rattle.mapf_cases.specs.Progress.{pending_by}
use Rattle.mapf_cases.specs.Ranges.{IsStatementInRange}
use Rattle.mapf_distance.specs.Tables.{AreMade, AreStartDistances}
use Rattle.mapf_lemmas.specs.Statements.{Statement}
use Rattle.mapf_lemma_checker.specs.declared.lemma_judge.LemmaJudge.{LemmaJudge}
use Rattle.mapf_lemma_checker.specs.declared.tree_judge.OpenTree.{OpenTree}
use Rattle.mapf_lemma_checker.specs.States.{TreeState, JudgeState}
use Rattle.mapf_model.specs.Limits.{most_agents}
use Rattle.mapf_model.specs.Plan.{Instance}

-- the state of an open tree
abbrev pub tree_state : Option Statement → OpenTree → TreeState
tree_state statement tree = record {
  case = statement;
  speaks_of = tree.agents;
  least = tree.target;
  pending = pending_by tree.progress;
}

-- the state of a judge
abbrev pub state_of : LemmaJudge → JudgeState
state_of judge = record {
  lists = judge.lists;
  known = judge.known.items;
  tree = option_map (tree_state judge.case) judge.tree;
}

-- the agents of which a tree speaks are of the problem, at most 200
abbrev pub AreSpokenOf : Instance → List ℕ → Type 0
AreSpokenOf problem agents = All (λ agent. agent < length problem.agents) agents × (length agents ≤ most_agents)

-- what a judge keeps is of the problem and in range, and a lemma by cases is judged only where a tree is
pub record IsReady (problem : Instance) (judge : LemmaJudge) : Type 0 where
  pub few : length problem.agents ≤ most_agents
  pub tables : AreMade problem judge.labels.tables
  pub distances : AreStartDistances problem judge.start_distances.items
  pub statements : All IsStatementInRange judge.known.items
  pub work : judge.leaf_work ≡ length problem.agents
  pub agents_in : IfSome judge.tree (λ tree. AreSpokenOf problem tree.agents)
  pub opened : IfNone judge.tree (judge.case ≡ None)
  pub shown : IfSome judge.case IsStatementInRange
