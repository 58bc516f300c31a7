-- The scope of a tree whose nodes are judged.
use Rattle.std.proofs.Common.{List, ℕ, ◌≡◌}
use Rattle.mapf_cases.specs.Splits.{IsScopeWith}
use Rattle.mapf_lemmas.specs.Groups.{Scope}
use Rattle.mapf_lemma_checker.specs.Trees.{IsScopeOf}
use Rattle.mapf_lemma_checker.specs.declared.tree_judge.NodeProblem.{NodeProblem}

-- what the judge of splits asks of it
pub scope_with : (node : NodeProblem) (agents : List ℕ) (scope : Scope) → IsScopeOf node agents scope →
    IsScopeWith node.problem.now node.known.now agents scope
scope_with node agents scope are = record {
  problem_is = are.problem_is;
  known_is = are.known_is;
  agents_are = are.agents_are;
}
