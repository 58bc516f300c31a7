-- What the nodes of a tree are judged by.
use Rattle.std.specs.Prelude.{◌≡◌, ◌<◌, ◌≤◌, ⊤, ℕ, List, All, length}
use Rattle.mapf_cases.specs.Leaves.{AreTotalsOf, IsUnitInRange}
use Rattle.mapf_cases.specs.Leaves.{IsPlaceIn}
use Rattle.mapf_cases.specs.Nodes.{CaseNode, Context, IsGoodNode}
use Rattle.mapf_cases.specs.Progress.{HasNodeDefect}
use Rattle.mapf_cases.specs.declared.case_fault.CaseFault.{CaseFault}
use Rattle.mapf_cases.specs.declared.leaf_fault.LeafFault.{LeafFault}
use Rattle.mapf_cases.specs.declared.leaf_fault.LeafFault.TheVariants.{NotAllowed, TooWeak}
use Rattle.mapf_cases.specs.Ranges.{IsStatementInRange}
use Rattle.mapf_distance.specs.Tables.{AreStartDistances}
use Rattle.mapf_lemmas.specs.Groups.{Scope, LeafUses}
use Rattle.mapf_lemma_checker.specs.declared.tree_judge.NodeProblem.{NodeProblem}
use Rattle.mapf_lemma_checker.specs.declared.fault.LemmaFault.{LemmaFault}
use Rattle.mapf_lemma_checker.specs.Faults.{IsRefusedFor}
use Rattle.mapf_model.specs.declared.label.Label.{Label}
use Rattle.mapf_model.specs.Limits.{most_agents}

-- what the nodes are judged by is of this scope, which speaks of these agents
pub record IsScopeOf (node : NodeProblem) (speaks_of : List ℕ) (scope : Scope) : Type 0 where
  pub problem_is : scope.problem ≡ node.problem.now
  pub known_is : scope.known ≡ node.known.now
  pub agents_are : scope.agents ≡ speaks_of
  pub lists_are : AreTotalsOf scope.lists node.list_totals.now
  pub distances_are : AreStartDistances scope.problem node.start_distances.now

-- it is in range
pub record IsNodeProblemInRange (node : NodeProblem) (speaks_of : List ℕ) : Type 0 where
  pub statements : All IsStatementInRange node.known.now
  pub units : All IsUnitInRange node.list_totals.now
  pub few : length speaks_of ≤ most_agents
  pub are_agents : All (λ agent. agent < length node.start_distances.now) speaks_of

-- a node for which the judge of its tree gives the first error is refused with the second
abbrev pub RefusesNode : CaseFault → LemmaFault → Type 0
RefusesNode fault refusal =
    (scope : Scope) (least : Label) (here : Context) (node : CaseNode) → HasNodeDefect scope here node fault →
    IsRefusedFor (IsGoodNode scope least here node → ⊥) refusal

-- the use of which the error speaks, if it speaks of one, is one of the leaf's
abbrev pub IsPlaceOfFault : LeafUses → LeafFault → Type 0
IsPlaceOfFault uses (NotAllowed place) = IsPlaceIn uses place
IsPlaceOfFault uses TooWeak = ⊤
