-- How far a tree of cases was judged.
use Rattle.std.specs.Prelude.{⊤, Bool, true, false, List, []}
use Rattle.mapf_lemmas.specs.Groups.{Scope}
use Rattle.mapf_model.specs.Tree.{ShareGoal}
use Rattle.mapf_cases.specs.declared.case_fault.CaseFault.{CaseFault}
use Rattle.mapf_cases.specs.declared.case_fault.CaseFault.TheVariants.{Memory, Split, FalseClash}
use Rattle.mapf_cases.specs.declared.case_tree.CaseProgress.{CaseProgress}
use Rattle.mapf_cases.specs.declared.case_tree.TreeProblem.{TreeProblem}
use Rattle.mapf_cases.specs.Nodes.{CaseNode, BranchNode, ClashNode, Context}
use Rattle.mapf_cases.specs.Paths.{contexts_of}
use Rattle.mapf_cases.specs.Splits.{IsScopeWith, HasSplitDefect}
use Rattle.mapf_cases.specs.Standing.{constraints_after}

-- what the nodes are judged by is of this scope
abbrev pub IsScopeOf : TreeProblem → Scope → Type 0
IsScopeOf tree scope = IsScopeWith tree.problem.now tree.known.now tree.agents.now scope

-- what stands where trees are still expected, nothing after the end
abbrev pub pending_at : Bool → List Context → List Context
pending_at true contexts = []
pending_at false contexts = contexts

-- what stands where trees are still expected
abbrev pub pending_by : CaseProgress → List Context
pending_by progress = pending_at progress.is_over (contexts_of progress.path)

-- what stands at the node that is judged next
abbrev pub here_of : CaseProgress → Context
here_of progress = constraints_after progress.path.standing

-- what the fault says of a node where these constraints stand
abbrev pub HasNodeDefect : Scope → Context → CaseNode → CaseFault → Type 0
HasNodeDefect scope here node Memory = ⊤
HasNodeDefect scope here (BranchNode split) (Split fault) = HasSplitDefect scope here split fault
HasNodeDefect scope here (ClashNode i j) FalseClash = ShareGoal scope.problem i j → ⊥
HasNodeDefect scope here node other = ⊥
