-- What the judge of a tree of cases rests on.
use Rattle.std.specs.Prelude.{◌≡◌, ◌≢◌, ◌↔◌, List, [], ◌∷◌}
use Rattle.mapf_lemmas.specs.Cases.{CaseTree, TreeShows}
use Rattle.mapf_lemmas.specs.Groups.{Scope}
use Rattle.mapf_model.specs.declared.label.Label.{Label}
use Rattle.mapf_cases.specs.declared.case_fault.CaseFault.{CaseFault}
use Rattle.mapf_cases.specs.declared.case_fault.CaseFault.TheVariants.{Memory}
use Rattle.mapf_cases.specs.Nodes.{CaseNode, Context, IsGoodNode, NodesShow, contexts_after, nodes_of}
use Rattle.mapf_cases.specs.Progress.{HasNodeDefect}

-- nodes show what the first of them shows by itself, and what the others show after it
abbrev pub FrontDecides : Type 0
FrontDecides =
    (scope : Scope) (target : Label) (here : Context) (pending : List Context) (node : CaseNode)
    (rest : List CaseNode) → NodesShow scope target (here ∷ pending) (node ∷ rest)
    ↔ (IsGoodNode scope target here node
    × NodesShow scope target (contexts_after scope.problem (here ∷ pending) node) rest)

-- where no tree is expected, no nodes are
abbrev pub NoneIsExpected : Type 0
NoneIsExpected =
    (scope : Scope) (target : Label) (nodes : List CaseNode) → NodesShow scope target [] nodes ↔ (nodes ≡ [])

-- where a tree is expected, some node is
abbrev pub SomeIsExpected : Type 0
SomeIsExpected =
    (scope : Scope) (target : Label) (here : Context) (pending : List Context) →
    NodesShow scope target (here ∷ pending) [] → ⊥

-- the nodes of a tree show exactly what the tree shows
abbrev pub NodesShowTheirTree : Type 0
NodesShowTheirTree =
    (scope : Scope) (target : Label) (tree : CaseTree) (root : Context) →
    NodesShow scope target (root ∷ []) (nodes_of tree) ↔ TreeShows scope target root tree

-- a node with a defect isn't good
abbrev pub DefectsRefute : Type 0
DefectsRefute =
    (scope : Scope) (target : Label) (here : Context) (node : CaseNode) (fault : CaseFault) → fault ≢ Memory →
    HasNodeDefect scope here node fault → IsGoodNode scope target here node → ⊥
