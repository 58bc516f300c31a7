-- Examples of the definitions on small problems.
use Rattle.std.specs.Prelude.{◌≡◌, ℕ, true, List, [], ◌∷◌, Some, None}
use Rattle.mapf_model.specs.declared.bar.Bar.TheVariants.{Cell, Move}
use Rattle.mapf_model.specs.declared.conflict.Conflict.TheVariants.{Swap}
use Rattle.mapf_model.specs.declared.item.Claim.TheVariants.{Impossible}
use Rattle.mapf_model.specs.declared.label.Entry.{Entry}
use Rattle.mapf_model.specs.declared.label.Label.{Label}
use Rattle.mapf_model.specs.declared.label.Label.TheVariants.{Ticks}
use Rattle.mapf_model.specs.declared.problem.Agent.{Agent}
use Rattle.mapf_model.specs.Blocks.{LabelBlock}
use Rattle.mapf_model.specs.Grid.{GridMap}
use Rattle.mapf_model.specs.Labels.{entries_of, AreSound}
use Rattle.mapf_model.specs.Plan.{Instance, IsValid}
use Rattle.mapf_model.specs.Tree.{Clash, NodeContext, root, left_child_context, right_child_context, AreBlocksSound}
use Rattle.mapf_model.specs.Tree.{Shows}

-- three by three free cells
abbrev pub open_square : GridMap
open_square = record { width = 3; height = 3; free = true ∷ true ∷ true ∷ true ∷ true ∷ true ∷ true ∷ true ∷ true ∷ [] }

-- free cells side by side
abbrev pub two_cells : GridMap
two_cells = record { width = 2; height = 1; free = true ∷ true ∷ [] }

-- three free cells in a row
abbrev pub three_cells : GridMap
three_cells = record { width = 3; height = 1; free = true ∷ true ∷ true ∷ [] }

-- an entry by its parts
abbrev pub entry : ℕ → ℕ → Label → Entry
entry cell tick label = record { cell = cell; tick = tick; label = label }

-- an agent by its parts
abbrev pub agent : ℕ → ℕ → Agent
agent start goal = record { start = start; goal = goal }

-- an agent from the left of the square to its right that may not be in the middle at tick 1 can wait and arrive after 3
-- ticks, so 4 is not a sound label at its start
abbrev pub WaitingBoundsALabel : Type 0
WaitingBoundsALabel = AreSound open_square 5 (Cell 4 1 ∷ []) (entries_of (entry 3 0 (Ticks 4) ∷ [])) → ⊥

-- no label is raised at a goal that no constraint forbids
abbrev pub NoLabelIsRaisedAtAFreeGoal : Type 0
NoLabelIsRaisedAtAFreeGoal =
    AreSound open_square 7 (Cell 4 1 ∷ []) (entries_of (entry 1 0 (Ticks 3) ∷ entry 7 0 (Ticks 1) ∷ [])) → ⊥

-- two agents with the same goal can't both stay there
abbrev pub one_goal : Instance
one_goal = record { grid = three_cells; agents = agent 0 1 ∷ agent 2 1 ∷ [] }

-- a clash of two agents with the same goal shows that no plan is valid
abbrev pub AClashShowsImpossibility : Type 0
AClashShowsImpossibility = Shows one_goal Impossible (Clash 0 1)

-- two agents with the same start are in one cell at tick 0
abbrev pub one_start : Instance
one_start = record { grid = three_cells; agents = agent 0 1 ∷ agent 0 2 ∷ [] }

-- two agents with the same start have no valid plan
abbrev pub OneStartIsNoPlan : Type 0
OneStartIsNoPlan = (plan : List (List ℕ)) → IsValid one_start plan → ⊥

-- neighbours may not exchange their cells
abbrev pub neighbours : Instance
neighbours = record { grid = two_cells; agents = agent 0 1 ∷ agent 1 0 ∷ [] }

-- neighbours that exchange their cells at once are no valid plan
abbrev pub SwappingIsNoPlan : Type 0
SwappingIsNoPlan = IsValid neighbours ((0 ∷ 1 ∷ []) ∷ (1 ∷ 0 ∷ []) ∷ []) → ⊥

-- in the children of a split on a swap, the first agent is forbidden its move, the second its own
abbrev pub EachChildBarsItsAgent : Type 0
EachChildBarsItsAgent =
    ((left_child_context root (Swap 0 1 3 4 5) []).bars 0 ≡ Move 3 4 5 ∷ [])
    × ((left_child_context root (Swap 0 1 3 4 5) []).bars 1 ≡ []) ×
    ((right_child_context root (Swap 0 1 3 4 5) []).bars 0 ≡ [])
    × ((right_child_context root (Swap 0 1 3 4 5) []).bars 1 ≡ Move 4 3 5 ∷ [])

-- an agent from the left of the square to its right, and one from its top to its bottom: shortest paths meet in the
-- middle at tick 1
abbrev pub crossing : Instance
crossing = record { grid = open_square; agents = agent 3 5 ∷ agent 1 7 ∷ [] }

-- a block of an agent with one entry
abbrev pub block : ℕ → Entry → LabelBlock
block agent entry = record { agent = agent; entries = entry ∷ [] }

-- what the left child of a split on a swap of agents 0 and 1 inherits from the split, which has this block
abbrev pub left_below : NodeContext → LabelBlock → NodeContext
left_below context block = left_child_context context (Swap 0 1 3 4 5) (block ∷ [])

-- what the right child inherits
abbrev pub right_below : NodeContext → LabelBlock → NodeContext
right_below context block = right_child_context context (Swap 0 1 3 4 5) (block ∷ [])

-- both children inherit the labels of a split's block; they are those of its agent alone; a block below replaces all
-- labels of its agent, and none of another
abbrev pub ChildrenInheritLabels : Type 0
ChildrenInheritLabels =
    ((left_below root (block 0 (entry 3 0 (Ticks 4)))).entries 0 3 0 ≡ Some (Ticks 4)) ×
    ((right_below root (block 0 (entry 3 0 (Ticks 4)))).entries 0 3 0 ≡ Some (Ticks 4)) ×
    ((left_below root (block 0 (entry 3 0 (Ticks 4)))).entries 1 3 0 ≡ None) ×
    ((right_below (left_below root (block 0 (entry 3 0 (Ticks 4)))) (block 0 (entry 3 1 (Ticks 3)))).entries 0 3 0
    ≡ None) ×
    ((right_below (left_below root (block 0 (entry 3 0 (Ticks 4)))) (block 1 (entry 3 1 (Ticks 3)))).entries 0 3 0
    ≡ Some (Ticks 4))

-- a split's block is judged without the constraints that its children add: no constraint forbids the first agent the
-- middle yet, so 3 ticks is not a sound label at its start
abbrev pub SplitsAreJudgedByTheirOwnBars : Type 0
SplitsAreJudgedByTheirOwnBars = AreBlocksSound crossing root (block 0 (entry 3 0 (Ticks 3)) ∷ []) → ⊥
