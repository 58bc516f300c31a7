-- What is right, or wrong, with a node of a certificate's tree.
use Rattle.std.specs.Prelude.{◌≡◌, ◌⊎◌, ℕ, List, Some, Contains, slice_get}
use Rattle.mapf_model.specs.declared.item.Claim.{Claim}
use Rattle.mapf_model.specs.declared.label.Entry.{Entry}
use Rattle.mapf_model.specs.declared.problem.Agent.{Agent}
use Rattle.mapf_model.specs.Blocks.{LabelBlock}
use Rattle.mapf_model.specs.Labels.{entries_of, IsSoundEntry}
use Rattle.mapf_model.specs.Plan.{Instance}
use Rattle.mapf_model.specs.Tree.{Node, SplitNode, LeafNode, ClashNode, NodeContext, Leaf, IsProperSplit, SplitShows}
use Rattle.mapf_model.specs.Tree.{ShareGoal, ShowsFrom, StartsShow, with_blocks}
use Rattle.mapf_checker.specs.declared.fault.CheckFault.{CheckFault}
use Rattle.mapf_checker.specs.declared.fault.CheckFault.TheVariants.{C6, C7, C8, C9}
use Rattle.mapf_checker.specs.declared.judge.AgentProblem.{AgentProblem}
use Rattle.mapf_checker.specs.AgentProblem.{IsSoundAmong}

-- the entry at this index isn't sound
pub record IsUnsoundAt (own : AgentProblem) (entries : List Entry) (place : ℕ) : Type 0 where
  pub entry : Entry
  pub is_entry : slice_get entries place ≡ Some entry
  pub unsound : IsSoundAmong own entries entry → ⊥

-- an entry of the block isn't sound under the constraints of its agent
pub record HasUnsoundEntry (problem : Instance) (here : NodeContext) (block : LabelBlock) : Type 0 where
  pub agent : Agent
  pub is_agent : slice_get problem.agents block.agent ≡ Some agent
  pub entry : Entry
  pub listed : Contains block.entries entry
  pub unsound : IsSoundEntry problem.grid agent.goal (here.bars block.agent) (entries_of block.entries) entry.cell
      entry.tick entry.label → ⊥

-- one of the blocks has such an entry
pub record HasUnsoundBlock (problem : Instance) (here : NodeContext) (blocks : List LabelBlock) : Type 0 where
  pub block : LabelBlock
  pub listed : Contains blocks block
  pub unsound : HasUnsoundEntry problem here block

-- the refusal is C7, and one of the blocks has such an entry
abbrev pub IsUnsoundLabel : Instance → NodeContext → List LabelBlock → CheckFault → Type 0
IsUnsoundLabel problem here blocks fault = (line : ℕ) × (fault ≡ C7 line) × HasUnsoundBlock problem here blocks

-- what a refusal says of the node, which inherits this: C6 that a split's conflict isn't proper, C7 that a label of its
-- blocks isn't sound, C8 that the labels of the starts don't show the claim, C9 that the agents of a clash are equal or
-- don't share a goal
abbrev pub HasNodeDefect : Instance → Claim → NodeContext → Node → CheckFault → Type 0
HasNodeDefect problem claim here (SplitNode conflict blocks) fault =
    ((line : ℕ) × (fault ≡ C6 line) × (IsProperSplit problem conflict → ⊥)) ⊎ IsUnsoundLabel problem here blocks fault
HasNodeDefect problem claim here (LeafNode blocks) fault =
    IsUnsoundLabel problem here blocks fault
    ⊎ ((line : ℕ) × (fault ≡ C8 line) × (StartsShow problem claim (with_blocks blocks here.entries) → ⊥))
HasNodeDefect problem claim here (ClashNode i j) fault = (line : ℕ) × (fault ≡ C9 line) × (ShareGoal problem i j → ⊥)

-- the node by itself shows the claim: a split's conflict is proper and its labels are sound, a leaf's labels are sound
-- and enough, and the agents of a clash share their goal
abbrev pub IsGoodNode : Instance → Claim → NodeContext → Node → Type 0
IsGoodNode problem claim here (SplitNode conflict blocks) = SplitShows problem here conflict blocks
IsGoodNode problem claim here (LeafNode blocks) = ShowsFrom problem claim here (Leaf blocks)
IsGoodNode problem claim here (ClashNode i j) = ShareGoal problem i j
