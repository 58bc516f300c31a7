-- Contexts in which each tree shows the same.
use Rattle.std.proofs.Common.{◌≡◌, ℕ, List, Option, Some, None, slice_get, refl, subst, ap}
use Rattle.mapf_model.specs.declared.bar.Bar.{Bar}
use Rattle.mapf_model.specs.declared.constraint.Constraint.{Constraint}
use Rattle.mapf_model.specs.declared.item.Claim.{Claim}
use Rattle.mapf_model.specs.declared.item.Claim.TheVariants.{Cost, Bound, Impossible}
use Rattle.mapf_model.specs.declared.label.Label.{Label}
use Rattle.mapf_model.specs.declared.label.Label.TheVariants.{Never}
use Rattle.mapf_model.specs.declared.problem.Agent.{Agent}
use Rattle.mapf_model.specs.Blocks.{LabelBlock}
use Rattle.mapf_model.specs.Labels.{Entries, IsEntryOrDistance, AreSound, entries_of}
use Rattle.mapf_model.specs.Laws.{AreAlike, OnlySplitsHandOnEntries}
use Rattle.mapf_model.specs.Plan.{Instance}
use Rattle.mapf_model.specs.Tree.{ConstraintTree, Split, Leaf, Clash, NodeContext, root, HasBlocksAtLeavesAlone, child_context, left_child_context, right_child_context, left_constraint, right_constraint, with_constraint, block_of, entries_or, with_blocks, AtEachNode, IsProperNode, NodeShows, AreBlocksSound, StartsReach, StartsShow, ShowsFrom}

-- what the nodes by themselves are doesn't hang on the context
proper_anywhere : (problem : Instance) (a b : NodeContext) (tree : ConstraintTree) → AtEachNode (λ context node. IsProperNode problem node) a tree → AtEachNode (λ context node. IsProperNode problem node) b tree
proper_anywhere problem a b (Split conflict blocks left right) (here, on_left, on_right) = (
  here,
  proper_anywhere problem (left_child_context a conflict blocks) (left_child_context b conflict blocks) left on_left,
  proper_anywhere problem (right_child_context a conflict blocks) (right_child_context b conflict blocks) right on_right,
)
proper_anywhere problem a b (Leaf blocks) proper = proper
proper_anywhere problem a b (Clash i j) proper = proper

module _ (problem : Instance) where
  -- an agent's entry of a state is that of its block, or the inherited one
  same_entry : (blocks : List LabelBlock) (a b : ℕ → Entries) (i cell tick : ℕ) → a i cell tick ≡ b i cell tick → with_blocks blocks a i cell tick ≡ with_blocks blocks b i cell tick
  same_entry blocks a b i cell tick same = by_block (block_of blocks i)
    where
      by_block : (found : Option LabelBlock) → entries_or found (a i) cell tick ≡ entries_or found (b i) cell tick
      by_block None = same
      by_block (Some block) = refl

  pub children_alike : (a b : NodeContext) (blocks : List LabelBlock) (constraint : Constraint) → AreAlike problem a b → AreAlike problem (child_context a blocks constraint) (child_context b blocks constraint)
  children_alike a b blocks constraint alike = record {
    bars = ap (λ bars. with_constraint bars constraint) alike.bars;
    starts = λ i agent is. same_entry blocks a.entries b.entries i agent.start 0 (alike.starts i agent is);
  }

  blocks_sound : (a b : NodeContext) (blocks : List LabelBlock) → AreAlike problem a b → AreBlocksSound problem a blocks → AreBlocksSound problem b blocks
  blocks_sound a b blocks alike sound i agent block is found =
      subst (λ (bars : ℕ → List Bar). AreSound problem.grid agent.goal (bars i) (entries_of block.entries)) alike.bars (sound i agent block is found)

  starts_reach : (total : ℕ) (a b : ℕ → Entries) → ((i : ℕ) (agent : Agent) → slice_get problem.agents i ≡ Some agent → a i agent.start 0 ≡ b i agent.start 0) → StartsReach problem total a → StartsReach problem total b
  starts_reach total a b same (labels, starts, enough) = (
    labels,
    record {
      count = starts.count;
      each = λ i agent label is at. subst (λ (entry : Option Label). IsEntryOrDistance problem.grid agent.goal agent.start entry label) (same i agent is) (starts.each i agent label is at);
    },
    enough,
  )

  starts_show : (claim : Claim) (a b : ℕ → Entries) → ((i : ℕ) (agent : Agent) → slice_get problem.agents i ≡ Some agent → a i agent.start 0 ≡ b i agent.start 0) → StartsShow problem claim a → StartsShow problem claim b
  starts_show (Cost cost) a b same shows = starts_reach cost a b same shows
  starts_show (Bound bound) a b same shows = starts_reach bound a b same shows
  starts_show Impossible a b same (i, agent, is, never) =
      (i, agent, is, subst (λ (entry : Option Label). IsEntryOrDistance problem.grid agent.goal agent.start entry Never) (same i agent is) never)

  shown_alike : (claim : Claim) (a b : NodeContext) (tree : ConstraintTree) → AreAlike problem a b → AtEachNode (NodeShows problem claim) a tree → AtEachNode (NodeShows problem claim) b tree
  shown_alike claim a b (Split conflict blocks left right) alike (here, on_left, on_right) = (
    blocks_sound a b blocks alike here,
    shown_alike claim (left_child_context a conflict blocks) (left_child_context b conflict blocks) left (children_alike a b blocks (left_constraint conflict) alike) on_left,
    shown_alike claim (right_child_context a conflict blocks) (right_child_context b conflict blocks) right (children_alike a b blocks (right_constraint conflict) alike) on_right,
  )
  shown_alike claim a b (Leaf blocks) alike (sound, shows) = (
    blocks_sound a b blocks alike sound,
    starts_show claim (with_blocks blocks a.entries) (with_blocks blocks b.entries) (λ i agent is. same_entry blocks a.entries b.entries i agent.start 0 (alike.starts i agent is)) shows,
  )
  shown_alike claim a b (Clash i j) alike shows = shows

  pub only_start_entries_count : (claim : Claim) (a b : NodeContext) (tree : ConstraintTree) → AreAlike problem a b → ShowsFrom problem claim a tree → ShowsFrom problem claim b tree
  only_start_entries_count claim a b tree alike shows = record {
    proper = proper_anywhere problem a b tree shows.proper;
    nodes = shown_alike claim a b tree alike shows.nodes;
  }

-- where a node inherits no entry, and no split has a block, none below it does
none_below : (context : NodeContext) (tree : ConstraintTree) → HasBlocksAtLeavesAlone tree → ((agent cell tick : ℕ) → context.entries agent cell tick ≡ None) → AtEachNode (λ context node. (agent cell tick : ℕ) → context.entries agent cell tick ≡ None) context tree
none_below context (Split conflict blocks left right) (empty, on_left, on_right) none = (
  none,
  none_below (left_child_context context conflict blocks) left on_left inherited,
  none_below (right_child_context context conflict blocks) right on_right inherited,
) where
  inherited : (agent cell tick : ℕ) → with_blocks blocks context.entries agent cell tick ≡ None
  inherited agent cell tick = rw empty (none agent cell tick)
none_below context (Leaf blocks) alone none = none
none_below context (Clash i j) alone none = none

pub only_splits_hand_on_entries : OnlySplitsHandOnEntries
only_splits_hand_on_entries tree alone = none_below root tree alone (λ agent cell tick. refl)
