-- What the search promises besides what its tree shows: which nodes it split, on which conflicts, which blocks it kept,
-- which paths it chose and why it stopped. (Sharon et al. 2015: best first; how ties of conflicts and of paths are
-- broken, the blocks and the causes are own)
use Rattle.std.specs.Prelude.{◌≡◌, ℕ, ◌+◌, ◌*◌, ◌<◌, ◌≤◌, List}
use Rattle.mapf_model.specs.declared.cause.Cause.{Cause}
use Rattle.mapf_model.specs.declared.cause.Cause.TheVariants.{Splits, Ticks}
use Rattle.mapf_model.specs.Blocks.{LabelBlock}
use Rattle.mapf_model.specs.Conflicts.{AreConflictFreeBefore, HaveConflictBefore, HaveSomeConflict}
use Rattle.mapf_model.specs.Grid.{free_cell_count}
use Rattle.mapf_model.specs.Limits.{split_ticks}
use Rattle.mapf_model.specs.Plan.{Instance}
use Rattle.mapf_model.specs.Tree.{ConstraintTree, NodeContext, StartsAddUpTo, AtSomeLeaf, root, split_count}
use Rattle.mapf_model.specs.Tree.{with_blocks}
use Rattle.mapf_cbs.specs.BoundBlocks.{CarriesBoundBlocks}
use Rattle.mapf_cbs.specs.Earned.{AreCheapest, AreDue, IsEarned}
use Rattle.mapf_cbs.specs.FirstConflicts.{AreFirstPaths, AreOnFirstConflicts}
use Rattle.mapf_cbs.specs.Goals.{NamesFirstDefect}

-- the tree has at most so many splits, each on the first conflict of cheapest paths, each the first of its cost, at a
-- node with a sum of costs no greater than that of any terminal node. If two agents share a goal, or a goal can't be
-- reached, the tree is the one node that shows it. A node has a block of the agent that was replanned there if its
-- least cost exceeds its distance, with this cost as the label of the start, and no other block
pub record IsChosen (problem : Instance) (limit : ℕ) (tree : ConstraintTree) : Type 0 where
  pub few : split_count tree ≤ limit
  pub earned : IsEarned problem tree
  pub first_conflicts : AreOnFirstConflicts problem tree
  pub first_defect : NamesFirstDefect problem tree
  pub blocks : CarriesBoundBlocks problem tree

-- at a node with this context the paths are cheapest, and each is the first of its cost
abbrev pub AreFirstCheapest : Instance → List (List ℕ) → NodeContext → Type 0
AreFirstCheapest problem paths context =
    AreCheapest problem context paths × AreFirstPaths problem context paths

-- at a leaf of the tree the plan's paths are the first of the cheapest ones
abbrev pub IsOfALeaf : Instance → List (List ℕ) → ConstraintTree → Type 0
IsOfALeaf problem plan tree = AtSomeLeaf (λ context blocks. AreFirstCheapest problem plan context) root tree

-- cheapest paths at the node have this sum of costs, cheapest paths at no terminal node of the tree have a smaller one,
-- and the labels of the starts at the node add up to exactly this
abbrev pub IsLeastSumAt : Instance → ConstraintTree → ℕ → NodeContext → List LabelBlock → Type 0
IsLeastSumAt problem tree total context blocks = ((paths : List (List ℕ)) × AreDue problem tree context paths total)
    × StartsAddUpTo problem total (with_blocks blocks context.entries)

-- the bound is the least sum of cheapest paths at any terminal node, and the tree shows no greater one, since at a leaf
-- with this sum the labels of the starts add up to exactly this
abbrev pub IsLeastSum : Instance → ℕ → ConstraintTree → Type 0
IsLeastSum problem bound tree = AtSomeLeaf (IsLeastSumAt problem tree bound) root tree

-- an earned tree (said once more, so that the definition stands alone) with a leaf at which due paths, each the first
-- of its cost, have a conflict and a given property
pub record IsStoppedAtFirst (Fact : List (List ℕ) → Type 0) (problem : Instance) (tree : ConstraintTree) : Type 0 where
  pub earned : IsEarned problem tree
  pub leaf : AtSomeLeaf (λ context blocks. (paths : List (List ℕ)) × (total : ℕ)
      × AreDue problem tree context paths total × HaveSomeConflict paths × AreFirstPaths problem context paths
      × Fact paths) root tree

-- this tree justifies that a search with at most so many splits stops for this cause: the cause names the limit, the
-- tree has exactly so many splits, and at a leaf due paths, each the first of its cost, have a conflict before tick
-- `split_ticks`; or they conflict there but not before tick `split_ticks`, and one more than the splits, times the free
-- cells, exceeds `split_ticks`
abbrev pub MayStop : Instance → ℕ → Cause → ConstraintTree → Type 0
MayStop problem limit (Splits n) tree = IsStoppedAtFirst (λ paths. HaveConflictBefore paths split_ticks) problem tree
    × (n ≡ limit) × (split_count tree ≡ limit)
MayStop problem limit Ticks tree = IsStoppedAtFirst (λ paths. AreConflictFreeBefore paths split_ticks) problem tree
    × (split_ticks < (split_count tree + 1) * free_cell_count problem.grid)
