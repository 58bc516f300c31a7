-- What a result of the search says: what its tree shows, and what the search chose.
use Rattle.std.specs.Prelude.{ℕ, List, map}
use Rattle.mapf_model.specs.declared.cause.Cause.{Cause}
use Rattle.mapf_model.specs.Answers.{IsPrintable, IsShownOptimal, IsShownImpossible, IsShownBound}
use Rattle.mapf_model.specs.Plan.{Instance}
use Rattle.mapf_model.specs.Tree.{ConstraintTree, Node, node_of}
use Rattle.mapf_cbs.specs.Chosen.{IsChosen, IsOfALeaf, IsLeastSum, MayStop}
use Rattle.mapf_cbs.specs.declared.answer.Answer.{Answer}
use Rattle.mapf_cbs.specs.declared.answer.Answer.TheVariants.{Found as FoundAnswer, Impossible as ImpossibleAnswer}
use Rattle.mapf_cbs.specs.declared.answer.Answer.TheVariants.{Limit as LimitAnswer}
use Rattle.mapf_cbs.specs.declared.outcome.Outcome.{Outcome}
use Rattle.mapf_cbs.specs.declared.outcome.Outcome.TheVariants.{Found as FoundOutcome, Impossible as ImpossibleOutcome}
use Rattle.mapf_cbs.specs.declared.outcome.Outcome.TheVariants.{Limit as LimitOutcome}

-- these are the nodes of a tree that can be printed, and it is as the search promises
pub record IsTreeOf (problem : Instance) (limit : ℕ) (nodes : List Node) (tree : ConstraintTree) : Type 0 where
  pub printable : IsPrintable problem nodes tree
  pub chosen : IsChosen problem limit tree

-- these are the nodes of a tree as the search promises that shows this plan to be optimal; at a leaf of it the plan's
-- paths are the first of the cheapest ones
abbrev pub IsOptimalAnswer : Instance → ℕ → List (List ℕ) → List Node → Type 0
IsOptimalAnswer problem limit plan nodes = (tree : ConstraintTree)
    × IsTreeOf problem limit nodes tree × IsShownOptimal problem plan tree × IsOfALeaf problem plan tree

-- these are the nodes of a tree as the search promises that shows that no plan is valid
abbrev pub IsImpossibleAnswer : Instance → ℕ → List Node → Type 0
IsImpossibleAnswer problem limit nodes = (tree : ConstraintTree)
    × IsTreeOf problem limit nodes tree × IsShownImpossible problem tree

-- these are the nodes of a tree as the search promises that shows this bound, the least sum of cheapest paths at any
-- terminal node, and no greater one, and that justifies stopping for this cause
abbrev pub IsLimitAnswer : Instance → ℕ → Cause → ℕ → List Node → Type 0
IsLimitAnswer problem limit cause bound nodes = (tree : ConstraintTree)
    × IsTreeOf problem limit nodes tree × IsShownBound problem bound tree
    × IsLeastSum problem bound tree × MayStop problem limit cause tree

-- a plan or `impossible`, with a tree that shows it, or a limit that was reached, with the bound that the tree shows
abbrev pub IsSearchAnswer : Instance → ℕ → Answer → Type 0
IsSearchAnswer problem limit (FoundAnswer plan items) = IsOptimalAnswer problem limit plan (map node_of items.items)
IsSearchAnswer problem limit (ImpossibleAnswer items) = IsImpossibleAnswer problem limit (map node_of items.items)
IsSearchAnswer problem limit (LimitAnswer cause bound items) =
    IsLimitAnswer problem limit cause bound (map node_of items.items)

-- the same of an outcome, which has the nodes of its tree
abbrev pub IsOutcome : Instance → ℕ → Outcome → Type 0
IsOutcome problem limit (FoundOutcome plan nodes) = IsOptimalAnswer problem limit plan nodes.items
IsOutcome problem limit (ImpossibleOutcome nodes) = IsImpossibleAnswer problem limit nodes.items
IsOutcome problem limit (LimitOutcome cause bound nodes) = IsLimitAnswer problem limit cause bound nodes.items
