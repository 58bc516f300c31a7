-- What an answer of any search has to be: a plan, or that no plan is valid, or a bound, with a tree that shows it. A
-- search promises one of these three, and that the tree can be printed.
use Rattle.std.specs.Prelude.{◌≡◌, ℕ, List, length}
use Rattle.mapf_model.specs.declared.item.Claim.TheVariants.{Cost, Bound, Impossible}
use Rattle.mapf_model.specs.Plan.{Instance, IsOptimal, IsLowerBound, IsImpossible}
use Rattle.mapf_model.specs.Printed.{IsTreeInRange, IsPlanInRange, IsClaimInRange}
use Rattle.mapf_model.specs.Tree.{ConstraintTree, Node, nodes_of, Shows}

-- these are the nodes of the tree in pre-order, and the tree can be printed
pub record IsPrintable (problem : Instance) (nodes : List Node) (tree : ConstraintTree) : Type 0 where
  pub spelled : nodes ≡ nodes_of tree
  pub in_range : IsTreeInRange problem.grid (length problem.agents) tree

-- the plan is optimal, and the tree shows that no valid plan is cheaper; the plan has no trailing waits, and it and its
-- sum can be printed
pub record IsShownOptimal (problem : Instance) (plan : List (List ℕ)) (tree : ConstraintTree) : Type 0 where
  pub total : ℕ
  pub optimal : IsOptimal problem plan total
  pub shows : Shows problem (Cost total) tree
  pub plan_in_range : IsPlanInRange problem.grid plan
  pub claim_in_range : IsClaimInRange (Cost total)

-- no plan is valid, and the tree shows it
pub record IsShownImpossible (problem : Instance) (tree : ConstraintTree) : Type 0 where
  pub shows : Shows problem Impossible tree
  pub impossible : IsImpossible problem

-- no valid plan has a sum below the bound, and the tree shows it; the bound can be printed
pub record IsShownBound (problem : Instance) (bound : ℕ) (tree : ConstraintTree) : Type 0 where
  pub shows : Shows problem (Bound bound) tree
  pub holds : IsLowerBound problem bound
  pub claim_in_range : IsClaimInRange (Bound bound)
