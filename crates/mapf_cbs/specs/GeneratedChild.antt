-- A child as it is generated.
use Rattle.std.specs.Prelude.{◌≡◌, ℕ, ◌+◌, ◌-◌, ◌<◌, ◌≤◌, ◌^◌, List, Option, Some, None, length, sum}
use Rattle.mapf_model.specs.declared.constraint.Constraint.{Constraint}
use Rattle.mapf_model.specs.Path.{at, IsCost}
use Rattle.mapf_model.specs.Plan.{Instance}
use Rattle.mapf_model.specs.declared.label.Entry.{Entry}
use Rattle.mapf_spacetime.specs.declared.found.Found.{Found}
use Rattle.mapf_spacetime.specs.declared.found.Found.TheVariants.{Arrives, Dead}
use Rattle.mapf_model.specs.Tree.{child_context}
use Rattle.mapf_cbs.specs.BoundBlocks.{AreBlocksFor}
use Rattle.mapf_cbs.specs.Search.{View, IsLive, IsDead}
use Rattle.mapf_cbs.specs.Nodes.{IsChildView}

-- the path that was found ends at the goal
abbrev pub EndsAt : Found (List Entry) → ℕ → Type 0
EndsAt (Arrives path labels) goal = at path (length path - 1) ≡ goal
EndsAt (Dead labels) goal = Unit {0}

-- the sum of costs with the path that was found
abbrev pub IsTotal : Found (List Entry) → ℕ → ℕ → Option ℕ → Type 0
IsTotal (Arrives path labels) goal rest total =
    (cost : ℕ) × IsCost goal path cost × (cost < 2 ^ 32) × (total ≡ Some (rest + cost))
IsTotal (Dead labels) goal rest total = total ≡ None

-- a child without a sum is dead; one with a sum is live, and its sum is at least its parent's and at most 2^32 more
abbrev pub IsGeneratedState : Instance → View → View → Option ℕ → Type 0
IsGeneratedState problem view child None = IsDead problem child
IsGeneratedState problem view child (Some total) =
    IsLive problem child × (total ≡ sum child.costs) × (sum view.costs ≤ total) × (total ≤ sum view.costs + 2 ^ 32)

-- the view of a child, live with this sum or dead
pub record IsGeneratedChild (problem : Instance) (view : View) (constraint : Constraint) (found : Found (List Entry))
    (total : Option ℕ) : Type 0 where
  pub child : View
  pub is_child : IsChildView view constraint found child
  pub context : child.context ≡ child_context view.context view.blocks constraint
  pub bound : AreBlocksFor problem child.context (Some constraint.agent) child.blocks
  pub state : IsGeneratedState problem view child total
