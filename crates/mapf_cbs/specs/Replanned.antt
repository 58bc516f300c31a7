-- A tick before which the paths at a node can't conflict, but for that of the agent replanned there.
use Rattle.std.specs.Prelude.{◌≡◌, ℕ, List, Some, slice_get}
use Rattle.mapf_model.specs.declared.conflict.Conflict.{Conflict}
use Rattle.mapf_model.specs.Conflicts.{AreConflictFreeBefore, tick_of}
use Rattle.mapf_cbs.specs.declared.node.Status.{Status}
use Rattle.mapf_cbs.specs.declared.node.Status.TheVariants.{Expanded}
use Rattle.mapf_cbs.specs.Search.{View}

-- the paths of a node that was split don't conflict before the tick of the conflict on which it was split
abbrev pub AreSplitsFirst : List View → List Status → Type 0
AreSplitsFirst views statuses = (k : ℕ) (view : View) (conflict : Conflict) (left : ℕ) → slice_get views k ≡ Some view
    → slice_get statuses k ≡ Some (Expanded conflict left) → AreConflictFreeBefore view.paths (tick_of conflict)
