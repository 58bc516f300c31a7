-- The path of a constraint tree from its root to the node that is read next.
use Rattle.std.specs.Prelude.{◌≡◌, ◌≤◌, ℕ, Bool, List, [], ◌∷◌, fold, length, take, MatchBool}
use Rattle.mapf_model.specs.declared.conflict.Conflict.{Conflict}
use Rattle.mapf_model.specs.Tree.{NodeContext, root, with_constraint, left_constraint, right_constraint}
use Rattle.mapf_model.specs.declared.constraint.Constraint.{Constraint}
use Rattle.mapf_checker.specs.declared.branch.Child.{Child}
use Rattle.mapf_checker.specs.declared.branch.Child.TheVariants.{Left, Right}
use Rattle.mapf_checker.specs.declared.branch.Edge.{Edge}
use Rattle.mapf_checker.specs.declared.index.BarIndex.{BarIndex}
use Rattle.mapf_checker.specs.declared.index.Undo.{Undo}
use Rattle.mapf_checker.specs.declared.starts.StartChange.{StartChange}
use Rattle.mapf_checker.specs.declared.starts.Starts.{Starts}
use Rattle.mapf_checker.specs.Index.{Indexes, CanUndo}
use Rattle.mapf_checker.specs.Starts.{AreKept, AreOfFirst, KnowEntries, with_changes}

-- the edges from the root; of how many of them, counted from the root, the index has the constraints; and of how many
-- agents the entries of the starts are kept
pub record Route : Type 0 where
  pub edges : List Edge
  pub indexed : ℕ
  pub agents : ℕ

-- what the node that is read next inherits, and what the nodes inherit that are to be read after its subtree
pub record Place : Type 0 where
  pub here : NodeContext
  pub pending : List NodeContext

-- what a child of a split inherits: one constraint more, and the entries of the starts after the split's changes
abbrev pub child_after : NodeContext → List StartChange → Constraint → NodeContext
child_after context changes constraint =
    record { bars = with_constraint context.bars constraint; entries = with_changes changes context.entries }

-- the constraint of a child of a split on this conflict
abbrev pub constraint_at : Child → Conflict → Constraint
constraint_at Left conflict = left_constraint conflict
constraint_at Right conflict = right_constraint conflict

-- the constraint of the child that the edge leads to
abbrev pub constraint_of : Edge → Constraint
constraint_of edge = constraint_at edge.child edge.conflict

-- what is to be read after a child of a split: after the left child the right one, then the rest
abbrev pub with_pending : NodeContext → List StartChange → Conflict → Child → List NodeContext → List NodeContext
with_pending here changes conflict Left pending = child_after here changes (right_constraint conflict) ∷ pending
with_pending here changes conflict Right pending = pending

-- the place at this child of a split on this conflict, whose blocks make these changes
abbrev pub descended : Place → Conflict → Child → List StartChange → Place
descended place conflict child changes =
    record {
      here = child_after place.here changes (constraint_at child conflict);
      pending = with_pending place.here changes conflict child place.pending;
    }

-- the place at the end of an edge
abbrev pub along : Place → Edge → Place
along place edge = descended place edge.conflict edge.child edge.changes.items

-- the root, with nothing to be read after it
abbrev pub at_root : Place
at_root = record { here = root; pending = [] }

-- the place at the end of these edges from the root
abbrev pub place_after : List Edge → Place
place_after edges = fold along at_root edges

-- the place at the end of a route
abbrev pub place_of : Route → Place
place_of route = place_after route.edges

-- the index has the constraints of all edges
abbrev pub IsIndexed : Route → Type 0
IsIndexed route = length route.edges ≤ route.indexed

-- what an edge changed of the entries of the starts, which are those of so many agents, can be undone
pub record CanUndoEdge (count : ℕ) (context : NodeContext) (edge : Edge) : Type 0 where
  pub agents : AreOfFirst count edge.changes.items
  pub entries : KnowEntries context.entries edge.changes.items

-- this holds for each edge
abbrev pub CanUndoAll : ℕ → NodeContext → List Edge → Type 0
CanUndoAll agents here [] = Unit {0}
CanUndoAll agents here (edge ∷ edges) =
    CanUndoEdge agents here edge × CanUndoAll agents (child_after here edge.changes.items (constraint_of edge)) edges

-- the constraints of the first edges, as many as there are undos, can be removed from an index again
abbrev pub CanUndoFirst : NodeContext → List Edge → List Undo → Type 0
CanUndoFirst here edges [] = Unit {0}
CanUndoFirst here [] (undo ∷ undos) = ⊥
CanUndoFirst here (edge ∷ edges) (undo ∷ undos) =
    CanUndo here.bars (constraint_of edge) undo
    × CanUndoFirst (child_after here edge.changes.items (constraint_of edge)) edges undos

-- the index has the constraints of the first edges, as many as there are undos, and the undos remove them again
pub record IndexesFirst (edges : List Edge) (undos : List Undo) (index : BarIndex) : Type 0 where
  pub within : length undos ≤ length edges
  pub indexed : Indexes (place_after (take (length undos) edges)).here.bars index
  pub undone : CanUndoFirst root edges undos

-- the index has the constraints of the first of these edges, the starts have the entries of the node that all of them
-- lead to, and both can be undone
pub record IsIndexedBranch (edges : List Edge) (undos : List Undo) (index : BarIndex) (starts : Starts) : Type 0 where
  pub first : IndexesFirst edges undos index
  pub kept : AreKept (place_after edges).here.entries starts.entries.items
  pub undone : CanUndoAll (length starts.entries.items) root edges

-- the move to the left child of a split whose blocks make these changes
pub record IsSplit (old : Place) (conflict : Conflict) (changes : List StartChange) (new : Place) : Type 0 where
  pub here : new.here ≡ child_after old.here changes (left_constraint conflict)
  pub pending : new.pending ≡ child_after old.here changes (right_constraint conflict) ∷ old.pending

-- the move to the next node in pre-order, if there is one
abbrev pub NextOf : Place → Place → Bool → Type 0
NextOf old new more = MatchBool more (old.pending ≡ new.here ∷ new.pending) (old.pending ≡ [])
