-- The branch while edges are added and undone, and while its constraints are added to the index.
use Rattle.std.proofs.Common.{◌≡◌, ◌<◌, ◌≤◌, ℕ, List, [], ◌∷◌, ◌++◌, fold, length, take, slice_index_or, sym, ◌∙◌, ap, subst, arith}
use Rattle.std.proofs.lemmas.List.{length_push, take_all, take_more, take-append-le}
use Rattle.std.proofs.lemmas.List.Sums.{fold_push}
use Rattle.mapf_model.specs.declared.bar.Bar.{Bar}
use Rattle.mapf_model.specs.Labels.{Entries}
use Rattle.mapf_model.specs.Tree.{with_constraint}
use Rattle.mapf_checker.specs.declared.branch.Edge.{Edge}
use Rattle.mapf_checker.specs.declared.index.BarIndex.{BarIndex}
use Rattle.mapf_checker.specs.declared.index.Undo.{Undo}
use Rattle.mapf_checker.specs.declared.starts.Starts.{Starts}
use Rattle.mapf_checker.specs.Index.{Indexes, CanUndo}
use Rattle.mapf_checker.specs.Starts.{AreKept, KnowEntries, with_changes}
use Rattle.mapf_checker.specs.Branch.{Place, along, at_root, constraint_of, place_after, CanUndoEdge, CanUndoAll, CanUndoFirst, IndexesFirst, IsIndexedBranch}

pub place_after-push : (edges : List Edge) (edge : Edge) → place_after (edges ++ edge ∷ []) ≡ along (place_after edges) edge
place_after-push edges edge = fold_push along at_root edges edge

-- an edge more, or less, after those whose constraints can be taken out
more_edges : (place : Place) (edges : List Edge) (edge : Edge) (undos : List Undo) → CanUndoFirst place.here edges undos → CanUndoFirst place.here (edges ++ edge ∷ []) undos
more_edges place edges edge [] can = tt
more_edges place [] edge (u ∷ us) can = absurd can
more_edges place (e ∷ es) edge (u ∷ us) can = (can.0, more_edges (along place e) es edge us can.1)

fewer_edges : (place : Place) (edges : List Edge) (edge : Edge) (undos : List Undo) → length undos ≤ length edges → CanUndoFirst place.here (edges ++ edge ∷ []) undos → CanUndoFirst place.here edges undos
fewer_edges place edges edge [] within can = tt
fewer_edges place [] edge (u ∷ us) within can = absurd (omega arith)
fewer_edges place (e ∷ es) edge (u ∷ us) within can = (can.0, fewer_edges (along place e) es edge us (omega arith) can.1)

-- the next edge's constraint can be taken out too
more_undos : (place : Place) (edges : List Edge) (edge : Edge) (undos : List Undo) (undo : Undo) → length undos < length edges → slice_index_or edges (length undos) edge ≡ edge →
    CanUndo (fold along place (take (length undos) edges)).here.bars (constraint_of edge) undo → CanUndoFirst place.here edges undos → CanUndoFirst place.here edges (undos ++ undo ∷ [])
more_undos place [] edge undos undo within at can all = absurd (omega arith)
more_undos place (e ∷ es) edge [] undo within at can all = (subst (λ (x : Edge). CanUndo place.here.bars (constraint_of x) undo) (sym at) can, tt)
more_undos place (e ∷ es) edge (u ∷ us) undo within at can all = (all.0, more_undos (along place e) es edge us undo (omega arith) at can all.1)

-- the last edge's constraint, and then those before it
last_undo : (place : Place) (edges : List Edge) (edge : Edge) (undos : List Undo) (undo : Undo) → length undos ≡ length edges → CanUndoFirst place.here (edges ++ edge ∷ []) (undos ++ undo ∷ []) →
    CanUndo (fold along place edges).here.bars (constraint_of edge) undo × CanUndoFirst place.here edges undos
last_undo place [] edge [] undo same all = (all.0, tt)
last_undo place [] edge (u ∷ us) undo same all = absurd (omega arith)
last_undo place (e ∷ es) edge [] undo same all = absurd (omega arith)
last_undo place (e ∷ es) edge (u ∷ us) undo same all = let (last, rest) = last_undo (along place e) es edge us undo (omega arith) all.1 in (last, (all.0, rest))

-- an index of the first edges, with one edge more
pub IndexesFirst-push : (edges : List Edge) (edge : Edge) (undos : List Undo) (index : BarIndex) → IndexesFirst edges undos index → IndexesFirst (edges ++ edge ∷ []) undos index
IndexesFirst-push edges edge undos index first = record {
  within = omega (arith, length_push edges edge, first.within);
  indexed = subst (λ es. Indexes (place_after es).here.bars index) (sym (take-append-le (length undos) edges (edge ∷ []) first.within)) first.indexed;
  undone = more_edges at_root edges edge undos first.undone;
}

-- with one edge less, which the index didn't have
pub IndexesFirst-cut : (edges : List Edge) (edge : Edge) (undos : List Undo) (index : BarIndex) → length undos ≤ length edges → IndexesFirst (edges ++ edge ∷ []) undos index → IndexesFirst edges undos index
IndexesFirst-cut edges edge undos index within first = record {
  within = within;
  indexed = subst (λ es. Indexes (place_after es).here.bars index) (take-append-le (length undos) edges (edge ∷ []) within) first.indexed;
  undone = fewer_edges at_root edges edge undos within first.undone;
}

-- an index of all edges has the constraints of the node that they lead to
pub indexes_all : (edges : List Edge) (undos : List Undo) (index : BarIndex) → IndexesFirst edges undos index → length edges ≤ length undos → Indexes (place_after edges).here.bars index
indexes_all edges undos index first all = subst (λ es. Indexes (place_after es).here.bars index) (take_all (length undos) edges all) first.indexed

-- with one edge less, whose constraint was taken out
pub IndexesFirst-pop : (edges : List Edge) (edge : Edge) (undos : List Undo) (undo : Undo) (index new : BarIndex) → IndexesFirst (edges ++ edge ∷ []) (undos ++ undo ∷ []) index → length edges ≤ length undos →
    ((bars : ℕ → List Bar) → Indexes (with_constraint bars (constraint_of edge)) index → CanUndo bars (constraint_of edge) undo → Indexes bars new) → IndexesFirst edges undos new
IndexesFirst-pop edges edge undos undo index new first all undone =
    let same : length undos ≡ length edges = omega (arith, length_push edges edge, length_push undos undo, first.within) in
    let (last, rest) = last_undo at_root edges edge undos undo same first.undone in
    let whole = indexes_all (edges ++ edge ∷ []) (undos ++ undo ∷ []) index first (omega (arith, length_push edges edge, length_push undos undo)) in
    record {
      within = omega arith;
      indexed = subst (λ es. Indexes (place_after es).here.bars new) (sym (take_all (length undos) edges all)) (undone (place_after edges).here.bars (rw (place_after-push edges edge) at whole) last);
      undone = rest;
    }

-- the next edge's constraint was added
pub IndexesFirst-next : (edges : List Edge) (edge : Edge) (undos : List Undo) (undo : Undo) (index new : BarIndex) → length undos < length edges → slice_index_or edges (length undos) edge ≡ edge → IndexesFirst edges undos index →
    ((bars : ℕ → List Bar) → Indexes bars index → Indexes (with_constraint bars (constraint_of edge)) new) →
    ((bars : ℕ → List Bar) → Indexes bars index → CanUndo bars (constraint_of edge) undo) → IndexesFirst edges (undos ++ undo ∷ []) new
IndexesFirst-next edges edge undos undo index new within at first added can =
    let before = take (length undos) edges in
    let more : take (length (undos ++ undo ∷ [])) edges ≡ before ++ edge ∷ [] =
    ap (λ n. take n edges) (length_push undos undo) ∙ take_more edges (length undos) edge within ∙ ap (λ e. before ++ e ∷ []) at in
    record {
      within = omega (arith, length_push undos undo);
      indexed = subst (λ es. Indexes (place_after es).here.bars new) (sym more) (rw (place_after-push before edge) (added (place_after before).here.bars first.indexed));
      undone = more_undos at_root edges edge undos undo within at (can (place_after before).here.bars first.indexed) first.undone;
    }

push_undone : (agents : ℕ) (place : Place) (edges : List Edge) (edge : Edge) → CanUndoAll agents place.here edges →
    CanUndoEdge agents (fold along place edges).here edge → CanUndoAll agents place.here (edges ++ edge ∷ [])
push_undone agents place [] edge all can = (can, tt)
push_undone agents place (t ∷ ts) edge all can = (all.0, push_undone agents (along place t) ts edge all.1 can)

pop_undone : (agents : ℕ) (place : Place) (edges : List Edge) (edge : Edge) → CanUndoAll agents place.here (edges ++ edge ∷ []) →
    CanUndoAll agents place.here edges × CanUndoEdge agents (fold along place edges).here edge
pop_undone agents place [] edge all = (tt, all.0)
pop_undone agents place (t ∷ ts) edge all = let (rest, last) = pop_undone agents (along place t) ts edge all.1 in ((all.0, rest), last)

-- an edge is added
pub IsIndexedBranch-push : (edges : List Edge) (edge : Edge) (undos : List Undo) (index : BarIndex) (starts changed : Starts) → IsIndexedBranch edges undos index starts → length changed.entries.items ≡ length starts.entries.items →
    AreKept (with_changes edge.changes.items (place_after edges).here.entries) changed.entries.items →
    CanUndoEdge (length starts.entries.items) (place_after edges).here edge → IsIndexedBranch (edges ++ edge ∷ []) undos index changed
IsIndexedBranch-push edges edge undos index starts changed branch size kept can = record {
  first = IndexesFirst-push edges edge undos index branch.first;
  kept = rw (place_after-push edges edge) kept;
  undone = rw size (push_undone (length starts.entries.items) at_root edges edge branch.undone can);
}

-- what the last edge changed can be undone
pub last_edge : (edges : List Edge) (edge : Edge) (undos : List Undo) (index : BarIndex) (starts : Starts) → IsIndexedBranch (edges ++ edge ∷ []) undos index starts → CanUndoEdge (length starts.entries.items) (place_after edges).here edge
last_edge edges edge undos index starts branch = (pop_undone (length starts.entries.items) at_root edges edge branch.undone).1

-- the last edge is undone
pub IsIndexedBranch-pop : (edges : List Edge) (edge : Edge) (undos left : List Undo) (index new : BarIndex) (starts restored : Starts) → IsIndexedBranch (edges ++ edge ∷ []) undos index starts → length restored.entries.items ≡ length starts.entries.items →
    IndexesFirst edges left new →
    ((entries : ℕ → Entries) → AreKept (with_changes edge.changes.items entries) starts.entries.items → KnowEntries entries edge.changes.items → AreKept entries restored.entries.items) → IsIndexedBranch edges left new restored
IsIndexedBranch-pop edges edge undos left index new starts restored branch size first undo_starts =
    let undone = pop_undone (length starts.entries.items) at_root edges edge branch.undone in
    record {
      first = first;
      kept = undo_starts (place_after edges).here.entries (rw (place_after-push edges edge) at branch.kept) undone.1.entries;
      undone = rw size undone.0;
    }
