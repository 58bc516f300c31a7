-- Conflicts of paths, by the lists of the agents' cells at a tick and at the next.
use Rattle.std.proofs.Common.{◌≡◌, ℕ, ◌+◌, ◌<◌, List, [], Some, ◌++◌, length, take, slice_index, slice_index_or, slice_get, refl, sym, ◌∙◌, ap, subst, inl, inr, ⊎_elim, arith}
use Rattle.std.proofs.Math.Seq.{take-append_seam}
use Rattle.std.proofs.lemmas.List.{get_or-map, length-map}
use Rattle.std.proofs.lemmas.Option.{slice_get_within, slice_get-get_or, get_or_from_slice_get}
use Rattle.mapf_model.specs.declared.conflict.Conflict.{Conflict}
use Rattle.mapf_model.specs.declared.conflict.Conflict.TheVariants.{Vertex, Swap}
use Rattle.mapf_model.specs.Conflicts.{tick_of, HasConflict}
use Rattle.mapf_model.specs.Pairs.{IsFirstPair, HoldsOfNoPair}
use Rattle.mapf_model.specs.Path.{at}
use Rattle.mapf_model.specs.Plan.{ConflictAt}
use Rattle.mapf_conflicts.specs.Pairs.{cells_at, AreOthersApart, AreOthersFreeBefore, ShareCell, ExchangeCells, IsConflictOf, IsFirstOf, IsFirstOfItsTick, IsOrdered, AreLess, ComesBefore}

-- the cells that were written come before the others
pub written : (paths : List (List ℕ)) (count tick : ℕ) (new rest : List ℕ) → count ≡ length paths → new ≡ cells_at paths tick → take count (new ++ rest) ≡ cells_at paths tick
written paths count tick new rest size are =
    let all = ap length are ∙ length-map paths (λ path. at path tick) ∙ sym size in
    subst (λ n. take n (new ++ rest) ≡ cells_at paths tick) all (take-append_seam new rest ∙ are)

path_of : List (List ℕ) → ℕ → List ℕ
path_of paths i = slice_index_or paths i []

cell_of : (paths : List (List ℕ)) (i tick : ℕ) → i < length (cells_at paths tick) → slice_index (cells_at paths tick) i ≡ at (path_of paths i) tick
unfolding path_of
cell_of paths i tick within = get_or-map (λ path. at path tick) paths i [] 0 (let total = length-map paths (λ path. at path tick) in omega arith)

has_path : (paths : List (List ℕ)) (i tick : ℕ) → i < length (cells_at paths tick) → slice_get paths i ≡ Some (path_of paths i)
unfolding path_of
has_path paths i tick within = slice_get-get_or paths i [] (let total = length-map paths (λ path. at path tick) in omega arith)

-- a conflict by the lists of cells is a conflict of the paths
pub has_conflict : (paths : List (List ℕ)) (now : ℕ) (conflict : Conflict) → IsConflictOf (cells_at paths now) (cells_at paths (now + 1)) now conflict → HasConflict paths conflict
has_conflict paths now (Vertex i j cell tick) (before, within, same, i_cell, j_cell) =
    let within_i : i < length (cells_at paths now) = omega arith in (
      λ (e : i ≡ j). omega arith,
      path_of paths i,
      path_of paths j,
      has_path paths i now within_i,
      has_path paths j now within,
      ap (at (path_of paths i)) same ∙ sym (cell_of paths i now within_i) ∙ i_cell,
      ap (at (path_of paths j)) same ∙ sym (cell_of paths j now within) ∙ j_cell,
    )
has_conflict paths now (Swap i j from to tick) (before, within, same, moves, i_from, i_to, j_to, j_from) =
    let within_i : i < length (cells_at paths now) = omega arith in
    let now_size = length-map paths (λ path. at path now) in
    let next_size = length-map paths (λ path. at path (now + 1)) in
    let next_i : i < length (cells_at paths (now + 1)) = omega arith in
    let next_j : j < length (cells_at paths (now + 1)) = omega arith in
    let later : tick + 1 ≡ now + 1 = omega arith in (
      λ (e : i ≡ j). omega arith,
      moves,
      path_of paths i,
      path_of paths j,
      has_path paths i now within_i,
      has_path paths j now within,
      (ap (at (path_of paths i)) same ∙ sym (cell_of paths i now within_i) ∙ i_from, ap (at (path_of paths i)) later ∙ sym (cell_of paths i (now + 1) next_i) ∙ i_to),
      (ap (at (path_of paths j)) same ∙ sym (cell_of paths j now within) ∙ j_to, ap (at (path_of paths j)) later ∙ sym (cell_of paths j (now + 1) next_j) ∙ j_from),
    )

-- the cell of an agent, by its path
cell_by_path : (paths : List (List ℕ)) (i : ℕ) (path : List ℕ) (tick : ℕ) → slice_get paths i ≡ Some path → slice_index (cells_at paths tick) i ≡ at path tick
unfolding path_of
cell_by_path paths i path tick is =
    let size = length-map paths (λ path. at path tick) in
    let within = slice_get_within paths i path is in
    cell_of paths i tick (omega arith) ∙ ap (λ path. at path tick) (get_or_from_slice_get paths i path [] is)

-- and a conflict of the paths is a conflict by the lists of cells
is_conflict_of : (paths : List (List ℕ)) (conflict : Conflict) → IsOrdered conflict → HasConflict paths conflict → IsConflictOf (cells_at paths (tick_of conflict)) (cells_at paths (tick_of conflict + 1)) (tick_of conflict) conflict
is_conflict_of paths (Vertex i j cell tick) ordered (differ, p, q, is_p, is_q, in_p, in_q) =
    let size = length-map paths (λ path. at path tick) in
    let within = slice_get_within paths j q is_q in (
      ordered,
      omega arith,
      refl,
      cell_by_path paths i p tick is_p ∙ in_p,
      cell_by_path paths j q tick is_q ∙ in_q,
    )
is_conflict_of paths (Swap i j from to tick) ordered (differ, moves, p, q, is_p, is_q, (p_from, p_to), (q_from, q_to)) =
    let size = length-map paths (λ path. at path tick) in
    let within = slice_get_within paths j q is_q in (
      ordered,
      omega arith,
      refl,
      moves,
      cell_by_path paths i p tick is_p ∙ p_from,
      cell_by_path paths i p (tick + 1) is_p ∙ p_to,
      cell_by_path paths j q tick is_q ∙ q_from,
      cell_by_path paths j q (tick + 1) is_q ∙ q_to,
    )

-- no pair for which the relation holds is less than the first
not_less : (Fact : ℕ → ℕ → Type 0) (count i j k l : ℕ) → IsFirstPair Fact count (i, j) → k < l → l < count → Fact k l → AreLess k l i j → ⊥
not_less Fact count i j k l first order within fact (inl less) = first.first.0 k l less order within fact
not_less Fact count i j k l first order within fact (inr (same, less)) = first.first.1 l (omega arith) less (subst (λ agent. Fact agent l) same fact)

none_before : (here next : List ℕ) (now : ℕ) (conflict other : Conflict) → IsFirstOf here next conflict → IsConflictOf here next now other → ComesBefore other conflict → ⊥
none_before here next now (Vertex i j cell tick) (Vertex k l other_cell other_tick) first (order, within, same, k_cell, l_cell) less =
    not_less (ShareCell here) (length here) i j k l first order within (k_cell ∙ sym l_cell) less
none_before here next now (Swap i j from to tick) (Vertex k l cell other_tick) first (order, within, same, k_cell, l_cell) less =
    first.0 k l order within (k_cell ∙ sym l_cell)
none_before here next now (Vertex i j cell tick) (Swap k l from to other_tick) first is less = absurd less
none_before here next now (Swap i j from to tick) (Swap k l other_from other_to other_tick) first (order, within, same, moves, k_from, k_to, l_to, l_from) less =
    not_less (ExchangeCells here next) (length here) i j k l first.1 order within (l_to ∙ sym k_to, l_from ∙ sym k_from) less

-- the first conflict by the lists of cells is the first of the paths
pub first_of_its_tick : (paths : List (List ℕ)) (now : ℕ) (conflict : Conflict) → tick_of conflict ≡ now → IsFirstOf (cells_at paths now) (cells_at paths (now + 1)) conflict → IsFirstOfItsTick paths conflict
first_of_its_tick paths now conflict when first other ordered has same less =
    let at_now = same ∙ when in
    none_before (cells_at paths now) (cells_at paths (now + 1)) now conflict other first
    (subst (λ tick. IsConflictOf (cells_at paths tick) (cells_at paths (tick + 1)) tick other) at_now (is_conflict_of paths other ordered has)) less

pub conflict_tick : (here next : List ℕ) (now : ℕ) (conflict : Conflict) → IsConflictOf here next now conflict → tick_of conflict ≡ now
conflict_tick here next now (Vertex i j cell tick) is = is.2
conflict_tick here next now (Swap i j from to tick) is = is.2

-- no two agents conflict at the tick
module _ (paths : List (List ℕ)) (now : ℕ)
    (share : HoldsOfNoPair (ShareCell (cells_at paths now)) (length (cells_at paths now)))
    (exchange : HoldsOfNoPair (ExchangeCells (cells_at paths now) (cells_at paths (now + 1))) (length (cells_at paths now))) where
  pub apart : (i j : ℕ) (p q : List ℕ) → i < j → slice_get paths i ≡ Some p → slice_get paths j ≡ Some q → ConflictAt p q now → ⊥
  apart i j p q before i_path j_path conflict =
      let size = length-map paths (λ path. at path now) in
      let paths_j = slice_get_within paths j q j_path in
      let here_j : j < length (cells_at paths now) = omega arith in
      let cell_i = cell_by_path paths i p now i_path in
      let cell_j = cell_by_path paths j q now j_path in
      let to_i = cell_by_path paths i p (now + 1) i_path in
      let to_j = cell_by_path paths j q (now + 1) j_path in
      ⊎_elim
      (λ (shares : at p now ≡ at q now). share i j before here_j (cell_i ∙ shares ∙ sym cell_j))
      (λ (exchanges : (at p now ≡ at q (now + 1)) × (at p (now + 1) ≡ at q now)).
      exchange i j before here_j (cell_j ∙ sym exchanges.1 ∙ sym to_i, to_j ∙ sym exchanges.0 ∙ sym cell_i))
      conflict

-- before the tick only the agent's path conflicts with others, so the other agents' cells are apart
pub others_apart : (paths : List (List ℕ)) (agent end now : ℕ) → AreOthersFreeBefore paths agent end → now < end → AreOthersApart (cells_at paths now) (cells_at paths (now + 1)) agent
others_apart paths agent end now free early i j order within i_other j_other meet =
    let here = length-map paths (λ path. at path now) in
    let next = length-map paths (λ path. at path (now + 1)) in
    let i_in : i < length (cells_at paths now) = omega (arith, order, within) in
    let i_next : i < length (cells_at paths (now + 1)) = omega (arith, i_in, here, next) in
    let j_next : j < length (cells_at paths (now + 1)) = omega (arith, within, here, next) in
    free i j now (path_of paths i) (path_of paths j) early i_other j_other (λ e. omega (arith, order, e)) (has_path paths i now i_in) (has_path paths j now within) (⊎_elim
    (λ (share : ShareCell (cells_at paths now) i j). inl (sym (cell_of paths i now i_in) ∙ share ∙ cell_of paths j now within))
    (λ (exchange : ExchangeCells (cells_at paths now) (cells_at paths (now + 1)) i j). inr (
      sym (cell_of paths i now i_in) ∙ sym exchange.1 ∙ cell_of paths j (now + 1) j_next,
      sym (cell_of paths i (now + 1) i_next) ∙ sym exchange.0 ∙ cell_of paths j now within,
    ))
    meet)
