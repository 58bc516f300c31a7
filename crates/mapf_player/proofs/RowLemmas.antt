-- The bytes of a row, as agents are marked one by one, the last first.
use Rattle.std.proofs.Common.{◌≡◌, ℕ, suc, ◌+◌, ◌-◌, drop, ◌*◌, ◌/◌, ◌%◌, ◌<◌, ◌≤◌, eqb, cond, not, Bool, true, false, ltb, List, [], ◌∷◌, Option, Some, None, option_map, unwrap_or, length, set, get_or, refl, sym, ap, ◌∙◌, subst, ⊎_elim, arith}
use Rattle.std.specs.List.{position, prefix_len}
use Rattle.std.proofs.lemmas.Bool.{cases_Bool, cases_lt, cases_eq, cond_below, cond_above, ne_eqb}
use Rattle.std.proofs.lemmas.List.{get_or-set_same, get_or-set_other, drop_more, drop_all}
use Rattle.std.proofs.lemmas.List.FromFn.{fill_by_all}
use Rattle.std.proofs.lemmas.Nat.{div-add-mod', div-mul-add, mod-mul-add, mod_below}
use Rattle.std.proofs.lemmas.Bool.Decides.{nat_tests}
use Rattle.mapf_model.specs.Path.{at}
use Rattle.mapf_model.specs.Grid.{GridMap}
use Rattle.mapf_player.specs.Play.{mark, agent_in, terrain, cell_byte, row_cells}

-- the byte of a cell under these agents, the first of which has this number, over another byte
pub marked : ℕ → List (List ℕ) → ℕ → ℕ → ℕ → ℕ
marked first [] tick cell other = other
marked first (path ∷ paths) tick cell other = cond (eqb (at path tick) cell) (mark first) (marked (first + 1) paths tick cell other)

pub marked_none : (first tick cell other : ℕ) → marked first [] tick cell other ≡ other
unfolding marked
marked_none first tick cell other = refl

pub marked_hit : (first : ℕ) (path : List ℕ) (paths : List (List ℕ)) (tick cell other : ℕ) → eqb (at path tick) cell ≡ true → marked first (path ∷ paths) tick cell other ≡ mark first
unfolding marked
marked_hit first path paths tick cell other e = ap (λ b. cond b (mark first) (marked (first + 1) paths tick cell other)) e

pub marked_miss : (first : ℕ) (path : List ℕ) (paths : List (List ℕ)) (tick cell other : ℕ) → eqb (at path tick) cell ≡ false → marked first (path ∷ paths) tick cell other ≡ marked (first + 1) paths tick cell other
unfolding marked
marked_miss first path paths tick cell other e = ap (λ b. cond b (mark first) (marked (first + 1) paths tick cell other)) e

shifted : (m n : ℕ) → cond (ltb (1 + m) (suc n)) (Some (1 + m)) None ≡ option_map suc (cond (ltb m n) (Some m) None)
shifted m n = ⊎_elim
    (λ (below : m < n). let same : 1 + m ≡ suc m = omega arith in
    sym (cond_below (1 + m) (suc n) (Some (1 + m)) None (omega arith)) ∙ ap (λ x. Some x) same ∙ ap (option_map suc) (cond_below m n (Some m) None below))
    (λ (past : n ≤ m). sym (cond_above (1 + m) (suc n) (Some (1 + m)) None None (omega arith) refl) ∙ ap (option_map suc) (cond_above m n (Some m) None None past refl))
    (cases_lt m n)

pub position_hit : {X : Type 0} (p : X → Bool) (x : X) (xs : List X) → p x ≡ true → position p (x ∷ xs) ≡ Some 0
position_hit p x xs e = ap (λ b. cond (ltb (cond (not b) (1 + prefix_len (λ y. not (p y)) xs) 0) (suc (length xs))) (Some (cond (not b) (1 + prefix_len (λ y. not (p y)) xs) 0)) None) e
    ∙ sym (cond_below 0 (suc (length xs)) (Some 0) None (omega arith))

pub position_miss : {X : Type 0} (p : X → Bool) (x : X) (xs : List X) → p x ≡ false → position p (x ∷ xs) ≡ option_map suc (position p xs)
position_miss p x xs e =
    ap (λ b. cond (ltb (cond (not b) (1 + prefix_len (λ y. not (p y)) xs) 0) (suc (length xs))) (Some (cond (not b) (1 + prefix_len (λ y. not (p y)) xs) 0)) None) e
    ∙ shifted (prefix_len (λ y. not (p y)) xs) (length xs)

next_mark : (first : ℕ) (o : Option ℕ) (other : ℕ) → unwrap_or (option_map (λ k. mark (first + 1 + k)) o) other ≡ unwrap_or (option_map (λ k. mark (first + k)) (option_map suc o)) other
next_mark first None other = refl
next_mark first (Some k) other = let same : first + 1 + k ≡ first + suc k = omega arith in ap mark same

marked_from : (first : ℕ) (paths : List (List ℕ)) (tick cell other : ℕ) → marked first paths tick cell other ≡ unwrap_or (option_map (λ k. mark (first + k)) (agent_in paths tick cell)) other
marked_from first [] tick cell other = marked_none first tick cell other
marked_from first (path ∷ paths) tick cell other = ⊎_elim
    (λ (here : eqb (at path tick) cell ≡ true).
    let same : first ≡ first + 0 = omega arith in
    marked_hit first path paths tick cell other here ∙ ap mark same
    ∙ ap (λ o. unwrap_or (option_map (λ k. mark (first + k)) o) other) (sym (position_hit (λ p. eqb (at p tick) cell) path paths here)))
    (λ (away : eqb (at path tick) cell ≡ false).
    marked_miss first path paths tick cell other away ∙ marked_from (first + 1) paths tick cell other ∙ next_mark first (agent_in paths tick cell) other
    ∙ ap (λ o. unwrap_or (option_map (λ k. mark (first + k)) o) other) (sym (position_miss (λ p. eqb (at p tick) cell) path paths away)))
    (cases_Bool (eqb (at path tick) cell))

same_mark : (o : Option ℕ) (other : ℕ) → unwrap_or (option_map (λ k. mark (0 + k)) o) other ≡ unwrap_or (option_map mark o) other
same_mark None other = refl
same_mark (Some k) other = let same : 0 + k ≡ k = omega arith in ap mark same

pub marked_is : (paths : List (List ℕ)) (tick cell other : ℕ) → marked 0 paths tick cell other ≡ unwrap_or (option_map mark (agent_in paths tick cell)) other
marked_is paths tick cell other = marked_from 0 paths tick cell other ∙ same_mark (agent_in paths tick cell) other

-- in the row y each cell has the byte of the agents from this one on, over the byte from before
abbrev pub AreMarked : ℕ → ℕ → ℕ → List (List ℕ) → ℕ → List ℕ → List ℕ → Type 0
AreMarked w y first paths tick old row = (x : ℕ) → x < w → get_or row x 0 ≡ marked first paths tick (y * w + x) (get_or old x 0)

module _ (w y first : ℕ) (path : List ℕ) (paths : List (List ℕ)) (tick : ℕ) (old row : List ℕ) (some : 0 < w) (size : length row ≡ w) (before : AreMarked w y (first + 1) paths tick old row) where
  pub marked_here : at path tick / w ≡ y → AreMarked w y first (path ∷ paths) tick old (set row (at path tick % w) (mark first))
  marked_here row_is x within =
      let cell = at path tick in
      ⊎_elim
      (λ (same : x ≡ cell % w).
      let is : cell ≡ y * w + x = sym (div-add-mod' cell w) ∙ ap (λ q. q * w + cell % w) row_is ∙ ap (λ r. y * w + r) (sym same) in
      let hit : eqb cell (y * w + x) ≡ true = grind (arith, nat_tests) in
      ap (λ i. get_or (set row (cell % w) (mark first)) i 0) same ∙ get_or-set_same row (cell % w) (mark first) 0 (omega arith)
      ∙ sym (marked_hit first path paths tick (y * w + x) (get_or old x 0) hit))
      (λ (other : x ≡ cell % w → ⊥).
      let miss : eqb cell (y * w + x) ≡ false = ne_eqb cell (y * w + x) (λ is. other (sym (ap (λ n. n % w) is ∙ mod-mul-add y w x within))) in
      get_or-set_other row (cell % w) x (mark first) 0 other ∙ before x within ∙ sym (marked_miss first path paths tick (y * w + x) (get_or old x 0) miss))
      (cases_eq x (cell % w))

  pub marked_elsewhere : (at path tick / w ≡ y → ⊥) → AreMarked w y first (path ∷ paths) tick old row
  marked_elsewhere away x within =
      let miss : eqb (at path tick) (y * w + x) ≡ false = ne_eqb (at path tick) (y * w + x) (λ is. away (ap (λ n. n / w) is ∙ div-mul-add y w x within)) in
      before x within ∙ sym (marked_miss first path paths tick (y * w + x) (get_or old x 0) miss)

module _ (w y agent : ℕ) (paths : List (List ℕ)) (path : List ℕ) (tick cell : ℕ) (old row : List ℕ) (some : 0 < w) (size : length row ≡ w) (left : 0 < agent) (within : agent ≤ length paths) (path_is : path ≡ get_or paths (agent - 1) path) (cell_is : cell ≡ at path tick) (before : AreMarked w y agent (drop agent paths) tick old row) where
  before_this : AreMarked w y (agent - 1 + 1) (drop (agent - 1 + 1) paths) tick old row
  before_this = let same : agent ≡ agent - 1 + 1 = omega arith in subst (λ k. AreMarked w y k (drop k paths) tick old row) same before

  this_first : drop (agent - 1) paths ≡ path ∷ drop (agent - 1 + 1) paths
  this_first = drop_more paths (agent - 1) path (omega arith) ∙ ap (λ p. p ∷ drop (agent - 1 + 1) paths) (sym path_is)

  pub step_here : (byte : ℕ) → byte ≡ mark (agent - 1) → y * w ≤ cell → cell - y * w < w → AreMarked w y (agent - 1) (drop (agent - 1) paths) tick old (set row (cell - y * w) byte)
  step_here byte byte_is from below =
      let column : ℕ = cell - y * w in
      let whole : cell ≡ y * w + column = omega arith in
      let row_is : cell / w ≡ y = ap (λ n. n / w) whole ∙ div-mul-add y w column below in
      let column_is : cell % w ≡ column = ap (λ n. n % w) whole ∙ mod-mul-add y w column below in
      let row_at : at path tick / w ≡ y = ap (λ n. n / w) (sym cell_is) ∙ row_is in
      let here = marked_here w y (agent - 1) path (drop (agent - 1 + 1) paths) tick old row some size before_this row_at in
      subst (λ n. AreMarked w y (agent - 1) (drop (agent - 1) paths) tick old (set row n byte)) column_is
      (subst (λ ps. AreMarked w y (agent - 1) ps tick old (set row (cell % w) byte)) (sym this_first)
      (subst (λ n. AreMarked w y (agent - 1) (path ∷ drop (agent - 1 + 1) paths) tick old (set row (n % w) byte)) (sym cell_is)
      (subst (λ b. AreMarked w y (agent - 1) (path ∷ drop (agent - 1 + 1) paths) tick old (set row (at path tick % w) b)) (sym byte_is) here)))

  pub step_elsewhere : (y * w ≤ cell → cell - y * w < w → ⊥) → AreMarked w y (agent - 1) (drop (agent - 1) paths) tick old row
  step_elsewhere away = subst (λ ps. AreMarked w y (agent - 1) ps tick old row) (sym this_first)
      (marked_elsewhere w y (agent - 1) path (drop (agent - 1 + 1) paths) tick old row some size before_this
      (λ row_at.
      let row_is : cell / w ≡ y = ap (λ n. n / w) cell_is ∙ row_at in
      let whole = div-add-mod' cell w in
      let first : cell / w * w ≡ y * w = ap (λ n. n * w) row_is in
      let below = mod_below cell w some in
      away (omega arith) (omega arith)))

pub AreMarked-none : (w y : ℕ) (paths : List (List ℕ)) (tick : ℕ) (row : List ℕ) → AreMarked w y (length paths) (drop (length paths) paths) tick row row
AreMarked-none w y paths tick row x within =
    sym (ap (λ ps. marked (length paths) ps tick (y * w + x) (get_or row x 0)) (drop_all (length paths) paths (omega arith)) ∙ marked_none (length paths) tick (y * w + x) (get_or row x 0))

pub AreMarked-all : (w y agent : ℕ) (paths : List (List ℕ)) (tick : ℕ) (old row : List ℕ) → agent ≤ 0 → AreMarked w y agent (drop agent paths) tick old row → (x : ℕ) → x < w → get_or row x 0 ≡ unwrap_or (option_map mark (agent_in paths tick (y * w + x))) (get_or old x 0)
AreMarked-all w y agent paths tick old row over all x within =
    let none : agent ≡ 0 = omega arith in
    subst (λ k. get_or row x 0 ≡ marked k (drop k paths) tick (y * w + x) (get_or old x 0)) none (all x within) ∙ marked_is paths tick (y * w + x) (get_or old x 0)

module _ (grid : GridMap) (paths : List (List ℕ)) (tick y : ℕ) (plain drawn : List ℕ) (whole : length drawn ≡ grid.width)
    (fills : (x : ℕ) → x < grid.width → get_or plain x 0 ≡ terrain grid (y * grid.width + x))
    (marks : (x : ℕ) → x < grid.width → get_or drawn x 0 ≡ unwrap_or (option_map mark (agent_in paths tick (y * grid.width + x))) (get_or plain x 0))
  where
    byte_drawn : (x : ℕ) → x < grid.width → get_or drawn x 0 ≡ cell_byte grid paths tick (y * grid.width + x)
    byte_drawn x within = marks x within ∙ ap (unwrap_or (option_map mark (agent_in paths tick (y * grid.width + x)))) (fills x within)

    pub row_drawn : drawn ≡ row_cells grid paths tick y
    row_drawn = fill_by_all (λ x. cell_byte grid paths tick (y * grid.width + x)) drawn grid.width 0 whole byte_drawn
