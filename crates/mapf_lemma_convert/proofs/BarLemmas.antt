-- The constraints of a node, and how many lemmas a tree has.
use Rattle.std.proofs.Common.{◌≡◌, ℕ, Bool, true, false, cond, List, ◌∷◌, ◌++◌, Contains, length, length-append, map, refl, subst, ⊎_elim, arith}
use Rattle.std.specs.Prelude.{◌==◌}
use Rattle.std.proofs.lemmas.List.{length-map}
use Rattle.mapf_model.specs.declared.bar.Bar.{Bar}
use Rattle.mapf_model.specs.Tree.{ConstraintTree, Split, Leaf, Clash, left_constraint, right_constraint, with_bar, with_constraint}
use Rattle.mapf_model.proofs.ContainsLemmas.{Contains-cons_old, Contains-cons_cases}
use Rattle.mapf_lemma_convert.specs.Conversion.{block_count, lemma_of, lemmas_from}

-- a property of each constraint of each agent
abbrev pub AllBars : (Bar → Type 0) → (ℕ → List Bar) → Type 0
AllBars P bars = (agent : ℕ) (bar : Bar) → Contains (bars agent) bar → P bar

module _ (bars : ℕ → List Bar) (i : ℕ) (more : Bar) where
  -- one more constraint keeps the others
  pub bar_kept : (agent : ℕ) (bar : Bar) → Contains (bars agent) bar → Contains (with_bar bars i more agent) bar
  bar_kept agent bar held = by (agent == i)
    where
      by : (here : Bool) → Contains (cond here (more ∷ bars agent) (bars agent)) bar
      by true = Contains-cons_old more bar (bars agent) held
      by false = held

-- one more constraint with the property
pub more_bars : (P : Bar → Type 0) (bars : ℕ → List Bar) (i : ℕ) (more : Bar) → AllBars P bars → P more → AllBars P (with_bar bars i more)
more_bars P bars i more all new agent bar held = by (agent == i) held
  where
    by : (here : Bool) → Contains (cond here (more ∷ bars agent) (bars agent)) bar → P bar
    by true found = ⊎_elim
        (λ (is : more ≡ bar). subst P is new)
        (λ (later : Contains (bars agent) bar). all agent bar later)
        (Contains-cons_cases more bar (bars agent) found)
    by false found = all agent bar found

-- a tree has as many lemmas as blocks
pub lemma_count : (bars : ℕ → List Bar) (tree : ConstraintTree) → length (lemmas_from bars tree) ≡ block_count tree
lemma_count bars (Split conflict blocks left right) =
    let on_left = lemma_count (with_constraint bars (left_constraint conflict)) left in
    let on_right = lemma_count (with_constraint bars (right_constraint conflict)) right in
    let here = length-map blocks (lemma_of bars) in
    let whole = length-append (map (lemma_of bars) blocks) (lemmas_from (with_constraint bars (left_constraint conflict)) left ++ lemmas_from (with_constraint bars (right_constraint conflict)) right) in
    let both = length-append (lemmas_from (with_constraint bars (left_constraint conflict)) left) (lemmas_from (with_constraint bars (right_constraint conflict)) right) in
    omega (arith, on_left, on_right, here, whole, both)
lemma_count bars (Leaf blocks) = length-map blocks (lemma_of bars)
lemma_count bars (Clash i j) = refl
