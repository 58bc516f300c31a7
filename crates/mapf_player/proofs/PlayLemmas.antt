-- What is seen of a plan.
use Rattle.std.proofs.Common.{◌≡◌, ℕ, zero, suc, ◌≤◌, eqb, Bool, true, false, List, [], ◌∷◌, Some, None, option_map, unwrap_or, slice_get, refl, sym, ap, ◌∙◌, inl, ⊎_elim, arith}
use Rattle.std.specs.List.{position}
use Rattle.std.proofs.lemmas.Bool.{cases_Bool, cases_eq, eq-eqb, eqb-true, ne_eqb}
use Rattle.std.proofs.lemmas.Option.{same_Some}
use Rattle.mapf_model.specs.Path.{at}
use Rattle.mapf_model.specs.Plan.{Instance}
use Rattle.mapf_player.specs.Play.{mark, terrain, play_text, IsMakespan, PlaysAreOne, AgentsAreSeen, TerrainIsSeen}
use Rattle.mapf_player.proofs.RowLemmas.{position_hit, position_miss}

makespan_below : (problem : Instance) (plan : List (List ℕ)) (a b : ℕ) → IsMakespan problem.agents plan a → IsMakespan problem.agents plan b → a ≤ b
makespan_below problem plan a b x y = y.most x.some.0 x.some.1 x.some.2 a x.some.3 x.some.4 x.some.5

pub plays_are_one : PlaysAreOne
plays_are_one problem plan a b (m, is_m, a_is) (n, is_n, b_is) =
    let one = makespan_below problem plan m n is_m is_n in
    let two = makespan_below problem plan n m is_n is_m in
    let same : m ≡ n = omega arith in
    a_is ∙ ap (play_text problem.grid plan) same ∙ sym b_is

-- the first place of a list at which a test passes
record IsFound {X : Type 0} (p : X → Bool) (xs : List X) : Type 0 where
  place : ℕ
  item : X
  is_first : position p xs ≡ Some place
  stands : slice_get xs place ≡ Some item
  passes : p item ≡ true

found : {X : Type 0} (p : X → Bool) (xs : List X) (i : ℕ) (x : X) → slice_get xs i ≡ Some x → p x ≡ true → IsFound p xs
found p [] i x e h = absurd cc
found p (z ∷ zs) zero x e h =
    let here : p z ≡ true = ap p (same_Some z x e) ∙ h in
    record { place = 0; item = z; is_first = position_hit p z zs here; stands = refl; passes = here }
found p (z ∷ zs) (suc i) x e h = ⊎_elim
    (λ (here : p z ≡ true). record { place = 0; item = z; is_first = position_hit p z zs here; stands = refl; passes = here })
    (λ (away : p z ≡ false).
    let later = found p zs i x e h in
    record { place = suc later.place; item = later.item; is_first = position_miss p z zs away ∙ ap (option_map suc) later.is_first; stands = later.stands; passes = later.passes })
    (cases_Bool (p z))

nowhere : {X : Type 0} (p : X → Bool) (xs : List X) → ((i : ℕ) (x : X) → slice_get xs i ≡ Some x → p x ≡ false) → position p xs ≡ None
nowhere p [] none = refl
nowhere p (x ∷ xs) none = position_miss p x xs (none 0 x refl) ∙ ap (option_map suc) (nowhere p xs (λ i. none (suc i)))

pub agents_are_seen : AgentsAreSeen
agents_are_seen problem plan valid i tick path this =
    let stands = λ (p : List ℕ). eqb (at p tick) (at path tick) in
    let first = found stands plan i path this (eq-eqb (at path tick) (at path tick) refl) in
    let meets : at first.item tick ≡ at path tick = eqb-true (at first.item tick) (at path tick) first.passes in
    let is_i : first.place ≡ i = ⊎_elim
    (λ (same : first.place ≡ i). same)
    (λ (differ : first.place ≡ i → ⊥). absurd (valid.apart first.place i tick first.item path differ first.stands this (inl meets)))
    (cases_eq first.place i) in
    ap (λ o. unwrap_or (option_map mark o) (terrain problem.grid (at path tick))) first.is_first ∙ ap mark is_i

pub terrain_is_seen : TerrainIsSeen
terrain_is_seen grid plan tick cell none =
    ap (λ o. unwrap_or (option_map mark o) (terrain grid cell)) (nowhere (λ p. eqb (at p tick) cell) plan (λ i path this. ne_eqb (at path tick) cell (none i path this)))
