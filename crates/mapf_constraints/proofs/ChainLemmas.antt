-- Constraints in chains: which constraints the links have, and the chains with one more link.
use Rattle.std.proofs.Common.{◌≡◌, ℕ, Bool, false, true, ◌+◌, ◌<◌, ◌≤◌, List, [], ◌∷◌, ◌++◌, length, Contains, slice_index, slice_index_or, slice_set, replicate, ⊎_elim, sym, subst, refl, ap, ◌∙◌, arith, take}
use Rattle.std.proofs.lemmas.Bool.{cases_lt, cases_eq}
use Rattle.std.proofs.lemmas.List.{get_or-map, length-map, length-append, get_or_push, get_or_append_left, get_or-set_same, get_or-set_other, get_or-replicate, length-replicate, take_more, map-append}
use Rattle.std.proofs.lemmas.List.Elements.{Contains-get_or}
use Rattle.mapf_model.specs.declared.bar.Bar.{Bar}
use Rattle.mapf_model.specs.declared.bar.Bar.TheVariants.{Cell}
use Rattle.mapf_model.specs.Bars.{AreBars}
use Rattle.mapf_model.specs.Laws.{AreSameBars}
use Rattle.mapf_model.specs.Limits.{split_ticks}
use Rattle.mapf_model.proofs.ContainsLemmas.{Contains-cons_cases}
use Rattle.mapf_constraints.proofs.BarLemmas.{AreSameBars-push}
use Rattle.mapf_constraints.specs.BarSets.{arrival, bar_tick, IsHorizon}
use Rattle.mapf_constraints.specs.Chains.{bars_of, link_at, chain_of, chain_at, mark_index, IsNewest, AreChained, AreMarked}
use Rattle.mapf_constraints.specs.declared.link.Link.{Link}

abbrev pub no_link : Link
no_link = record { bar = Cell 0 0; older = 0 }

module _ (links : List Link) where
  -- the constraint of a link is one of the constraints
  pub bars_of-has : (place : ℕ) → place < length links → Contains (bars_of links) (link_at links place).bar
  bars_of-has place within =
      let e : slice_index_or (bars_of links) place (Cell 0 0) ≡ (link_at links place).bar = get_or-map (λ (link : Link). link.bar) links place no_link (Cell 0 0) within in
      subst (Contains (bars_of links)) e (Contains-get_or (bars_of links) place (Cell 0 0) (rw (length-map links (λ (link : Link). link.bar)) within))

  -- each of the constraints is that of a link
  pub bars_of-from : (bar : Bar) → Contains (bars_of links) bar → (place : ℕ) × (place < length links) × ((link_at links place).bar ≡ bar)
  bars_of-from bar (place, within, is) =
      let place_within : place < length links = rw (← length-map links (λ (link : Link). link.bar)) within in
      (place, place_within, sym (get_or-map (λ (link : Link). link.bar) links place no_link bar place_within) ∙ is)

  -- one more link
  module _ (link : Link) where
    old_link : (place : ℕ) → place < length links → link_at (links ++ link ∷ []) place ≡ link_at links place
    old_link place within = get_or_append_left links (link ∷ []) no_link place within

    old_chain : (place : ℕ) → place < length links → chain_at (links ++ link ∷ []) place ≡ chain_at links place
    old_chain place within = ap (λ (l : Link). chain_of (bar_tick l.bar)) (old_link place within)

    new_link : link_at (links ++ link ∷ []) (length links) ≡ link
    new_link = get_or_push links link no_link (length links) refl

    new_chain : chain_at (links ++ link ∷ []) (length links) ≡ chain_of (bar_tick link.bar)
    new_chain = ap (λ (l : Link). chain_of (bar_tick l.bar)) new_link

    IsNewest-push : (end chain count : ℕ) → end ≤ length links → IsNewest links end chain count → IsNewest (links ++ link ∷ []) end chain count
    IsNewest-push end chain count short old = record {
      within = old.within;
      own = λ place e. let w : place < length links = omega (arith, old.within) in old_chain place w ∙ old.own place e;
      newest = λ place before is. let w : place < length links = omega arith in old.newest place before (sym (old_chain place w) ∙ is);
    }

    IsNewest-other : (chain count : ℕ) → (chain ≡ chain_of (bar_tick link.bar) → ⊥) → IsNewest links (length links) chain count → IsNewest (links ++ link ∷ []) (length links + 1) chain count
    IsNewest-other chain count other old =
        let now = IsNewest-push (length links) chain count (omega arith) old in
        record {
          within = omega (arith, old.within);
          own = now.own;
          newest = λ place before is. ⊎_elim
              (λ earlier. now.newest place earlier is)
              (λ last. absurd (let e : place ≡ length links = omega arith in
              other (sym (subst (λ (p : ℕ). chain_at (links ++ link ∷ []) p ≡ chain) e is) ∙ new_chain)))
              (cases_lt place (length links));
        }

    IsNewest-own : IsNewest (links ++ link ∷ []) (length links + 1) (chain_of (bar_tick link.bar)) (length links + 1)
    IsNewest-own = record {
      within = omega arith;
      own = λ place e. let s : length links ≡ place = omega arith in subst (λ (p : ℕ). chain_at (links ++ link ∷ []) p ≡ chain_of (bar_tick link.bar)) s new_chain;
      newest = λ place before is. before;
    }

    AreChained-own : (newest : List ℕ) → AreChained links newest → link.older ≡ slice_index newest (chain_of (bar_tick link.bar)) → length newest ≡ 64
        → AreChained (links ++ link ∷ []) (slice_set newest (chain_of (bar_tick link.bar)) (length links + 1))
    AreChained-own newest chained is_older size = record {
      first = λ chain small. rw (length-append links (link ∷ [])) (⊎_elim
          (λ (same : chain ≡ chain_of (bar_tick link.bar)). let within : chain_of (bar_tick link.bar) < length newest = omega (arith, small) in
          rw (same, get_or-set_same newest (chain_of (bar_tick link.bar)) (length links + 1) 0 within) IsNewest-own)
          (λ other. rw (get_or-set_other newest (chain_of (bar_tick link.bar)) chain (length links + 1) 0 other) (IsNewest-other chain (slice_index newest chain) other (chained.first chain small)))
          (cases_eq chain (chain_of (bar_tick link.bar))));
      next = λ place within. ⊎_elim
          (λ before. rw (old_link place before) (IsNewest-push place (chain_at links place) (link_at links place).older (omega arith) (chained.next place before)))
          (λ after. let e : place ≡ length links = let n : length (links ++ link ∷ []) ≡ length links + 1 = length-append links (link ∷ []) in omega (arith, n, within) in
          rw (e, new_link) (subst (λ (n : ℕ). IsNewest (links ++ link ∷ []) (length links) (chain_of (bar_tick link.bar)) n) (sym is_older)
          (IsNewest-push (length links) (chain_of (bar_tick link.bar)) (slice_index newest (chain_of (bar_tick link.bar))) (omega arith) (chained.first (chain_of (bar_tick link.bar)) (omega arith)))))
          (cases_lt place (length links));
    }

    pub AreChained-push : (newest : List ℕ) (chain count : ℕ) → AreChained links newest → chain ≡ chain_of (bar_tick link.bar) → link.older ≡ slice_index newest chain → count ≡ length links + 1 → length newest ≡ 64
        → AreChained (links ++ link ∷ []) (slice_set newest chain count)
    AreChained-push newest chain count chained is_chain is_older is_count size = rw (is_chain, is_count) (AreChained-own newest chained (is_older ∙ ap (slice_index newest) is_chain) size)

-- one more link, as a set of constraints
pub bars_of-push : (links : List Link) (link : Link) → AreSameBars (bars_of (links ++ link ∷ [])) (link.bar ∷ bars_of links)
bars_of-push links link = rw (map-append (λ (l : Link). l.bar) links (link ∷ [])) (AreSameBars-push (bars_of links) link.bar)

-- a prefix of the links with the next link
pub bars_of-take : (links : List Link) (i : ℕ) (link : Link) → i < length links → link ≡ slice_index_or links i link → AreSameBars (bars_of (take (i + 1) links)) (link.bar ∷ bars_of (take i links))
bars_of-take links i link within is = subst (λ (l : Link). AreSameBars (bars_of (take (i + 1) links)) (l.bar ∷ bars_of (take i links))) (sym is) (rw (take_more links i link within) (bars_of-push (take i links) (slice_index_or links i link)))

mark_small : (state : ℕ × ℕ) → mark_index state < 512
mark_small (cell, tick) = omega arith

-- the marks of one more link
pub AreMarked-push : (links : List Link) (link : Link) (marks : List Bool) (place : ℕ) → place ≡ mark_index (arrival link.bar) → length marks ≡ 512 → AreMarked (bars_of links) marks → AreMarked (bars_of (links ++ link ∷ [])) (slice_set marks place true)
AreMarked-push links link marks place is size marked bar held =
    let within : place < length marks = let small = mark_small (arrival link.bar) in omega (arith, small, is, size) in
    let set = get_or-set_same marks place true false within in
    ⊎_elim
    (λ (new : link.bar ≡ bar). ap (λ b. slice_index_or (slice_set marks place true) (mark_index (arrival b)) false) (sym new) ∙ subst (λ p. slice_index_or (slice_set marks place true) p false ≡ true) is set)
    (λ (old : Contains (bars_of links) bar). ⊎_elim
    (λ (same : mark_index (arrival bar) ≡ place). subst (λ p. slice_index_or (slice_set marks place true) p false ≡ true) (sym same) set)
    (λ other. get_or-set_other marks place (mark_index (arrival bar)) true false other ∙ marked bar old)
    (cases_eq (mark_index (arrival bar)) place))
    (Contains-cons_cases link.bar bar (bars_of links) ((bars_of-push links link bar).0 held))

-- no links
AreChained-none : (links : List Link) → links ≡ [] → AreChained links (replicate 64 0)
AreChained-none links none = record {
  first = λ chain small. rw (get_or-replicate {A = ℕ} 64 chain 0 0 small) (let n : length links ≡ 0 = ap length none in record {
    within = omega arith;
    own = λ place e. absurd (omega (arith, e));
    newest = λ place before is. absurd (omega (arith, n, before));
  });
  next = λ place within. absurd (let e : length links ≡ 0 = ap length none in omega (arith, within));
}

-- a table without constraints
pub no_bars : (links : List Link) → links ≡ [] → AreBars (bars_of links) × IsHorizon (bars_of links) 0 × (0 ≤ split_ticks) × AreChained links (replicate 64 0) × (length (replicate 512 false) ≡ 512) × AreMarked (bars_of links) (replicate 512 false)
no_bars links none = rw none (
  (λ bar held. absurd (let (place, within, is) = held in omega (arith, within))),
  record { above = λ bar held. absurd (let (place, within, is) = held in omega (arith, within)); least = λ bound bounds. omega arith },
  omega arith,
  AreChained-none [] refl,
  length-replicate 512 false,
  (λ bar held. absurd (let (place, within, is) = held in omega (arith, within))),
)
