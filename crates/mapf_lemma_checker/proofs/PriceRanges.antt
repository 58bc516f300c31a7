-- What a price list in its ranges and orders says of its prices.
use Rattle.std.proofs.Common.{◌≡◌, ◌⊎◌, ℕ, suc, ◌<◌, ◌≤◌, Bool, true, false, List, [], ◌∷◌, All, AllPairs, sum_by, slice_index_or, refl, sym, ◌∙◌, inl, inr, ⊎_elim, arith}
use Rattle.std.specs.Prelude.{◌&&◌, ◌==◌, if◌then◌else◌}
use Rattle.std.proofs.lemmas.Bool.{eqb-true, and_parts, cases_eq}
use Rattle.std.proofs.lemmas.List.Elements.{All-weaker}
use Rattle.std.proofs.lemmas.List.Sums.{sum_by-cons, sum_by-le}
use Rattle.mapf_lemmas.specs.declared.price.Price.{Price}
use Rattle.mapf_lemmas.specs.declared.price.Price.TheVariants.{Cell, Edge}
use Rattle.mapf_lemmas.specs.Prices.{PriceList, amount_of, asked_in}
use Rattle.mapf_lemmas.proofs.PlanLemmas.{sum_by-none}
use Rattle.mapf_lemma_texts.specs.declared.line.LemmaLine.TheVariants as lines
use Rattle.mapf_lemma_texts.specs.declared.part.Part.TheVariants as parts
use Rattle.mapf_lemma_texts.specs.declared.sizes.LineSizes.{LineSizes}
use Rattle.mapf_lemma_texts.specs.Listing.{IsListed, IsFirstSmaller}
use Rattle.mapf_lemma_texts.specs.Places.{IsBefore, price_place}
use Rattle.mapf_lemma_texts.specs.Ranges.{greatest_price}
use Rattle.mapf_lemma_checker.specs.LemmaParts.{AreCellPricesSmall, IsPartOf}
use Rattle.mapf_model.specs.Plan.{Instance}
use Rattle.mapf_single_labels.specs.Ranges.{IsListInRange}

-- a sum of which at most one term isn't 0
one_term : {X : Type 0} (f : X → ℕ) (most : ℕ) (xs : List X) → All (λ x. f x ≤ most) xs →
    AllPairs (λ x y. (f x ≡ 0) ⊎ (f y ≡ 0)) xs → sum_by f xs ≤ most
one_term f most [] small apart = omega arith
one_term f most (x ∷ xs) small apart = ⊎_elim
    (λ (none : f x ≡ 0). rw (sum_by-cons f x xs) (omega (arith, none, one_term f most xs (λ k d within. small (suc k) d (omega arith)) (λ i j d lt within. apart (suc i) (suc j) d (omega arith) (omega arith)))))
    (λ (some : f x ≡ 0 → ⊥). rw (sum_by-cons f x xs) (omega (arith, small 0 x (omega arith), sum_by-none f xs (λ k d within. ⊎_elim (λ (is : f x ≡ 0). absurd (some is)) (λ (is : f (slice_index_or xs k d) ≡ 0). is) (apart 0 (suc k) d (omega arith) (omega arith))))))
    (cases_eq (f x) 0)

-- a price is in range
amount_small : (sizes : LineSizes) (price : Price) → IsListed sizes lines.Price IsFirstSmaller price →
    amount_of price ≤ greatest_price
amount_small sizes (Cell cell tick amount) ((in_grid, early, (some, few)), fits) = few
amount_small sizes (Edge from to tick amount) ((in_grid, also, early, (some, few)), fits) = few

-- a price asks for no more than its amount
asked_small : (cell tick most : ℕ) (price : Price) → amount_of price ≤ most → asked_in cell tick price ≤ most
asked_small cell tick most (Cell here now amount) few = by ((here == cell) && (now == tick))
  where
    by : (b : Bool) → (if b then amount else 0) ≤ most
    by true = few
    by false = omega arith
asked_small cell tick most (Edge from to now amount) few = omega arith

-- two cells of one tick of which the first comes before the second differ
differ : (c d m n r : ℕ) → c ≡ d → m ≡ n →
    (m < n) ⊎ ((m ≡ n) × ((r < r) ⊎ ((r ≡ r) × ((c < d) ⊎ ((c ≡ d) × (r < r)))))) → ⊥
differ c d m n r p q (inl early) = omega (arith, early, q)
differ c d m n r p q (inr (same, inl none)) = omega (arith, none)
differ c d m n r p q (inr (same, inr (rank, inl less))) = omega (arith, less, p)
differ c d m n r p q (inr (same, inr (rank, inr (also, none)))) = omega (arith, none)

-- of two prices in order at most one asks for being in this cell at this tick
one_asks : (cell tick : ℕ) (a b : Price) → IsBefore (price_place a) (price_place b) →
    (asked_in cell tick a ≡ 0) ⊎ (asked_in cell tick b ≡ 0)
one_asks cell tick (Cell c m amount) (Cell d n other) before =
    by ((c == cell) && (m == tick)) ((d == cell) && (n == tick)) refl refl
  where
    by : (p q : Bool) → ((c == cell) && (m == tick)) ≡ p → ((d == cell) && (n == tick)) ≡ q →
        ((if p then amount else 0) ≡ 0) ⊎ ((if q then other else 0) ≡ 0)
    by false q here there = inl refl
    by true false here there = inr refl
    by true true here there =
        let one = and_parts (c == cell) (m == tick) here in
        let two = and_parts (d == cell) (n == tick) there in
        absurd (differ c d m n 0 (eqb-true c cell one.0 ∙ sym (eqb-true d cell two.0))
        (eqb-true m tick one.1 ∙ sym (eqb-true n tick two.1)) before)
one_asks cell tick (Cell c m amount) (Edge from to n other) before = inr refl
one_asks cell tick (Edge from to m amount) b before = inl refl

module _ (problem : Instance) (lists : ℕ) (list : PriceList) (part : IsPartOf problem lists (parts.List list)) where
  amounts : All (λ price. amount_of price ≤ greatest_price) list.prices
  amounts =
      All-weaker (IsListed part.sizes lines.Price IsFirstSmaller) (λ (price : Price). amount_of price ≤ greatest_price)
      (amount_small part.sizes) list.prices part.in_range.1.each

  -- its unit and the sum of its prices are in range
  pub list_in_range : IsListInRange list
  list_in_range = record {
    unit = part.in_range.0.0.1;
    total = omega (arith, part.in_range.0.1, sum_by-le amount_of greatest_price list.prices amounts);
  }

  -- a tick is worth at least 1
  pub unit_some : 1 ≤ list.unit
  unit_some = part.in_range.0.0.0

  -- a cell costs at most a single price at each tick
  pub cell_prices_small : AreCellPricesSmall list
  cell_prices_small cell tick =
      one_term (asked_in cell tick) greatest_price list.prices
      (All-weaker (λ (price : Price). amount_of price ≤ greatest_price) (λ (price : Price). asked_in cell tick price ≤ greatest_price)
      (asked_small cell tick greatest_price) list.prices amounts)
      (λ i j d less within. one_asks cell tick (slice_index_or list.prices i d) (slice_index_or list.prices j d)
      (part.in_range.1.rising i j d less within))
