-- Price lists that are kept with their totals.
use native.Mathlib.Omega.{arith}
use Rattle.std.proofs.Common.{◌≡◌, ◌∙◌, ◌++◌, ◌∷◌, [], ℕ, ◌+◌, List, All, Some, length, slice_get, suc, zero, refl, sym, ap, subst, ◌≤◌}
use Rattle.mapf_cases.specs.declared.known.ListTotal.{ListTotal}
use Rattle.mapf_cases.specs.Leaves.{AreTotalsOf, IsTotalOf, IsUnitInRange}
use Rattle.mapf_lemmas.specs.Prices.{PriceList, total_price}
use Rattle.mapf_lemma_checker.specs.LemmaParts.{AreCellPricesSmall}
use Rattle.mapf_lemma_checker.specs.Lists.{AreKept}
use Rattle.mapf_single_labels.specs.Ranges.{IsListInRange}
use Rattle.std.proofs.lemmas.List.Elements.{All-append, All-cons, All-nil}
use Rattle.std.proofs.lemmas.List.{length_push}

each_more : (lists : List PriceList) (totals : List ListTotal) (list : PriceList) (total : ListTotal) →
    length totals ≡ length lists →
    ((n : ℕ) (l : PriceList) (t : ListTotal) → slice_get lists n ≡ Some l → slice_get totals n ≡ Some t → IsTotalOf l t) →
    IsTotalOf list total → (n : ℕ) (l : PriceList) (t : ListTotal) → slice_get (lists ++ list ∷ []) n ≡ Some l →
    slice_get (totals ++ total ∷ []) n ≡ Some t → IsTotalOf l t
each_more [] [] list total count each is zero l t p q = grind (arith, p, q, is)
each_more [] [] list total count each is (suc n) l t p q = grind (arith, p, q)
each_more [] (x ∷ totals) list total count each is n l t p q = grind (arith, count)
each_more (x ∷ lists) [] list total count each is n l t p q = grind (arith, count)
each_more (x ∷ lists) (y ∷ totals) list total count each is zero l t p q = each 0 l t p q
each_more (x ∷ lists) (y ∷ totals) list total count each is (suc n) l t p q =
    each_more lists totals list total (omega (arith, count)) (λ k. each (suc k)) is n l t p q

-- one more list with its total
pub totals_more : (lists : List PriceList) (totals : List ListTotal) (list : PriceList) (total : ListTotal) →
    AreTotalsOf lists totals → IsTotalOf list total → AreTotalsOf (lists ++ list ∷ []) (totals ++ total ∷ [])
totals_more lists totals list total are is = record {
  count = length_push totals total ∙ (ap (λ n. n + 1) are.count ∙ sym (length_push lists list));
  each = each_more lists totals list total are.count are.each is;
}

-- a list in range has a unit in range
unit_in : (list : PriceList) → IsListInRange list → 1 ≤ list.unit →
    All IsUnitInRange (record { unit = list.unit; total = total_price list.prices } ∷ [])
unit_in list range some zero d below = record { some = some; few = range.unit }
unit_in list range some (suc k) d below = absurd (omega (arith, below))

-- one more list in which cells cost little
small_more : (lists : List PriceList) (list : PriceList) → All AreCellPricesSmall lists → AreCellPricesSmall list →
    All AreCellPricesSmall (lists ++ list ∷ [])
small_more lists list all small =
    All-append AreCellPricesSmall lists (list ∷ []) all
    (All-cons AreCellPricesSmall list [] small (All-nil AreCellPricesSmall))

kept_one : (lists : List PriceList) (totals : List ListTotal) (none list : PriceList) →
    AreKept lists totals none → IsListInRange list → 1 ≤ list.unit → AreCellPricesSmall list →
    AreKept (lists ++ list ∷ [])
    (totals ++ record { unit = list.unit; total = total_price list.prices } ∷ []) none
kept_one lists totals none list kept range some small = record {
  totals_are = totals_more lists totals list (record { unit = list.unit; total = total_price list.prices })
      kept.totals_are (refl, refl);
  units = All-append IsUnitInRange totals (record { unit = list.unit; total = total_price list.prices } ∷ [])
      kept.units (unit_in list range some);
  small = small_more lists list kept.small small;
  none_is = kept.none_is;
}

-- one more list is kept with its total
pub kept_more : (lists : List PriceList) (totals : List ListTotal) (none list : PriceList) (lists' : List PriceList)
    (totals' : List ListTotal) → AreKept lists totals none → IsListInRange list → 1 ≤ list.unit →
    AreCellPricesSmall list → lists' ≡ lists ++ list ∷ [] →
    totals' ≡ totals ++ record { unit = list.unit; total = total_price list.prices } ∷ [] → AreKept lists' totals' none
kept_more lists totals none list lists' totals' kept range some small p q =
    subst (λ xs. AreKept xs totals' none) (sym p) (subst (λ ys. AreKept (lists ++ list ∷ []) ys none) (sym q)
    (kept_one lists totals none list kept range some small))
