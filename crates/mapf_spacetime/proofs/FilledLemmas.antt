-- The places of the words that aren't 0.
use Rattle.std.proofs.Common.{◌≡◌, ◌≢◌, ℕ, ◌/◌, ◌%◌, ◌≤◌, List, Option, None, Some, IfSome, IfNone, ◌++◌, length, take, drop, slice_index, sym, ap, subst, ◌∙◌, ⊎_elim, arith}
use Rattle.std.proofs.Math.Seq.{take-append_seam}
use Rattle.std.proofs.lemmas.Bool.{cases_eq}
use Rattle.std.proofs.lemmas.Nat.Bits.{bit_at-zero}
use Rattle.std.specs.Int.{bit_at}
use Rattle.mapf_spacetime.specs.CellSets.{HasNumber, HasNone, AreFilled}

-- the word at a place is written, and the set of places is as it was but for this place
pub filled_after : (words new_words filled new : List ℕ) → AreFilled words filled → (place : ℕ) → length new_words ≡ length words → length new ≡ length filled
    → ((other : ℕ) → other ≢ place → slice_index new_words other ≡ slice_index words other)
    → ((other : ℕ) → HasNumber filled other → other ≢ place → HasNumber new other) → ((other : ℕ) → HasNumber new other → other ≢ place → HasNumber filled other)
    → (slice_index new_words place ≢ 0 → HasNumber new place) → (HasNumber new place → slice_index new_words place ≢ 0) → AreFilled new_words new
filled_after words new_words filled new are place count size others kept only there back = record {
  full = λ other some. ⊎_elim
      (λ (same : other ≡ place). subst (HasNumber new) (sym same) (there (λ zero. some (ap (λ n. slice_index new_words n) same ∙ zero))))
      (λ (apart : other ≢ place). kept other (are.full other (λ zero. some (others other apart ∙ zero))) apart)
      (cases_eq other place);
  only = λ other held. ⊎_elim
      (λ (same : other ≡ place).
      let some = back (subst (HasNumber new) same held) in
      λ (zero : slice_index new_words other ≡ 0). some (ap (λ n. slice_index new_words n) (sym same) ∙ zero))
      (λ (apart : other ≢ place).
      let some = are.only other (only other held apart) in
      λ (zero : slice_index new_words other ≡ 0). some (sym (others other apart) ∙ zero))
      (cases_eq other place);
  room = let r = are.room in omega (arith, r, size, count);
}

-- taking the least number removes the least place
pub least_gone : (taken : Option ℕ) (old new : List ℕ) (place : ℕ) → HasNumber old place → ((other : ℕ) → HasNumber old other → place ≤ other)
    → IfSome taken (λ n. HasNumber old n) → IfSome taken (λ n. (other : ℕ) → HasNumber old other → n ≤ other)
    → IfSome taken (λ n. (other : ℕ) → HasNumber old other → other ≢ n → HasNumber new other) → IfSome taken (λ n. (other : ℕ) → HasNumber new other → HasNumber old other × (other ≢ n)) → IfNone taken (HasNone old)
    → ((other : ℕ) → HasNumber old other → other ≢ place → HasNumber new other) × ((other : ℕ) → HasNumber new other → HasNumber old other × (other ≢ place))
least_gone None old new place held least has low kept only none = absurd (none place held)
least_gone (Some n) old new place held least has low kept only none =
    let same : n ≡ place = (let a = low place held in let b = least n has in omega (arith, a, b)) in (
      λ other there apart. kept other there (λ e. apart (e ∙ same)),
      λ other there. let o = only other there in (o.0, λ e. o.1 (e ∙ sym same)),
    )

-- the word of a cell of the set isn't 0
pub not_zero : (words : List ℕ) (cell : ℕ) → HasNumber words cell → slice_index words (cell / 64) ≢ 0
not_zero words cell held zero = let one = sym held ∙ ap (λ n. bit_at n (cell % 64)) zero ∙ bit_at-zero (cell % 64) in omega (arith, one)

-- the words that are written through a slice of all of them
pub written_back : (old new : List ℕ) (count : ℕ) → count ≡ length old → length new ≡ length old → take count (new ++ drop (length new) old) ≡ new
written_back old new count all size = ap (λ n. take n (new ++ drop (length new) old)) (all ∙ sym size) ∙ take-append_seam new (drop (length new) old)
