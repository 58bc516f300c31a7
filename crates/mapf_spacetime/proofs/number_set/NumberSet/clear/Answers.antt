use Rattle.std.proofs.Common.{◌≡◌, ℕ, ◌<◌, ◌≤◌, ⊎_elim, List, length, slice_index, slice_index_or, refl, ap, ◌∙◌, arith, rules}
use Rattle.std.proofs.lemmas.Bool.{cases_lt}
use Rattle.std.proofs.lemmas.List.{get_or_past}
use Rattle.mapf_spacetime.proofs.CellLemmas.{no_cells}
use Rattle.mapf_spacetime.proofs.number_set.NumberSet.clear.Goals as goal
use Rattle.mapf_spacetime.proofs.number_set.NumberSet.clear.Goals.{then-len-words+in_ok-resize, else-len-words}

-- all words are 0 once those of the range are
zeros : (words : List ℕ) (end place : ℕ) → ((k : ℕ) → (k < end → k < place) → slice_index words k ≡ 0) → end ≤ place → (k : ℕ) → slice_index words k ≡ 0
zeros words end place zero done k = zero k (λ within. omega arith)

-- also with more words
more_zeros : (old new : List ℕ) (count : ℕ) → ((k : ℕ) → slice_index old k ≡ 0) → length new ≡ count →
    ((k d : ℕ) → k < count → k < length old → slice_index_or new k d ≡ slice_index_or old k d) → ((k d : ℕ) → length old ≤ k → k < count → slice_index_or new k d ≡ 0) → (k : ℕ) → slice_index new k ≡ 0
more_zeros old new count zero size kept filled k = ⊎_elim
    (λ (inside : k < count). ⊎_elim
    (λ (before : k < length old). kept k 0 inside before ∙ zero k)
    (λ (after : length old ≤ k). filled k 0 after inside)
    (cases_lt k (length old)))
    (λ (outside : count ≤ k). get_or_past new k 0 (omega arith))
    (cases_lt k count)

pub invariant_of-self : goal.invariant_of-self
invariant_of-self c =
    let same = c.in_err-resize.ensures.items in
    let h = c.loop-place.invariant in
    let w = c.loop-place.self-inside.words.items in
    let zero = zeros w c.self.inside.end c.loop-place.place h.zero c.loop-place-test.false in (
      record {
        zero = λ k outside. ap (λ l. slice_index l k) same ∙ zero k;
        within = (let n = ap length same in let m = h.within in let e = h.end in omega arith);
      },
      (let n = ap length same in let m = h.short in omega arith),
    )

-- the words afterwards, all of them 0
pub invariant_of-self-2 : goal.invariant_of-self-2
invariant_of-self-2 c =
    let h = c.loop-place.invariant in
    let old = c.loop-place.self-inside.words.items in
    let zero = zeros old c.self.inside.end c.loop-place.place h.zero c.loop-place-test.false in
    elim c.if-len-words.branch [
      | then-len-words+in_ok-resize w ↦
          let new = w.resize.new.self.items in
          let count = c.div_ceil-words.result in
          let size : length new ≡ count = search rules in
          let all = more_zeros old new count zero size (λ k d inside before. w.in_ok-resize.ensures.by_index.0 k d inside (omega arith)) (λ k d after inside. w.in_ok-resize.ensures.by_index.1 k d refl (omega arith) inside) in
          let same = ap (λ s. s.words.items) w.self-inside-is in (
            record { zero = λ k outside. ap (λ l. slice_index l k) same ∙ all k; within = omega arith },
            (let n = ap length same in omega arith),
          )
      | else-len-words w ↦
          let same = ap (λ s. s.words.items) w.self-inside-is in (
            record { zero = λ k outside. ap (λ l. slice_index l k) same ∙ zero k; within = omega arith },
            (let n = ap length same in let m = h.short in omega arith),
          )
    ]

pub returns-clause-none : goal.returns-clause-none
returns-clause-none c =
    let h = c.loop-place.invariant in
    let old = c.loop-place.self-inside.words.items in
    let zero = zeros old c.self.inside.end c.loop-place.place h.zero c.loop-place-test.false in
    no_cells c.if-len-words.self-inside.words.items (elim c.if-len-words.branch [
      | then-len-words+in_ok-resize w ↦
          let new = w.resize.new.self.items in
          let count = c.div_ceil-words.result in
          let size : length new ≡ count = search rules in
          let all = more_zeros old new count zero size (λ k d inside before. w.in_ok-resize.ensures.by_index.0 k d inside (omega arith)) (λ k d after inside. w.in_ok-resize.ensures.by_index.1 k d refl (omega arith) inside) in
          λ k. ap (λ s. slice_index s.words.items k) w.self-inside-is ∙ all k
      | else-len-words w ↦ λ k. ap (λ s. slice_index s.words.items k) w.self-inside-is ∙ zero k
    ])
