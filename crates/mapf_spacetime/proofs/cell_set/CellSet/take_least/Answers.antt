use Rattle.std.proofs.Common.{◌≡◌, ℕ, List, length, slice_index, refl, sym, ap, subst, ◌∙◌, arith}
use Rattle.std.proofs.lemmas.Bool.{iff_false}
use Rattle.mapf_spacetime.specs.CellSets.{AreFilled, HasNumber}
use Rattle.mapf_spacetime.proofs.FilledLemmas.{filled_after, least_gone, written_back}
use Rattle.mapf_spacetime.proofs.cell_set.CellSet.take_least.Goals as goal

pub invariant_of-self-then-is_left : goal.invariant_of-self-then-is_left
invariant_of-self-then-is_left c =
    let old = c.self.inside.words.items in
    let new = c.take_from-number.new.words in
    let filled = c.least.new.self in
    let same = c.in_ok-place.ensures.same in
    let value = c.deref_mut.ensures.value in
    let place = c.in_ok-place.place in
    let is = c.self.invariant in
    let are : AreFilled old filled = subst (AreFilled old) (sym same) is.0 in
    let there : HasNumber filled place = subst (λ (ns : List ℕ). HasNumber ns place) (sym same) c.in_ok-place.ensures.some in
    let size : length new ≡ length old = c.take_from-number.auto.words ∙ ap length value in
    let seam = written_back old new c.self.inside.words.len c.self.inside.words.ok.0 size in
    rw seam (
      filled_after old new filled filled are place size refl
          (λ other apart. c.take_from-number.ensures.others other apart ∙ ap (λ (ws : List ℕ). slice_index ws other) value)
          (λ other held apart. held) (λ other held apart. held)
          (λ some. there)
          (λ held. c.take_from-number.ensures.left.0 c.if-is_left.true),
      (let s = is.1 in omega (arith, s, size)),
    )

pub invariant_of-self-2 : goal.invariant_of-self-2
invariant_of-self-2 c =
    let old = c.self.inside.words.items in
    let new = c.take_from-number.new.words in
    let filled = c.least.new.self in
    let same = c.in_ok-place.ensures.same in
    let value = c.deref_mut.ensures.value in
    let place = c.in_ok-place.place in
    let is = c.self.invariant in
    let are : AreFilled old filled = subst (AreFilled old) (sym same) is.0 in
    let there : HasNumber filled place = subst (λ (ns : List ℕ). HasNumber ns place) (sym same) c.in_ok-place.ensures.some in
    let size : length new ≡ length old = c.take_from-number.auto.words ∙ ap length value in
    let seam = written_back old new c.self.inside.words.len c.self.inside.words.ok.0 size in
    let t = c.take_least.ensures in
    let gone = least_gone c.take_least.result filled c.take_least.new.self place there (λ other held. c.in_ok-place.ensures.least other (subst (λ (ns : List ℕ). HasNumber ns other) same held)) t.some t.least t.kept t.only t.none in
    let zero = iff_false c.take_from-number.ensures.left c.if-is_left.false in
    rw seam (
      filled_after old new filled c.take_least.new.self are place size t.room
          (λ other apart. c.take_from-number.ensures.others other apart ∙ ap (λ (ws : List ℕ). slice_index ws other) value)
          gone.0
          (λ other held apart. (gone.1 other held).0)
          (λ some. absurd (zero some))
          (λ held. absurd ((gone.1 place held).1 refl)),
      (let s = is.1 in omega (arith, s, size)),
    )

pub returns-then-is_left-clause-only : goal.returns-then-is_left-clause-only
returns-then-is_left-clause-only c other held =
    let old = c.self.inside.words.items in
    let new = c.take_from-number.new.words in
    let value = c.deref_mut.ensures.value in
    let size : length new ≡ length old = c.take_from-number.auto.words ∙ ap length value in
    let seam = written_back old new c.self.inside.words.len c.self.inside.words.ok.0 size in
    let was = c.take_from-number.ensures.only other (subst (λ (ws : List ℕ). HasNumber ws other) seam held) in
    (rw (← c.self.view_is) (subst (λ (ws : List ℕ). HasNumber ws other) value was.0), was.1)

pub returns-clause-kept : goal.returns-clause-kept
returns-clause-kept c other held apart =
    let old = c.self.inside.words.items in
    let new = c.take_from-number.new.words in
    let value = c.deref_mut.ensures.value in
    let size : length new ≡ length old = c.take_from-number.auto.words ∙ ap length value in
    let seam = written_back old new c.self.inside.words.len c.self.inside.words.ok.0 size in
    let there = subst (λ (ws : List ℕ). HasNumber ws other) (sym value) (rw (← c.self.view_is) at held) in
    subst (λ (ws : List ℕ). HasNumber ws other) (sym seam) (c.take_from-number.ensures.kept other there apart)

pub returns-clause-only : goal.returns-clause-only
returns-clause-only c other held =
    let old = c.self.inside.words.items in
    let new = c.take_from-number.new.words in
    let value = c.deref_mut.ensures.value in
    let size : length new ≡ length old = c.take_from-number.auto.words ∙ ap length value in
    let seam = written_back old new c.self.inside.words.len c.self.inside.words.ok.0 size in
    let was = c.take_from-number.ensures.only other (subst (λ (ws : List ℕ). HasNumber ws other) seam held) in
    (rw (← c.self.view_is) (subst (λ (ws : List ℕ). HasNumber ws other) value was.0), was.1)
