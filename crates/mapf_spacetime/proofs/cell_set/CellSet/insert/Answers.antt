use Rattle.std.proofs.Common.{◌≡◌, ℕ, ◌/◌, List, length, slice_index, refl, ap, ◌∙◌, ⊎_elim, arith}
use Rattle.mapf_spacetime.specs.CellSets.{HasNumber}
use Rattle.mapf_spacetime.proofs.FilledLemmas.{filled_after, written_back}
use Rattle.mapf_spacetime.proofs.cell_set.CellSet.insert.Goals as goal

pub invariant_of-self : goal.invariant_of-self
invariant_of-self c =
    let old = c.self.inside.words.items in
    let new = c.add_to-was_filled.new.words in
    let filled = c.self.inside.filled in
    let value = c.deref_mut.ensures.value in
    let place : ℕ = c.cell.inside.0 / 64 in
    let is = c.self.invariant in
    let size : length new ≡ length old = c.add_to-was_filled.auto.words ∙ ap length value in
    let seam = written_back old new c.self.inside.words.len c.self.inside.words.ok.0 size in
    let was = c.add_to-was_filled.ensures.filled.0 c.if-was_filled.true in
    rw seam (
      filled_after old new filled filled is.0 place size refl
          (λ other apart. c.add_to-was_filled.ensures.others other apart ∙ ap (λ (ws : List ℕ). slice_index ws other) value)
          (λ other held apart. held) (λ other held apart. held)
          (λ some. is.0.full place (λ zero. was (ap (λ (ws : List ℕ). slice_index ws place) value ∙ zero)))
          (λ held. c.add_to-was_filled.ensures.some),
      (let s = is.1 in omega (arith, s, size)),
    )

pub invariant_of-self-2 : goal.invariant_of-self-2
invariant_of-self-2 c =
    let old = c.self.inside.words.items in
    let new = c.add_to-was_filled.new.words in
    let value = c.deref_mut.ensures.value in
    let place : ℕ = c.cell.inside.0 / 64 in
    let is = c.self.invariant in
    let size : length new ≡ length old = c.add_to-was_filled.auto.words ∙ ap length value in
    let seam = written_back old new c.self.inside.words.len c.self.inside.words.ok.0 size in
    rw seam (
      filled_after old new c.self.inside.filled c.insert.new.self is.0 place size c.insert.ensures.room
          (λ other apart. c.add_to-was_filled.ensures.others other apart ∙ ap (λ (ws : List ℕ). slice_index ws other) value)
          (λ other held apart. c.insert.ensures.kept other held)
          (λ other held apart. ⊎_elim (λ (there : HasNumber c.self.inside.filled other). there) (λ (same : other ≡ place). absurd (apart same)) (c.insert.ensures.only other held))
          (λ some. c.insert.ensures.here)
          (λ held. c.add_to-was_filled.ensures.some),
      (let s = is.1 in omega (arith, s, size)),
    )
