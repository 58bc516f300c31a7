-- Joint entries are found by their marks.
use Rattle.std.proofs.Common.{◌≡◌, ℕ, ◌+◌, ◌<◌, ◌≤◌, List, length, slice_index_or, sym, ◌∙◌, subst, ⊎_elim, arith}
use Rattle.std.proofs.Math.ListN.{set}
use Rattle.std.proofs.lemmas.Bool.{cases_lt, cases_eq}
use Rattle.std.proofs.lemmas.List.{get_or-set_same, get_or-set_other, length-set}
use Rattle.mapf_lemmas.specs.declared.joint.JointEntry.{JointEntry}
use Rattle.mapf_lemmas.specs.declared.joint.JointState.TheVariants.{Both}
use Rattle.mapf_model.specs.declared.label.Label.TheVariants.{Never}
use Rattle.mapf_joint_labels.specs.declared.runs.Run.{Run}
use Rattle.mapf_joint_labels.specs.JointMarks.{AreBegun, AreEnded}
use Rattle.mapf_joint_labels.specs.Runs.{run_of}

first_is : (u v w x : ℕ) → Both u v ≡ Both w x → u ≡ w
first_is u v w x e = cc

module _ (runs : List Run) (first u : ℕ) (run : Run) where
  set_here : u ≡ first → u < length (set runs first run) → run_of (set runs first run) u ≡ run
  set_here same inside =
      let old : first < length runs = let e = length-set runs first run in omega (arith, e, inside, same) in
      subst (λ n. run_of (set runs first run) n ≡ run) (sym same) (get_or-set_same runs first run (record { begin = 0; end = 0 }) old)

  set_there : (u ≡ first → ⊥) → run_of (set runs first run) u ≡ run_of runs u
  set_there other = get_or-set_other runs first u run (record { begin = 0; end = 0 }) other

  inside_old : u < length (set runs first run) → u < length runs
  inside_old inside = let e = length-set runs first run in omega (arith, e, inside)

-- one more entry, of both agents
module _ (entries : List JointEntry) (runs : List Run) (from to k first second : ℕ) (within : k < length entries) (is : (d : JointEntry) → (slice_index_or entries k d).state ≡ Both first second) where
  apart : (j u v : ℕ) → ((d : JointEntry) → (slice_index_or entries j d).state ≡ Both u v) → (u ≡ first → ⊥) → j ≡ k → ⊥
  apart j u v of other same =
      let d : JointEntry = record { state = Both 0 0; tick = 0; label = Never } in
      other (first_is u v first second (sym (of d) ∙ subst (λ n. (slice_index_or entries n d).state ≡ Both first second) (sym same) (is d)))

  pub ended_more : AreEnded entries runs from k → AreEnded entries (set runs first (record { begin = 0; end = k + 1 })) from (k + 1)
  ended_more ended j u v low below of inside = let run : Run = record { begin = 0; end = k + 1 } in ⊎_elim
      (λ (same : u ≡ first). subst (λ (r : Run). (j < r.end) × (r.end ≤ length entries)) (sym (set_here runs first u run same inside)) (below, omega (arith, within)))
      (λ (other : u ≡ first → ⊥).
      subst (λ (r : Run). (j < r.end) × (r.end ≤ length entries)) (sym (set_there runs first u run other))
      (ended j u v low (⊎_elim (λ (less : j < k). less) (λ (past : k ≤ j). absurd (apart j u v of other (omega (arith, past, below)))) (cases_lt j k)) of (inside_old runs first u run inside)))
      (cases_eq u first)

  pub ended_kept : AreEnded entries runs from to → AreEnded entries (set runs first (record { begin = k; end = (run_of runs first).end })) from to
  ended_kept ended j u v low below of inside = let run : Run = record { begin = k; end = (run_of runs first).end } in
      let old = ended j u v low below of (inside_old runs first u run inside) in
      ⊎_elim
      (λ (same : u ≡ first). subst (λ (r : Run). (j < r.end) × (r.end ≤ length entries)) (sym (set_here runs first u run same inside)) (subst (λ n. (j < (run_of runs n).end) × ((run_of runs n).end ≤ length entries)) same old))
      (λ (other : u ≡ first → ⊥). subst (λ (r : Run). (j < r.end) × (r.end ≤ length entries)) (sym (set_there runs first u run other)) old)
      (cases_eq u first)

  pub begun_more : AreBegun entries runs (k + 1) to → AreBegun entries (set runs first (record { begin = k; end = (run_of runs first).end })) k to
  begun_more begun j u v low below of inside = let run : Run = record { begin = k; end = (run_of runs first).end } in ⊎_elim
      (λ (same : u ≡ first). subst (λ (r : Run). r.begin ≤ j) (sym (set_here runs first u run same inside)) low)
      (λ (other : u ≡ first → ⊥).
      subst (λ (r : Run). r.begin ≤ j) (sym (set_there runs first u run other))
      (begun j u v (⊎_elim (λ (more : k < j). omega (arith, more)) (λ (past : j ≤ k). absurd (apart j u v of other (omega (arith, past, low)))) (cases_lt k j)) below of (inside_old runs first u run inside)))
      (cases_eq u first)

-- one more entry, of one agent alone
module _ (entries : List JointEntry) (runs : List Run) (from to k : ℕ) (alone : (d : JointEntry) (u v : ℕ) → (slice_index_or entries k d).state ≡ Both u v → ⊥) where
  not_at : (j u v : ℕ) → ((d : JointEntry) → (slice_index_or entries j d).state ≡ Both u v) → j ≡ k → ⊥
  not_at j u v of same =
      let d : JointEntry = record { state = Both 0 0; tick = 0; label = Never } in
      alone d u v (subst (λ n. (slice_index_or entries n d).state ≡ Both u v) same (of d))

  pub ended_past : AreEnded entries runs from k → AreEnded entries runs from (k + 1)
  ended_past ended j u v low below of inside = ended j u v low (⊎_elim (λ (less : j < k). less) (λ (past : k ≤ j). absurd (not_at j u v of (omega (arith, past, below)))) (cases_lt j k)) of inside

  pub begun_past : AreBegun entries runs (k + 1) to → AreBegun entries runs k to
  begun_past begun j u v low below of inside = begun j u v (⊎_elim (λ (more : k < j). omega (arith, more)) (λ (past : j ≤ k). absurd (not_at j u v of (omega (arith, past, low)))) (cases_lt k j)) below of inside
