-- Joint cells are found by their runs.
use Rattle.std.proofs.Common.{◌≡◌, ℕ, ◌+◌, ◌<◌, ◌≤◌, List, AllPairs, Contains, length, slice_index_or, refl, sym, ◌∙◌, ap, subst, inl, inr, ⊎_elim, arith}
use Rattle.std.proofs.Math.ListN.{set}
use Rattle.std.proofs.lemmas.Bool.{cases_lt, cases_eq}
use Rattle.std.proofs.lemmas.List.{get_or_default, get_or-set_same, get_or-set_other, length-set}
use Rattle.mapf_lemmas.specs.declared.joint.JointCell.{JointCell}
use Rattle.mapf_joint_labels.specs.declared.runs.Run.{Run}
use Rattle.mapf_joint_labels.specs.Runs.{AreRunsOf, IsCellBefore, IsRunAt, IsRunFor, run_of}

-- within a run the second cells rise
module _ (cells : List JointCell) (run : Run) (k first second middle : ℕ) (is : IsRunFor cells run k (record { first = first; second = second })) (low : run.begin ≤ middle) (high : middle < run.end) (d : JointCell) where
  ahead : IsCellBefore (slice_index_or cells k d) (slice_index_or cells middle d) → second < (slice_index_or cells middle d).second
  ahead (inl less) = let here = is.run_at.same k d is.run_at.from is.run_at.below in let there = is.run_at.same middle d low high in omega (arith, here, there, less)
  ahead (inr (tied, less)) = subst (λ (c : JointCell). c.second < (slice_index_or cells middle d).second) (is.is d) less

  behind : IsCellBefore (slice_index_or cells middle d) (slice_index_or cells k d) → (slice_index_or cells middle d).second < second
  behind (inl less) = let here = is.run_at.same k d is.run_at.from is.run_at.below in let there = is.run_at.same middle d low high in omega (arith, here, there, less)
  behind (inr (tied, less)) = subst (λ (c : JointCell). (slice_index_or cells middle d).second < c.second) (is.is d) less

  -- the pair stands at the middle or after it if the second cell there is no greater
  pub from_middle : (slice_index_or cells middle d).second ≤ second → middle ≤ k
  from_middle least = ⊎_elim
      (λ (before : k < middle). let more = ahead (is.rising k middle d before (let e = is.run_at.within in omega (arith, e, high))) in absurd (omega (arith, more, least)))
      (λ (past : middle ≤ k). past)
      (cases_lt k middle)

  -- the pair stands before the middle if the second cell there is greater
  pub before_middle : second < (slice_index_or cells middle d).second → k < middle
  before_middle more = ⊎_elim
      (λ (before : k < middle). before)
      (λ (past : middle ≤ k). ⊎_elim
      (λ (after : middle < k). let less = behind (is.rising middle k d after (let e = is.run_at.within in let b = is.run_at.below in omega (arith, e, b))) in absurd (omega (arith, more, less)))
      (λ (here : k ≤ middle).
      let same : k ≡ middle = omega (arith, here, past) in
      let at = subst (λ n. (slice_index_or cells n d).second ≡ second) same (subst (λ (c : JointCell). c.second ≡ second) (sym (is.is d)) refl_second) in
      absurd (omega (arith, at, more)))
      (cases_lt middle k))
      (cases_lt k middle)
    where
      refl_second : second ≡ second
      refl_second = omega arith

-- how far the runs were set: those of the pairs before the index `k`, of which the last begins at `begin`
pub record AreRunsTo (cells : List JointCell) (runs : List Run) (begin k : ℕ) : Type 0 where
  pub low : begin ≤ k
  pub same : (j : ℕ) (d : JointCell) → begin ≤ j → j < k → (slice_index_or cells j d).first ≡ (slice_index_or cells begin d).first
  pub before : (j : ℕ) (d : JointCell) → j < begin → (slice_index_or cells j d).first < (slice_index_or cells begin d).first
  pub runs_to : (j first : ℕ) → j < k → first < length runs → ((d : JointCell) → (slice_index_or cells j d).first ≡ first) → IsRunAt cells (run_of runs first) j first

-- with one more pair
module _ (cells : List JointCell) (runs : List Run) (begin k first : ℕ) (rising : AllPairs IsCellBefore cells) (within : k < length cells) (is : (d : JointCell) → (slice_index_or cells k d).first ≡ first) (so_far : AreRunsTo cells runs begin k) where
  no_greater : (j : ℕ) (d : JointCell) → j < k → (slice_index_or cells j d).first ≤ first
  no_greater j d less = by (rising j k d less within)
    where
      by : IsCellBefore (slice_index_or cells j d) (slice_index_or cells k d) → (slice_index_or cells j d).first ≤ first
      by (inl lower) = let e = is d in omega (arith, e, lower)
      by (inr (tied, lower)) = let e = is d in omega (arith, e, tied)

  abbrev set_runs : ℕ → List Run
  set_runs next = set runs first (record { begin = next; end = k + 1 })

  more : (next : ℕ) → next ≤ k → ((j : ℕ) (d : JointCell) → next ≤ j → j < k + 1 → (slice_index_or cells j d).first ≡ first) → ((j : ℕ) (d : JointCell) → j < next → (slice_index_or cells j d).first < first) →
      AreRunsTo cells (set_runs next) next (k + 1)
  more next low same before = record {
    low = omega (arith, low);
    same = λ j d from below. same j d from below ∙ sym (same next d (omega arith) (omega (arith, low)));
    before = λ j d less. let b = before j d less in let e = same next d (omega arith) (omega (arith, low)) in omega (arith, b, e);
    runs_to = λ j other below inside of. ⊎_elim
        (λ (mine : other ≡ first).
        let in_old : first < length runs = let e = length-set runs first (record { begin = next; end = k + 1 }) in omega (arith, e, inside, mine) in
        subst (λ (r : Run). IsRunAt cells r j other) (sym (subst (λ n. run_of (set_runs next) n ≡ record { begin = next; end = k + 1 }) (sym mine) (get_or-set_same runs first (record { begin = next; end = k + 1 }) (record { begin = 0; end = 0 }) in_old)))
        (record {
          from = ⊎_elim
              (λ (early : j < next). let d : JointCell = record { first = 0; second = 0 } in let b = before j d early in let o = of d in absurd (omega (arith, b, o, mine)))
              (λ (late : next ≤ j). late)
              (cases_lt j next);
          below = below;
          within = omega (arith, within);
          same = λ i d from under. same i d from under ∙ sym mine;
        }))
        (λ (others : other ≡ first → ⊥).
        let earlier : j < k = ⊎_elim (λ (less : j < k). less) (λ (past : k ≤ j). let at : j ≡ k = omega (arith, past, below) in let d : JointCell = record { first = 0; second = 0 } in
        absurd (others (sym (of d) ∙ subst (λ n. (slice_index_or cells n d).first ≡ first) (sym at) (is d)))) (cases_lt j k) in
        subst (λ (r : Run). IsRunAt cells r j other) (sym (get_or-set_other runs first other (record { begin = next; end = k + 1 }) (record { begin = 0; end = 0 }) others))
        (so_far.runs_to j other earlier (let e = length-set runs first (record { begin = next; end = k + 1 }) in omega (arith, e, inside)) of))
        (cases_eq other first);
  }

  -- the pair has the first cell of the run
  pub runs_same : ((d : JointCell) → (slice_index_or cells begin d).first ≡ first) → AreRunsTo cells (set_runs begin) begin (k + 1)
  runs_same here = more begin so_far.low
      (λ j d from below. ⊎_elim
      (λ (less : j < k). so_far.same j d from less ∙ here d)
      (λ (past : k ≤ j). let at : j ≡ k = omega (arith, past, below) in subst (λ n. (slice_index_or cells n d).first ≡ first) (sym at) (is d))
      (cases_lt j k))
      (λ j d less. let b = so_far.before j d less in let e = here d in omega (arith, b, e))

  -- it has another
  pub runs_other : ((d : JointCell) → (slice_index_or cells begin d).first ≡ first → ⊥) → AreRunsTo cells (set_runs k) k (k + 1)
  runs_other other = more k (omega arith)
      (λ j d from below. let at : j ≡ k = omega (arith, from, below) in subst (λ n. (slice_index_or cells n d).first ≡ first) (sym at) (is d))
      (λ j d less. ⊎_elim
      (λ (early : j < begin). let b = so_far.before j d early in let e = top d in omega (arith, b, e))
      (λ (late : begin ≤ j). let b = so_far.same j d late less in let e = top d in let low = so_far.low in let n = other d in
      omega (arith, b, e, strict d (omega (arith, less, late))))
      (cases_lt j begin))
    where
      top : (d : JointCell) → (slice_index_or cells begin d).first ≤ first
      top d = ⊎_elim (λ (less : begin < k). no_greater begin d less) (λ (past : k ≤ begin). let low = so_far.low in let at : begin ≡ k = omega (arith, past, low) in absurd (other d (subst (λ n. (slice_index_or cells n d).first ≡ first) (sym at) (is d)))) (cases_lt begin k)

      strict : (d : JointCell) → begin < k → (slice_index_or cells begin d).first < first
      strict d less = let t = no_greater begin d less in ⊎_elim
          (λ (lower : (slice_index_or cells begin d).first < first). lower)
          (λ (high : first ≤ (slice_index_or cells begin d).first). absurd (other d (omega (arith, t, high))))
          (cases_lt (slice_index_or cells begin d).first first)

-- a joint cell is what its cells say
pub pair_is : (pair : JointCell) (first second : ℕ) → pair.first ≡ first → pair.second ≡ second → pair ≡ record { first = first; second = second }
pair_is pair first second a b = rw (← a, ← b) refl

-- a joint cell of the list stands where its run says
pub placed : (cells : List JointCell) (runs : List Run) (first second place : ℕ) → AllPairs IsCellBefore cells → AreRunsOf runs cells → first < length runs
    → ((k other : ℕ) → IsRunFor cells (run_of runs first) k (record { first = other; second = second }) → place ≡ k) → Contains cells (record { first = first; second = second })
    → (place < length cells) × ((d : JointCell) → slice_index_or cells place d ≡ record { first = first; second = second })
placed cells runs first second place rising of inside found (k, within, is) =
    let pair : JointCell = record { first = first; second = second } in
    let at : (d : JointCell) → slice_index_or cells k d ≡ pair = λ d. get_or_default cells k d pair within ∙ is in
    let here : place ≡ k = found k first (record { rising = rising; run_at = of k first within inside (λ d. ap (λ (c : JointCell). c.first) (at d)); is = at }) in
    (omega (arith, here, within), λ d. subst (λ n. slice_index_or cells n d ≡ pair) (sym here) (at d))
