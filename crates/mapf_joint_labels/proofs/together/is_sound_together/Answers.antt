use Rattle.std.proofs.Common.{◌∙◌, refl, sym, subst, inl, inr, ⊎_elim}
use Rattle.std.proofs.lemmas.Bool.{iff_false, eqb-true, eqb-false, true≢false}
use Rattle.mapf_lemmas.specs.JointLabels.{second_task}
use Rattle.mapf_lemmas.specs.SingleLabels.{IsBarred, MayRest, MayStep, Task}
use Rattle.mapf_model.specs.Grid.{GridMap, IsFree}
use Rattle.mapf_joint_labels.specs.Pairs.{RestsFirst, RestsSecond, task_of}
use Rattle.mapf_joint_labels.proofs.PairLemmas.{second_is}
use Rattle.mapf_joint_labels.proofs.together.is_sound_together.Goals as goal
use Rattle.mapf_joint_labels.proofs.together.is_sound_together.Goals.{then-eq-via-then-eq, then-eq-via-else-eq+then-is_barred, then-first_rests, else-first_rests}

pub returns-then-eq : goal.returns-then-eq
returns-then-eq c =
    let pair = c.args.pair.now in
    let own = c.requires.pair in
    let entry = c.args.entry.now in
    let free_first = subst (λ (g : GridMap). IsFree g entry.cells.first) c.grid-grid.ensures (c.is_free.ensures.0 c.if-not-is_free.false) in
    let free_second = subst (λ (g : GridMap). IsFree g entry.cells.second) c.grid-grid.ensures (c.is_free-else-not-is_free.ensures.0 c.if-not-is_free-2.false) in
    let second = second_is pair own in (
      λ _. (
        (free_first, free_second),
        λ differ open_first open_second. absurd (elim c.then-eq.branch [
          | then-eq-via-then-eq w ↦ differ (eqb-true _ _ (sym c.eq.ensures ∙ w.if-eq.true))
          | then-eq-via-else-eq+then-is_barred w ↦ ⊎_elim
              (λ (there : IsBarred pair.first_task.now entry.cells.first entry.tick). open_first there)
              (λ (there : IsBarred pair.second_task.now entry.cells.second entry.tick). open_second (subst (λ (t : Task). IsBarred t entry.cells.second entry.tick) (sym second) there))
              (w.is_barred.ensures.0 w.if-is_barred.true)
        ]),
      ),
      λ _. refl,
    )

pub returns-then-second_rests : goal.returns-then-second_rests
returns-then-second_rests c =
    let pair = c.args.pair.now in
    let own = c.requires.pair in
    let entry = c.args.entry.now in
    let free_first = subst (λ (g : GridMap). IsFree g entry.cells.first) c.grid-grid.ensures (c.is_free.ensures.0 c.if-not-is_free.false) in
    let free_second = subst (λ (g : GridMap). IsFree g entry.cells.second) c.grid-grid.ensures (c.is_free-else-not-is_free.ensures.0 c.if-not-is_free-2.false) in
    let second = second_is pair own in
    let differ = eqb-false _ _ (sym c.eq.ensures ∙ c.if-eq.false) in
    let unbarred = iff_false c.is_barred.ensures c.if-is_barred.false in
    let open_first : IsBarred pair.first_task.now entry.cells.first entry.tick → ⊥ = λ there. unbarred (inl there) in
    let open_second : IsBarred (second_task (task_of pair)) entry.cells.second entry.tick → ⊥ = λ there. unbarred (inr (subst (λ (t : Task). IsBarred t entry.cells.second entry.tick) second there)) in
    let rests : RestsFirst pair entry × RestsSecond pair entry = elim c.if-first_rests.branch [
      | then-first_rests w ↦ (c.first_rests.ensures.0 w.if-first_rests.true, w.second_rests.ensures.0 (sym w.value-is ∙ c.if-second_rests.true))
      | else-first_rests w ↦ absurd (true≢false (sym c.if-second_rests.true ∙ w.value-is ∙ w.if-first_rests.false))
    ] in (
      λ yes. (
        (free_first, free_second),
        λ _ _ _. record {
          first_rests = rests.0;
          second_rests = λ may. rests.1 (subst (λ (t : Task). MayRest t entry.cells.second entry.tick) second may);
          onward = λ w x may_first may_second apart. c.goes_on.ensures.0 yes w x may_first (subst (λ (t : Task). MayStep t entry.cells.second x entry.tick) second may_second) apart;
        },
      ),
      λ sound. c.goes_on.ensures.1 (λ w x may_first may_second apart.
          (sound.1 differ open_first open_second).onward w x may_first (subst (λ (t : Task). MayStep t entry.cells.second x entry.tick) (sym second) may_second) apart),
    )

pub returns-else-second_rests : goal.returns-else-second_rests
returns-else-second_rests c =
    let pair = c.args.pair.now in
    let own = c.requires.pair in
    let entry = c.args.entry.now in
    let free_first = subst (λ (g : GridMap). IsFree g entry.cells.first) c.grid-grid.ensures (c.is_free.ensures.0 c.if-not-is_free.false) in
    let free_second = subst (λ (g : GridMap). IsFree g entry.cells.second) c.grid-grid.ensures (c.is_free-else-not-is_free.ensures.0 c.if-not-is_free-2.false) in
    let second = second_is pair own in
    let differ = eqb-false _ _ (sym c.eq.ensures ∙ c.if-eq.false) in
    let unbarred = iff_false c.is_barred.ensures c.if-is_barred.false in
    let open_first : IsBarred pair.first_task.now entry.cells.first entry.tick → ⊥ = λ there. unbarred (inl there) in
    let open_second : IsBarred (second_task (task_of pair)) entry.cells.second entry.tick → ⊥ = λ there. unbarred (inr (subst (λ (t : Task). IsBarred t entry.cells.second entry.tick) second there)) in (
      λ yes. absurd (true≢false (sym yes ∙ c.if-second_rests.false)),
      λ sound.
          let whole = sound.1 differ open_first open_second in
          absurd (elim c.if-first_rests.branch [
            | then-first_rests w ↦ iff_false w.second_rests.ensures (sym w.value-is ∙ c.if-second_rests.false)
                (λ may. whole.second_rests (subst (λ (t : Task). MayRest t entry.cells.second entry.tick) (sym second) may))
            | else-first_rests w ↦ iff_false c.first_rests.ensures w.if-first_rests.false whole.first_rests
          ]),
    )
