-- The definitions, tried on small problems.
use Rattle.std.proofs.Common.{◌≡◌, ◌≢◌, ℕ, zero, suc, [], ◌∷◌, Contains, length, refl, sym, ◌∙◌, inl, inr, arith}
use Rattle.mapf_model.specs.declared.bar.Bar.{Bar}
use Rattle.mapf_model.specs.declared.bar.Bar.TheVariants.{Cell, Move}
use Rattle.mapf_model.specs.declared.label.Label.{Label}
use Rattle.mapf_model.specs.declared.label.Label.TheVariants.{Ticks, Never}
use Rattle.mapf_model.specs.Distance.{Walk}
use Rattle.mapf_model.specs.Examples.{open_square, agent, block, entry, WaitingBoundsALabel, NoLabelIsRaisedAtAFreeGoal, AClashShowsImpossibility, OneStartIsNoPlan, SwappingIsNoPlan, EachChildBarsItsAgent, ChildrenInheritLabels, SplitsAreJudgedByTheirOwnBars}
use Rattle.mapf_model.specs.Grid.{Step}
use Rattle.mapf_model.specs.Labels.{IsDistanceLabel, IsAtMost, one_more}
use Rattle.mapf_model.proofs.ClaimLemmas.{slice_get_inside}

-- the one bar is on another cell
no_other_bar : (cell tick : ℕ) → cell ≢ 4 → Contains (Cell 4 1 ∷ []) (Cell cell tick) → ⊥
no_other_bar cell tick other (zero, within, is) = let same : 4 ≡ cell = cc in other (sym same)
no_other_bar cell tick other (suc k, within, is) = absurd (omega arith)

no_move_bar : (from to tick : ℕ) → Contains (Cell 4 1 ∷ []) (Move from to tick) → ⊥
no_move_bar from to tick (zero, within, is) = cc
no_move_bar from to tick (suc k, within, is) = absurd (omega arith)

through_the_middle : Walk open_square 3 5 2
through_the_middle = (
  4,
  inr (record { from_free = refl; to_free = refl; apart = inl (refl, inr refl) }),
  (5, inr (record { from_free = refl; to_free = refl; apart = inl (refl, inr refl) }), (refl, refl)),
)

not_four : (after : Label) → IsDistanceLabel open_square 5 3 after → IsAtMost (Ticks 4) (one_more after) → ⊥
not_four (Ticks n) distance four = let short = distance.least 2 through_the_middle in omega arith
not_four Never unreachable four = unreachable 2 through_the_middle

pub waiting_bounds_a_label : WaitingBoundsALabel
waiting_bounds_a_label sound =
    let next = (sound 3 0 (Ticks 4) refl).onward (no_other_bar 3 0 (omega arith)) 3 (record { step = inl (refl, refl); arrival = no_other_bar 3 1 (omega arith); move = no_move_bar 3 3 0 }) in
    not_four next.0 next.1 next.2

pub no_label_is_raised_at_a_free_goal : NoLabelIsRaisedAtAFreeGoal
no_label_is_raised_at_a_free_goal sound =
    let bar = (sound 7 0 (Ticks 1) refl).at_goal (no_other_bar 7 0 (omega arith)) refl in
    no_other_bar 7 bar.0 (omega arith) bar.2

pub a_clash_shows_impossibility : AClashShowsImpossibility
a_clash_shows_impossibility = record { proper = tt; nodes = (λ e. cc, agent 0 1, agent 2 1, refl, refl, refl) }

pub one_start_is_no_plan : OneStartIsNoPlan
one_start_is_no_plan plan valid =
    let count : length plan ≡ 2 = valid.count in
    let p = slice_get_inside plan 0 (omega arith) in
    let q = slice_get_inside plan 1 (omega arith) in
    valid.apart 0 1 0 p.0 q.0 (omega arith) p.1 q.1
    (inl ((valid.lawful 0 (agent 0 1) p.0 refl p.1).start ∙ sym (valid.lawful 1 (agent 0 2) q.0 refl q.1).start))

pub swapping_is_no_plan : SwappingIsNoPlan
swapping_is_no_plan valid = valid.apart 0 1 0 (0 ∷ 1 ∷ []) (1 ∷ 0 ∷ []) (omega arith) refl refl (inr (refl, refl))

pub each_child_bars_its_agent : EachChildBarsItsAgent
each_child_bars_its_agent = (refl, refl, refl, refl)

pub children_inherit_labels : ChildrenInheritLabels
children_inherit_labels = (refl, refl, refl, refl, refl)

to_the_right : Walk open_square 4 5 1
to_the_right = (5, inr (record { from_free = refl; to_free = refl; apart = inl (refl, inr refl) }), (refl, refl))

not_three : (after : Label) → IsDistanceLabel open_square 5 4 after → IsAtMost (Ticks 3) (one_more after) → ⊥
not_three (Ticks n) distance three = let short = distance.least 1 to_the_right in omega arith
not_three Never unreachable three = unreachable 1 to_the_right

no_bar : (bar : Bar) → Contains [] bar → ⊥
no_bar bar (k, within, is) = absurd (omega arith)

pub splits_are_judged_by_their_own_bars : SplitsAreJudgedByTheirOwnBars
splits_are_judged_by_their_own_bars sound =
    let right : Step open_square 3 4 = inr (record { from_free = refl; to_free = refl; apart = inl (refl, inr refl) }) in
    let next = (sound 0 (agent 3 5) (block 0 (entry 3 0 (Ticks 3))) refl refl 3 0 (Ticks 3) refl).onward (no_bar (Cell 3 0)) 4 (record { step = right; arrival = no_bar (Cell 4 1); move = no_bar (Move 3 4 0) }) in
    not_three next.0 next.1 next.2
