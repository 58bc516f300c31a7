use Rattle.std.proofs.Common.{◌≡◌, ◌<◌, ◌≤◌, slice_index_or, refl, ap, sym, ◌∙◌, subst, inl, inr, ⊎_elim, arith}
use Rattle.std.proofs.lemmas.Bool.{cases_lt}
use Rattle.std.proofs.lemmas.Option.{slice_get_read, get_or_from_slice_get}
use Rattle.mapf_model.specs.declared.label.Entry.{Entry}
use Rattle.mapf_model.specs.Printed.{IsBefore}
use Rattle.mapf_single_labels.specs.Tasks.{IsSoundAmong}
use Rattle.mapf_single_labels.proofs.EntryLemmas.{AreSound-each}
use Rattle.mapf_single_labels.proofs.judge.judge_entries.Goals as goal

not_later : (a b : Entry) → IsBefore a b → a.tick ≤ b.tick
not_later a b (inl earlier) = omega (arith, earlier)
not_later a b (inr (same, less)) = omega (arith, same)

pub loop-k-preserved : goal.loop-k-preserved
loop-k-preserved c =
    let task = c.args.task.now in
    let entries = c.args.entries.now in
    let entry = c.index-entries-k.result in
    let read = slice_get_read entries _ c.loop-k.k entry refl c.loop-k-test.true c.index-entries-k.is in
    record {
      sound = λ k d within. ⊎_elim
          (λ (less : k < c.loop-k.k). c.loop-k.invariant.sound k d less)
          (λ past. let same : k ≡ c.loop-k.k = omega arith in
          subst (λ j. IsSoundAmong task entries (slice_index_or entries j d)) (sym same)
          (subst (IsSoundAmong task entries) (sym (get_or_from_slice_get entries c.loop-k.k entry d read)) (c.is_sound.ensures.0 c.if-not-is_sound.false)))
          (cases_lt k c.loop-k.k);
      marking = c.advance.ensures.marking;
      later = λ k d from within.
          let before = subst (λ (e : Entry). IsBefore e (slice_index_or entries k d)) (get_or_from_slice_get entries c.loop-k.k entry d read) (c.requires.rising c.loop-k.k k d (omega (arith, from)) within) in
          let later = not_later entry (slice_index_or entries k d) before in
          let now = c.advance.ensures.tick in
          let here = ap (λ (e : Entry). e.tick) c.entry.view_is in
          omega (arith, later, now, here);
      size = c.advance.ensures.size ∙ c.loop-k.invariant.size;
    }

pub returns-clause-ok : goal.returns-clause-ok
returns-clause-ok c = AreSound-each c.args.task.now c.args.entries.now c.requires.rising (λ k d within. c.loop-k.invariant.sound k d (omega arith))
