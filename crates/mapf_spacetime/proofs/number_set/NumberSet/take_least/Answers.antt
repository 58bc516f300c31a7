use Rattle.std.proofs.Common.{◌≡◌, ◌+◌, ◌*◌, ◌<◌, ◌^◌, ◌∙◌, sym, subst, length, slice_index, arith, rules}
use Rattle.std.proofs.lemmas.Grind.{get_or_default_zero}
use Rattle.std.specs.Int.{trailing_zeros}
use mir.Syntax.{w64}
use Rattle.mapf_spacetime.specs.CellSets.{HasNumber}
use Rattle.mapf_spacetime.proofs.CellLemmas.{taken_has, taken_is, taken_kept, taken_only}
use Rattle.mapf_spacetime.proofs.number_set.NumberSet.take_least.Goals as goal

pub returns-then-word-ne0 : goal.returns-then-word-ne0
returns-then-word-ne0 c =
    let h = c.loop-self.invariant in
    let words = c.loop-self.self-inside.words.items in
    let first = c.loop-self.self-inside.first in
    let end = c.loop-self.self-inside.end in
    let within = h.empty.within in
    let inside : first < length words = omega arith in
    let read : c.index-word.result.now ≡ slice_index words first = c.index-word.ensures ∙ get_or_default_zero words first c.index-word.result.now inside in
    let small : c.index-word.result.now < 2 ^ 64 = search rules in
    record {
      some = rw (← c.self.view_is) (subst (λ l. HasNumber l (first * 64 + trailing_zeros w64 c.index-word.result.now)) h.same (taken_has words first end h.empty inside c.index-word.result.now read c.if-word-ne0.true small));
      least = λ other held. taken_is words first end h.empty inside c.index-word.result.now read c.if-word-ne0.true small other (subst (λ l. HasNumber l other) (sym h.same) (rw (← c.self.view_is) at held));
      kept = λ other held apart. taken_kept words first end h.empty inside c.index-word.result.now read c.if-word-ne0.true small other (subst (λ l. HasNumber l other) (sym h.same) (rw (← c.self.view_is) at held)) apart;
      only = λ other held.
          let (there, apart) = taken_only words first end h.empty inside c.index-word.result.now read c.if-word-ne0.true small other held in
          (rw (← c.self.view_is) (subst (λ l. HasNumber l other) h.same there), apart);
      none = tt;
      same = tt;
      room = search rules;
    }
