use Rattle.std.proofs.Common.{◌/◌, ◌<◌, length, refl, subst, sym, rules}
use Rattle.mapf_spacetime.specs.CellSets.{HasNumber}
use Rattle.mapf_spacetime.proofs.CellLemmas.{inserted, with_here, with_kept, with_only}
use Rattle.mapf_spacetime.proofs.number_set.NumberSet.insert.Goals as goal

pub returns : goal.returns
returns c =
    let words = c.self.inside.words.items in
    let inside : c.args.number / 64 < length words = search rules in
    let same = inserted words c.args.number c.args.number c.index_mut.result.now refl inside c.index_mut.ensures.value in
    record {
      here = subst (λ l. HasNumber l c.args.number) (sym same) (with_here words c.args.number inside);
      kept = λ other held. subst (λ l. HasNumber l other) (sym same) (with_kept words c.args.number inside other (rw (← c.self.view_is) at held));
      only = λ other held. rw (← c.self.view_is) (with_only words c.args.number inside other (subst (λ l. HasNumber l other) same held));
      room = search rules;
    }
