use Rattle.std.proofs.Common.{length, refl}
use Rattle.std.proofs.lemmas.Option.{slice_get_read, get_or_from_slice_get}
use Rattle.mapf_single_labels.proofs.MarkLemmas.{not_earlier_from}
use Rattle.mapf_single_labels.proofs.marks.first_at.Goals as goal

pub returns-then-tick_of-tick-clause-others : goal.returns-then-tick_of-tick-clause-others
returns-then-tick_of-tick-clause-others c =
    let entries = c.args.entries.now in
    let place = c.loop-place.place in
    let entry = c.index-entries-place.result in
    let read = slice_get_read entries (length entries) place entry refl c.loop-place-test.true c.index-entries-place.is in
    not_earlier_from entries c.requires.rising place c.args.tick entry c.loop-place-test.true (λ d. get_or_from_slice_get entries place entry d read) (rw c.tick_of.ensures at c.if-tick_of-tick.true)
