use Rattle.std.proofs.Common.{◌≡◌, take}
use Rattle.mapf_lemma_convert.proofs.lemma_part.priced_entries.Given as goal

abbrev pub invariant-loop-entry : goal.invariant-loop-entry
invariant-loop-entry l = record {
  same : l.priced.items ≡ take l.entry-index l.entries;
}
