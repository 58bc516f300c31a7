use Rattle.std.proofs.Common.{◌≡◌, ◌<◌, Some, length, refl, ap, ◌∙◌, arith}
use Rattle.std.proofs.lemmas.Option.{slice_get_read}
use Rattle.mapf_distance.proofs.TableLemmas.{held}
use Rattle.mapf_distance.proofs.lazy_tables.LazyTables.make.Goals as goal

pub returns-else-is_none-clause-made : goal.returns-else-is_none-clause-made
returns-else-is_none-clause-made c =
    let items = c.self.inside.tables.items in
    let same : items ≡ c.args.self.now = c.self.view_is in
    let within : c.args.agent < length items = let s = ap length same in let n = c.requires.tables.places in let h = c.requires.known in omega (arith, n, h, s) in
    let (table, is) = held c.index.result.now c.if-is_none.ensures in
    let read = slice_get_read items (length items) c.args.agent c.index.result.now refl within c.index.ensures in
    rw (← same) ((table, read ∙ ap Some is))
