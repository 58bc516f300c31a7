use Rattle.std.proofs.Common.{◌<◌, ◌^◌, length, slice_index, rules}
use Rattle.std.proofs.lemmas.List.{get_or-set_same, get_or-set_other}
use Rattle.mapf_spacetime.proofs.CellLemmas.{least_has, least_is, without_kept, without_only}
use Rattle.mapf_spacetime.proofs.cell_set.take_from.Goals as goal

pub returns : goal.returns
returns c =
    let words = c.args.words.now in
    let place = c.args.place in
    let given = c.requires in
    let small : slice_index words place < 2 ^ 64 = search rules in
    record {
      some = least_has words place (length words) given.first given.inside given.some small;
      least = least_is words place (length words) given.first given.inside given.some small;
      kept = without_kept words place (length words) given.first given.inside given.some small;
      only = without_only words place (length words) given.first given.inside given.some small;
      left = rw (get_or-set_same words place _ 0 given.inside) (search rules);
      others = λ other apart. get_or-set_other words place other _ 0 apart;
    }
