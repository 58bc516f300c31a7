use Rattle.std.proofs.Common.{◌/◌, ◌<◌, length, arith}
use Rattle.std.proofs.lemmas.List.{get_or-set_other}
use Rattle.mapf_spacetime.proofs.CellLemmas.{with_cell, with_here, with_kept, with_only}
use Rattle.mapf_spacetime.proofs.FilledLemmas.{not_zero}
use Rattle.mapf_spacetime.proofs.cell_set.add_to.Goals as goal

pub returns-clause-here : goal.returns-clause-here
returns-clause-here c = with_here c.args.words.now c.args.number (let h = c.requires in omega (arith, h))

pub returns-clause-kept : goal.returns-clause-kept
returns-clause-kept c = with_kept c.args.words.now c.args.number (let h = c.requires in omega (arith, h))

pub returns-clause-only : goal.returns-clause-only
returns-clause-only c = with_only c.args.words.now c.args.number (let h = c.requires in omega (arith, h))

pub returns-clause-some : goal.returns-clause-some
returns-clause-some c =
    let words = c.args.words.now in
    let inside : c.args.number / 64 < length words = (let h = c.requires in omega (arith, h)) in
    not_zero (with_cell words c.args.number inside) c.args.number (with_here words c.args.number inside)

pub returns-clause-others : goal.returns-clause-others
returns-clause-others c other apart = get_or-set_other c.args.words.now (c.args.number / 64) other _ 0 apart
