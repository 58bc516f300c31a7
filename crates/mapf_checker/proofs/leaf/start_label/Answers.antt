use Rattle.std.proofs.Common.{◌<◌, length, None, slice_index_or, refl, arith}
use Rattle.std.proofs.lemmas.List.{get_or_default}
use Rattle.std.proofs.lemmas.Option.{slice_get_read}
use Rattle.mapf_model.proofs.ClaimLemmas.{slice_get_inside}
use Rattle.mapf_checker.specs.Branch.{place_of}
use Rattle.mapf_checker.proofs.StartLemmas.{start_from_above}
use Rattle.mapf_checker.proofs.leaf.start_label.Goals as goal

pub returns-else-is_block_of-clause-label : goal.returns-else-is_block_of-clause-label
returns-else-is_block_of-clause-label c =
    let problem = c.args.node.now.problem.now in
    let distances = c.args.node.now.start_distances.now in
    let inside : c.args.agent < length distances = omega (arith, c.requires.distances.count, c.requires.inside) in
    let is_distance = slice_get_read distances _ c.args.agent (slice_index_or distances c.args.agent None) refl inside (get_or_default distances c.args.agent None (slice_index_or distances c.args.agent None) inside) in
    let leaves = c.is_block_of.ensures.none c.if-is_block_of.false in
    let (a, is_a) = slice_get_inside problem.agents c.args.agent c.requires.inside in
    start_from_above problem c.args.blocks.now (place_of c.args.node.now.branch.now).here.entries c.args.agent a.start (a, is_a, refl) distances c.requires.distances (slice_index_or distances c.args.agent None) is_distance c.start_entry-entry.result c.entry_or-else-is_block_of.result c.entry_or-else-is_block_of.ensures leaves.none c.start_entry-entry.ensures
