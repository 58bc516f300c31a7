use Rattle.std.proofs.Common.{Some, length, refl, ◌∙◌, ap}
use Rattle.std.proofs.lemmas.Option.{slice_get_read}
use Rattle.mapf_cbs.specs.declared.node.Node.TheVariants.{Root}
use Rattle.mapf_cbs.proofs.ancestors.root_paths.Goals as goal

pub returns-clause-paths : goal.returns-clause-paths
returns-clause-paths c views view are is =
    let nodes = c.args.nodes.now in
    let read = slice_get_read nodes (length nodes) 0 c.index-nodes-0.result refl c.requires.inside c.index-nodes-0.is in
    (are.each 0 (Root c.in-Root.paths) view (read ∙ ap Some c.in-Root.is) is).same_paths
