use Rattle.std.proofs.Common.{length, refl, ◌∙◌, ap, Some}
use Rattle.std.proofs.lemmas.Option.{slice_get_read}
use Rattle.mapf_cbs.proofs.ReplannedLemmas.{others_free}
use Rattle.mapf_cbs.proofs.replanned.replanned_at.Goals as goal

pub returns-in-Child : goal.returns-in-Child
returns-in-Child c views view are splits is =
    let read = slice_get_read c.args.nodes.now (length c.args.nodes.now) c.args.k c.index-nodes-k.result refl c.requires c.index-nodes-k.is in
    others_free c.args.nodes.now views are c.args.k view is c.in-Child.parent c.in-Child.constraint c.in-Child.found (read ∙ ap Some c.in-Child.is)
    c.split_tick.result (λ before before_is. c.split_tick.ensures views before splits before_is)
