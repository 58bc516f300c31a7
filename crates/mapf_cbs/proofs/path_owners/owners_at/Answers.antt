use Rattle.std.proofs.Common.{◌≡◌, Some, length, slice_get, refl, sym, ◌∙◌, ap, subst, arith}
use Rattle.std.proofs.lemmas.Option.{slice_get_read, same_Some}
use Rattle.mapf_cbs.specs.declared.node.Node.TheVariants.{Root, Child}
use Rattle.mapf_cbs.proofs.NodeLemmas.{view_at}
use Rattle.mapf_cbs.proofs.OwnerLemmas.{none_inside, none_so_far, noted_inside, noted_up, found_at_root}
use Rattle.mapf_cbs.proofs.path_owners.owners_at.Goals as goal

pub loop-at-init : goal.loop-at-init
loop-at-init c = record {
  inside = c.requires.inside;
  count = c.in_ok-nearest.ensures.count;
  nearest = none_inside c.args.nodes.now c.in_ok-nearest.nearest.items (let h = c.requires.inside in omega (arith, h)) c.in_ok-nearest.ensures.none;
  same = λ views view here are is here_is. none_so_far views view here (same_Some view here (sym is ∙ here_is)) c.in_ok-nearest.nearest.items c.in_ok-nearest.ensures.none;
}

pub loop-at-preserved : goal.loop-at-preserved
loop-at-preserved c =
    let old = c.loop-at.nearest.items in
    let new = c.note.new.nearest.items in
    let noted = c.note.ensures.noted in
    let size = c.note.ensures.count in
    let count = c.loop-at.invariant.count in
    let read = slice_get_read c.args.nodes.now (length c.args.nodes.now) c.loop-at.at c.index-nodes-at.result refl c.loop-at.invariant.inside c.index-nodes-at.is in
    let child = read ∙ ap Some c.in-Child.is in
    let lower = c.requires.nodes 0 c.requires.some c.loop-at.at (Child c.in-Child.parent c.in-Child.constraint c.in-Child.found) child in
    record {
      inside = let h = c.loop-at.invariant.inside in omega (arith, lower, h);
      count = omega (arith, size, count);
      nearest = noted_inside old new c.in-Child.constraint.agent c.loop-at.at size noted c.args.nodes.now c.loop-at.invariant.inside c.loop-at.invariant.nearest;
      same = λ views view before are is before_is.
          let here = view_at c.args.nodes.now views are c.loop-at.at c.loop-at.invariant.inside in
          noted_up old new c.in-Child.constraint.agent c.loop-at.at size noted c.args.nodes.now views are view here.0 here.1 c.in-Child.parent c.in-Child.constraint refl c.in-Child.found child before before_is
          (c.loop-at.invariant.same views view here.0 are is here.1);
    }

pub loop-at-smaller : goal.loop-at-smaller
loop-at-smaller c =
    let read = slice_get_read c.args.nodes.now (length c.args.nodes.now) c.loop-at.at c.index-nodes-at.result refl c.loop-at.invariant.inside c.index-nodes-at.is in
    c.requires.nodes 0 c.requires.some c.loop-at.at (Child c.in-Child.parent c.in-Child.constraint c.in-Child.found) (read ∙ ap Some c.in-Child.is)

pub returns-clause-found : goal.returns-clause-found
returns-clause-found c i owner owner_is = record {
  inside = c.loop-at.invariant.nearest i owner owner_is;
  same = λ views view are is.
      let read = slice_get_read c.args.nodes.now (length c.args.nodes.now) c.loop-at.at c.index-nodes-at.result refl c.loop-at.invariant.inside c.index-nodes-at.is in
      let first = (c.requires.nodes 0 c.requires.some c.loop-at.at (Root c.in_default.field-0) (read ∙ ap Some c.in_default.is)).0 in
      let here = view_at c.args.nodes.now views are c.loop-at.at c.loop-at.invariant.inside in
      found_at_root views view here.0 i owner (subst (λ n. slice_get views n ≡ Some here.0) first here.1) (c.loop-at.invariant.same views view here.0 are is here.1 i owner owner_is);
}
