use Rattle.std.proofs.Common.{◌≡◌, ◌<◌, Some, length, slice_get, refl, sym, ◌∙◌, ap, subst, inl, inr, arith}
use Rattle.std.proofs.lemmas.Option.{slice_get_read}
use Rattle.mapf_cbs.specs.declared.node.Node.TheVariants.{Root, Child}
use Rattle.mapf_spacetime.specs.declared.found.Found.TheVariants.{Arrives}
use Rattle.mapf_cbs.proofs.NodeLemmas.{view_at, root_path, found_path, paths_up}
use Rattle.mapf_cbs.proofs.ancestors.path_at.Goals as goal
use Rattle.mapf_cbs.proofs.ancestors.path_at.Goals.{then-constraint-agent+in-Dead, else-constraint-agent}

pub bounds-paths-agent : goal.bounds-paths-agent
bounds-paths-agent c =
    let at = slice_get_read c.args.nodes.now (length c.args.nodes.now) c.loop-at.at c.index-nodes-at.result refl c.loop-at.invariant.inside c.index-nodes-at.is in
    let h = (c.requires.nodes c.loop-at.at (Root c.in-Root.paths) (at ∙ ap Some c.in-Root.is)).1 in
    subst (λ paths. c.args.agent < length paths) (sym c.paths.ensures) h

pub returns-in-Root : goal.returns-in-Root
returns-in-Root c views view are is =
    let at = slice_get_read c.args.nodes.now (length c.args.nodes.now) c.loop-at.at c.index-nodes-at.result refl c.loop-at.invariant.inside c.index-nodes-at.is in
    let here = view_at c.args.nodes.now views are c.loop-at.at c.loop-at.invariant.inside in
    let h = (c.requires.nodes c.loop-at.at (Root c.in-Root.paths) (at ∙ ap Some c.in-Root.is)).1 in
    c.loop-at.invariant.same views view here.0 are is here.1 ∙ root_path c.args.nodes.now views are c.loop-at.at here.0 here.1 c.in-Root.paths c.args.agent (at ∙ ap Some c.in-Root.is)
    ∙ ap (λ paths. slice_get paths c.args.agent) (sym c.paths.ensures) ∙ slice_get_read c.paths.result.now (length c.paths.result.now) c.args.agent c.index-paths-agent.result refl (subst (λ paths. c.args.agent < length paths) (sym c.paths.ensures) h) c.index-paths-agent.is

pub returns-in-Arrives : goal.returns-in-Arrives
returns-in-Arrives c views view are is =
    let at = slice_get_read c.args.nodes.now (length c.args.nodes.now) c.loop-at.at c.index-nodes-at.result refl c.loop-at.invariant.inside c.index-nodes-at.is in
    let here = view_at c.args.nodes.now views are c.loop-at.at c.loop-at.invariant.inside in
    let child : slice_get c.args.nodes.now c.loop-at.at ≡ Some (Child c.in-Child.parent c.in-Child.constraint (Arrives c.in-Arrives.path c.in-Arrives.labels)) = at ∙ ap Some (c.in-Child.is ∙ ap (Child c.in-Child.parent c.in-Child.constraint) c.in-Arrives.is) in
    let own = found_path c.args.nodes.now views are c.loop-at.at here.0 here.1 c.in-Child.parent c.in-Child.constraint c.in-Arrives.path c.in-Arrives.labels child in
    c.loop-at.invariant.same views view here.0 are is here.1 ∙ (rw c.if-constraint-agent.true at own)

pub loop-at-smaller : goal.loop-at-smaller
loop-at-smaller c =
    let at = slice_get_read c.args.nodes.now (length c.args.nodes.now) c.loop-at.at c.index-nodes-at.result refl c.loop-at.invariant.inside c.index-nodes-at.is in
    c.requires.nodes c.loop-at.at (Child c.in-Child.parent c.in-Child.constraint c.in-Child.found) (at ∙ ap Some c.in-Child.is)

pub loop-at-preserved : goal.loop-at-preserved
loop-at-preserved c =
    let at = slice_get_read c.args.nodes.now (length c.args.nodes.now) c.loop-at.at c.index-nodes-at.result refl c.loop-at.invariant.inside c.index-nodes-at.is in
    let child = at ∙ ap Some c.in-Child.is in
    let lower = c.requires.nodes c.loop-at.at (Child c.in-Child.parent c.in-Child.constraint c.in-Child.found) child in
    record {
      inside = let h = c.loop-at.invariant.inside in omega (arith, lower, h);
      same = λ views view before are is before_is.
          let here = view_at c.args.nodes.now views are c.loop-at.at c.loop-at.invariant.inside in
          c.loop-at.invariant.same views view here.0 are is here.1 ∙ paths_up c.args.nodes.now views are c.loop-at.at here.0 here.1 c.in-Child.parent c.in-Child.constraint c.in-Child.found child c.args.agent
          (elim c.if-constraint-agent.branch [ then-constraint-agent+in-Dead w ↦ inr (w.in-Dead.labels, w.in-Dead.is) | else-constraint-agent w ↦ inl (λ e. w.if-constraint-agent.false (sym e)) ])
          before before_is;
    }
