use Rattle.std.proofs.Common.{◌≡◌, ◌∷◌, Some, length, refl, sym, ◌∙◌, ap, subst, arith}
use Rattle.std.proofs.lemmas.Option.{slice_get_read, same_Some}
use Rattle.mapf_cbs.specs.declared.node.Node.TheVariants.{Child}
use Rattle.mapf_cbs.specs.Search.{View}
use Rattle.mapf_cbs.specs.Nodes.{AreJoined}
use Rattle.mapf_cbs.proofs.NodeLemmas.{view_at, root_bars, bars_up, bars_more, joined_first, joined_same, joined_more, joined_done}
use Rattle.mapf_cbs.proofs.ancestors.gather_bars.Goals as goal
use Rattle.mapf_cbs.proofs.ancestors.gather_bars.Goals.{then-constraint-agent+in_ok-add, else-constraint-agent}

pub add-requires-clause-early : goal.add-requires-clause-early
add-requires-clause-early g c =
    let at = slice_get_read c.args.nodes.now (length c.args.nodes.now) c.loop-at.at c.index-nodes-at.result refl c.loop-at.invariant.inside c.index-nodes-at.is in
    (c.requires.bars c.loop-at.at (Child c.in-Child.parent c.in-Child.constraint c.in-Child.found) (at ∙ ap Some c.in-Child.is)).0

pub add-requires-clause-bar : goal.add-requires-clause-bar
add-requires-clause-bar g c =
    let at = slice_get_read c.args.nodes.now (length c.args.nodes.now) c.loop-at.at c.index-nodes-at.result refl c.loop-at.invariant.inside c.index-nodes-at.is in
    (c.requires.bars c.loop-at.at (Child c.in-Child.parent c.in-Child.constraint c.in-Child.found) (at ∙ ap Some c.in-Child.is)).1

pub loop-at-smaller : goal.loop-at-smaller
loop-at-smaller g c =
    let at = slice_get_read c.args.nodes.now (length c.args.nodes.now) c.loop-at.at c.index-nodes-at.result refl c.loop-at.invariant.inside c.index-nodes-at.is in
    c.requires.nodes c.loop-at.at (Child c.in-Child.parent c.in-Child.constraint c.in-Child.found) (at ∙ ap Some c.in-Child.is)

pub loop-at-init : goal.loop-at-init
loop-at-init g c = record {
  inside = c.requires.inside;
  same = λ views view here are is here_is.
      let e : view ≡ here = same_Some view here (sym is ∙ here_is) in
      subst (λ (v : View). AreJoined (view.context.bars c.args.agent) (g.B.BarTable.bars c.clear.new.self) (v.context.bars c.args.agent)) e
      (joined_first (view.context.bars c.args.agent) (g.B.BarTable.bars c.clear.new.self) c.clear.ensures);
}

pub loop-at-preserved : goal.loop-at-preserved
loop-at-preserved g c =
    let at = slice_get_read c.args.nodes.now (length c.args.nodes.now) c.loop-at.at c.index-nodes-at.result refl c.loop-at.invariant.inside c.index-nodes-at.is in
    let child = at ∙ ap Some c.in-Child.is in
    let lower = c.requires.nodes c.loop-at.at (Child c.in-Child.parent c.in-Child.constraint c.in-Child.found) child in
    record {
      inside = let h = c.loop-at.invariant.inside in omega (arith, lower, h);
      same = λ views view before are is before_is.
          let here = view_at c.args.nodes.now views are c.loop-at.at c.loop-at.invariant.inside in
          let joined = c.loop-at.invariant.same views view here.0 are is here.1 in
          elim c.if-constraint-agent.branch [
            | then-constraint-agent+in_ok-add w ↦
                let more : here.0.context.bars c.args.agent ≡ c.in-Child.constraint.bar ∷ before.context.bars c.args.agent = rw w.if-constraint-agent.true at (bars_more c.args.nodes.now views are c.loop-at.at here.0 here.1 c.in-Child.parent c.in-Child.constraint c.in-Child.found child before before_is) in
                subst (λ t. AreJoined (view.context.bars c.args.agent) (g.B.BarTable.bars t) (before.context.bars c.args.agent)) (sym w.table-is)
                (joined_more (view.context.bars c.args.agent) (g.B.BarTable.bars c.loop-at.table) (before.context.bars c.args.agent) (g.B.BarTable.bars w.add.new.self) c.in-Child.constraint.bar
                (joined_same (view.context.bars c.args.agent) (g.B.BarTable.bars c.loop-at.table) (c.in-Child.constraint.bar ∷ before.context.bars c.args.agent) (here.0.context.bars c.args.agent) more joined) w.in_ok-add.ensures.added)
            | else-constraint-agent w ↦
                subst (λ t. AreJoined (view.context.bars c.args.agent) (g.B.BarTable.bars t) (before.context.bars c.args.agent)) (sym w.table-is)
                (joined_same (view.context.bars c.args.agent) (g.B.BarTable.bars c.loop-at.table) (before.context.bars c.args.agent) (here.0.context.bars c.args.agent)
                (bars_up c.args.nodes.now views are c.loop-at.at here.0 here.1 c.in-Child.parent c.in-Child.constraint c.in-Child.found child c.args.agent (λ e. w.if-constraint-agent.false (sym e)) before before_is) joined)
          ];
    }

pub returns : goal.returns
returns g c views view are is =
    let at = slice_get_read c.args.nodes.now (length c.args.nodes.now) c.loop-at.at c.index-nodes-at.result refl c.loop-at.invariant.inside c.index-nodes-at.is in
    let here = view_at c.args.nodes.now views are c.loop-at.at c.loop-at.invariant.inside in
    joined_done (view.context.bars c.args.agent) (g.B.BarTable.bars c.loop-at.table) (here.0.context.bars c.args.agent)
    (root_bars c.args.nodes.now views are c.loop-at.at here.0 here.1 c.in_default.field-0 c.args.agent (at ∙ ap Some c.in_default.is))
    (c.loop-at.invariant.same views view here.0 are is here.1)
