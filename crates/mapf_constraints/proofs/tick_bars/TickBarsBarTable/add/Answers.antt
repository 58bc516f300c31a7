use Rattle.std.proofs.Common.{◌%◌, ℕ, refl, [], ◌∷◌, ◌++◌, slice_index, length-set, true, ⊎_elim, subst, ◌∙◌, ap, rules}
use Rattle.mapf_model.specs.Bars.{IsBar}
use Rattle.mapf_constraints.specs.Chains.{bars_of}
use Rattle.mapf_constraints.specs.declared.link.Link.{Link}
use Rattle.mapf_constraints.proofs.BarLemmas.{horizon_early}
use Rattle.mapf_model.proofs.ContainsLemmas.{Contains-cons_cases}
use Rattle.mapf_constraints.proofs.ChainLemmas.{bars_of-push, AreChained-push, AreMarked-push}
use Rattle.mapf_constraints.proofs.tick_bars.TickBarsBarTable.add.Goals as goal

pub invariant_of-self-2 : goal.invariant_of-self-2
invariant_of-self-2 c =
    let links = c.self.inside.links.items in
    let link : Link = record { bar = c.args.bar; older = slice_index c.self.inside.newest (c.tick.result % 64) } in
    let same = bars_of-push links link in
    let horizon = c.horizon_with-self-inside.ensures (bars_of links) (bars_of (links ++ link ∷ [])) c.self.invariant.1 same in
    let early = horizon_early (bars_of links) (bars_of (links ++ link ∷ [])) c.args.bar same c.self.inside.horizon c.horizon_with-self-inside.result c.self.invariant.1 c.self.invariant.2 c.requires.early horizon in
    rw c.in_ok-push.ensures.items (
      (λ bar held. ⊎_elim (λ new. subst IsBar new c.requires.bar) (λ there. c.self.invariant.0 bar there) (Contains-cons_cases c.args.bar bar (bars_of links) ((same bar).0 held))),
      horizon,
      early,
      AreChained-push links link c.self.inside.newest (c.tick.result % 64) c.len.result c.self.invariant.3 (ap (λ (t : ℕ). t % 64) c.tick.ensures) refl (search rules) (search rules),
      length-set c.self.inside.marks c.bar_index.result true ∙ c.self.invariant.4,
      AreMarked-push links link c.self.inside.marks c.bar_index.result c.bar_index.ensures.index c.self.invariant.4 c.self.invariant.5,
    )

pub returns-clause-added : goal.returns-clause-added
returns-clause-added c = rw (c.in_ok-push.ensures.items, ← c.self.view_is) (bars_of-push c.self.inside.links.items (record { bar = c.args.bar; older = slice_index c.self.inside.newest (c.tick.result % 64) }))
