use Rattle.std.proofs.Common.{◌≡◌, ◌%◌, ap, slice_index, ◌∙◌, arith}
use Rattle.std.proofs.lemmas.Bool.{eqb-true, not-false}
use Rattle.mapf_model.specs.declared.bar.Bar.{Bar}
use Rattle.mapf_constraints.specs.BarSets.{bar_tick}
use Rattle.mapf_constraints.specs.Chains.{chain_of}
use Rattle.mapf_constraints.proofs.ChainLemmas.{bars_of-from}
use Rattle.mapf_constraints.proofs.tick_bars.TickBarsBarTable.may_bar_at.Goals as goal

pub returns : goal.returns
returns c = rw (← c.self.view_is) (λ none bar held at.
    let links = c.self.inside.links.items in
    let chain = c.args.at % 64 in
    let (place, within, is) = bars_of-from links bar held in
    let empty : slice_index c.self.inside.newest chain ≡ 0 = eqb-true (slice_index c.self.inside.newest chain) 0 (not-false _ none) in
    let own = ap (λ (b : Bar). chain_of (bar_tick b)) is ∙ ap chain_of at in
    absurd (omega (arith, (c.self.invariant.3.first chain (omega arith)).newest place within own, empty)))
