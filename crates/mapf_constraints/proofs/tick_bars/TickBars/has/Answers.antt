use Rattle.std.proofs.Common.{◌≡◌, ◌-◌, ◌<◌, length, Contains, sym, subst, ap, ◌∙◌, refl, arith, rules}
use Rattle.std.proofs.lemmas.Bool.{false≢true}
use Rattle.std.proofs.lemmas.List.{get_or_read_under}
use Rattle.mapf_constraints.specs.declared.link.Link.{Link}
use Rattle.mapf_constraints.specs.Chains.{bars_of, link_at}
use Rattle.mapf_constraints.proofs.ChainLemmas.{no_link, bars_of-has, bars_of-from}
use Rattle.mapf_constraints.proofs.tick_bars.TickBars.has.Goals as goal

pub returns-then-eq : goal.returns-then-eq
returns-then-eq c =
    let links = c.self.inside.links.items in
    let place = c.loop-count.count - 1 in
    let is : c.index-link.result.now.bar ≡ c.args.bar.now = search rules in
    let within : place < length links = omega (arith, c.loop-count-test.true, c.loop-count.invariant.0) in
    let read : c.index-link.result.now ≡ link_at links place = get_or_read_under links place (length links) c.index-link.result.now no_link c.index-link.ensures within refl in
    rw (← c.self.view_is) (
      (λ yes. subst (Contains (bars_of links)) (ap (λ (l : Link). l.bar) (sym read) ∙ is) (bars_of-has links place within)),
      (λ held. refl),
    )

pub returns : goal.returns
returns c =
    let links = c.self.inside.links.items in
    rw (← c.self.view_is) (
      (λ yes. absurd (false≢true yes)),
      (λ held. let (place, within, is) = bars_of-from links c.args.bar.now held in absurd (omega (arith, c.loop-count.invariant.2 place within is, c.loop-count-test.false))),
    )
