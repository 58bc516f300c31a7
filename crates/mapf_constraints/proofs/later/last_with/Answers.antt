use Rattle.std.proofs.Common.{◌≡◌, ◌∷◌, sym, subst, ap, ◌∙◌, eqb, false, true}
use Rattle.std.proofs.lemmas.Bool.{eqb-true, eq-eqb}
use Rattle.mapf_model.specs.declared.bar.Bar.TheVariants.{Cell, Move}
use Rattle.mapf_model.specs.Laws.{AreSameBars}
use Rattle.mapf_constraints.proofs.BarLemmas.{IsLastOn-cell, IsLastOn-other}
use Rattle.mapf_constraints.proofs.later.last_with.Goals as goal

pub returns-in-Cell : goal.returns-in-Cell
returns-in-Cell c before after is same =
    let on : c.in-Cell.on ≡ c.args.cell = eqb-true _ _ (sym c.eq.ensures ∙ c.if-eq.true) in
    let e : c.args.bar.now ≡ Cell c.args.cell c.in-Cell.tick = c.in-Cell.is ∙ ap (λ cell. Cell cell c.in-Cell.tick) on in
    rw c.latest.ensures (IsLastOn-cell before after c.args.cell c.in-Cell.tick (subst (λ bar. AreSameBars after (bar ∷ before)) e same) c.args.last is)

pub returns-in_default : goal.returns-in_default
returns-in_default c before after is same =
    IsLastOn-other before after c.args.cell c.args.bar.now same
    (λ tick e. let s : Cell c.in-Cell.on c.in-Cell.tick ≡ Cell c.args.cell tick = sym c.in-Cell.is ∙ e in
    let t : eqb c.in-Cell.on c.args.cell ≡ true = eq-eqb _ _ (let f : c.in-Cell.on ≡ c.args.cell = cc in f) in
    let f : eqb c.in-Cell.on c.args.cell ≡ false = sym c.eq.ensures ∙ c.if-eq.false in cc)
    c.args.last is

pub returns-in_default-2 : goal.returns-in_default-2
returns-in_default-2 c before after is same =
    IsLastOn-other before after c.args.cell c.args.bar.now same
    (λ tick e. let s : Move c.in_default.field-0 c.in_default.field-1 c.in_default.field-2 ≡ Cell c.args.cell tick = sym c.in_default.is ∙ e in cc)
    c.args.last is
