use Rattle.std.proofs.Common.{◌↔◌, sym, subst}
use Rattle.mapf_cases.specs.Clears.{IsClear, IsClearFor}
use Rattle.mapf_cases.proofs.clear_index.ClearIndex.is_clear.Goals as goal

pub returns-in-Some : goal.returns-in-Some
returns-in-Some c clears keeps =
    let kept = subst (λ o. IsClearFor o c.args.agent c.args.tick ↔ IsClear clears c.args.cell c.args.agent c.args.tick) (sym c.in-Some.ensures.value) ((keeps c.args.cell).clear c.args.agent c.args.tick) in
    (λ found. kept.0 (c.is_clear.ensures.0 found), λ clear. c.is_clear.ensures.1 (kept.1 clear))

pub returns-in-None : goal.returns-in-None
returns-in-None c clears keeps =
    let kept = subst (λ o. IsClearFor o c.args.agent c.args.tick ↔ IsClear clears c.args.cell c.args.agent c.args.tick) (sym c.in-None.ensures.value) ((keeps c.args.cell).clear c.args.agent c.args.tick) in
    (λ none. absurd cc, λ clear. absurd (kept.1 clear))
