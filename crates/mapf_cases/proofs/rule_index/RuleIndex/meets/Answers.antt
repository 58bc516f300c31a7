use Rattle.std.proofs.Common.{◌≡◌, sym, subst}
use Rattle.mapf_cases.specs.Rules.{ServesFrom}
use Rattle.mapf_cases.proofs.RuleLemmas.{found_other}
use Rattle.mapf_cases.proofs.rule_index.RuleIndex.meets.Goals as goal

pub returns-in-Some : goal.returns-in-Some
returns-in-Some c constraints indexed = (
  c.stands_from-in-Some.ensures.sound constraints indexed,
  λ stands.
      let (first, is, found) = found_other constraints c.args.agent c.args.needed.now c.stands_from.result (λ rule held from. c.stands_from.ensures.complete constraints rule indexed held
      (subst (λ r. ServesFrom c.args.agent r c.args.needed.now rule) (sym c.first_of_kind.ensures) from)) c.if-stands_from.false stands in
      let same : first ≡ c.in-Some.first = cc (is, c.first_of_other_kind.ensures, c.in-Some.is) in
      found c.stands_from-in-Some.result (λ rule held from. c.stands_from-in-Some.ensures.complete constraints rule indexed held
      (subst (λ r. ServesFrom c.args.agent r c.args.needed.now rule) same from)),
)

pub returns-in-None : goal.returns-in-None
returns-in-None c constraints indexed = (
  λ none. absurd cc,
  λ stands.
      let (first, is, found) = found_other constraints c.args.agent c.args.needed.now c.stands_from.result (λ rule held from. c.stands_from.ensures.complete constraints rule indexed held
      (subst (λ r. ServesFrom c.args.agent r c.args.needed.now rule) (sym c.first_of_kind.ensures) from)) c.if-stands_from.false stands in
      absurd (cc (is, c.first_of_other_kind.ensures, c.in-None.is)),
)
