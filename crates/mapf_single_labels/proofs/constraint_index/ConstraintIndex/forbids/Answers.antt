use Rattle.mapf_model.specs.declared.bar.Bar.TheVariants.{Cell}
use Rattle.mapf_single_labels.specs.TaskConstraints.{IsFirstClear}
use Rattle.mapf_single_labels.proofs.ConstraintLemmas.{forbidden_some, forbidden_none}
use Rattle.std.proofs.lemmas.Bool.Decides.{nat_tests}
use Rattle.std.proofs.Common.{sym, ◌∙◌, subst, arith}
use Rattle.mapf_single_labels.proofs.constraint_index.ConstraintIndex.forbids.Goals as goal

pub returns-in-Some : goal.returns-in-Some
returns-in-Some c listed indexed =
    forbidden_some listed c.args.cell c.args.tick _ _ c.in-Some.first (indexed.bars (Cell c.args.cell c.args.tick)) (sym c.contains.ensures ∙ c.if-contains.false)
    (subst (IsFirstClear listed c.args.cell) c.in-Some.is (c.first_clear.ensures listed indexed)) (λ e. grind (arith, nat_tests), λ e. grind (arith, nat_tests))

pub returns-in-None : goal.returns-in-None
returns-in-None c listed indexed = (
  λ no. absurd cc,
  λ there. absurd (forbidden_none listed c.args.cell c.args.tick _ (indexed.bars (Cell c.args.cell c.args.tick)) (sym c.contains.ensures ∙ c.if-contains.false)
      (subst (IsFirstClear listed c.args.cell) c.in-None.is (c.first_clear.ensures listed indexed)) there),
)
