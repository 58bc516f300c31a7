use Rattle.std.proofs.Common.{sym, ◌∙◌, subst}
use Rattle.mapf_single_labels.specs.TaskConstraints.{IsFirstClear}
use Rattle.mapf_single_labels.proofs.constraint_index.ConstraintIndex.first_clear.Goals as goal

pub returns : goal.returns
returns c listed indexed = subst (λ first. IsFirstClear listed c.args.cell first) (sym (c.copied.ensures ∙ c.get.ensures.value)) (indexed.clears c.args.cell)
