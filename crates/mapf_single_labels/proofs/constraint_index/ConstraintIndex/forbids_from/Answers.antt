use Rattle.std.proofs.Common.{sym, ◌∙◌}
use Rattle.mapf_single_labels.proofs.ConstraintLemmas.{forbidden_from}
use Rattle.mapf_single_labels.proofs.constraint_index.ConstraintIndex.forbids_from.Goals as goal

pub returns-else-is_some : goal.returns-else-is_some
returns-else-is_some c listed indexed =
    forbidden_from listed c.args.cell c.args.tick c.first_clear.result c.has_from.result (sym c.is_some.ensures ∙ c.if-is_some.false) (c.first_clear.ensures listed indexed) (c.has_from.ensures listed indexed)
