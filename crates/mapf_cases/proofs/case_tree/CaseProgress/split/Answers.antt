use Rattle.std.proofs.Common.{subst}
use Rattle.mapf_lemmas.specs.Cases.{IsProperSplit}
use Rattle.mapf_cases.specs.Splits.{HasSplitDefect}
use Rattle.mapf_cases.specs.Standing.{constraints_after}
use Rattle.mapf_cases.proofs.case_tree.CaseProgress.split.Goals as goal

pub returns-in-Err-clause-refused : goal.returns-in-Err-clause-refused
returns-in-Err-clause-refused c scope are =
    subst (λ s. HasSplitDefect scope (constraints_after s) c.args.split.now c.in-Err.fault) c.standing.ensures (c.in-Err.ensures.err scope are)

pub returns-clause-good : goal.returns-clause-good
returns-clause-good c scope target are =
    subst (λ s. IsProperSplit scope (constraints_after s) c.args.split.now) c.standing.ensures (c.in_default.ensures.ok scope are)
