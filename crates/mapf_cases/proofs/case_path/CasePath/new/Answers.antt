use Rattle.std.proofs.Common.{[], ◌∷◌, ap}
use Rattle.mapf_cases.specs.Nodes.{Context}
use Rattle.mapf_cases.proofs.SplitLemmas.{all_added}
use Rattle.mapf_cases.proofs.case_path.CasePath.new.Goals as goal

pub returns : goal.returns
returns c =
    let standing = c.in_ok-all_standing.ensures in
    let pending = c.new.ensures.items in
    rw (standing, pending) (ap (λ (context : Context). context ∷ []) (all_added c.args.constraints.now))
