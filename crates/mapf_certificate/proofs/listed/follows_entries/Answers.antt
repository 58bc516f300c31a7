use Rattle.std.proofs.Common.{sym}
use Rattle.mapf_model.specs.Printed.{IsBefore}
use Rattle.mapf_certificate.proofs.Sequences.{last_decides}
use Rattle.mapf_certificate.proofs.Blocks.{before_trans}
use Rattle.mapf_certificate.proofs.listed.follows_entries.Goals as goal

pub returns-in-Some : goal.returns-in-Some
returns-in-Some c =
    let entry = c.args.entry.now in
    let (all, last) = last_decides IsBefore (λ b. IsBefore b entry) c.args.before.now c.in-Some.last.now (λ a b p q. before_trans a b entry p q) c.requires (sym c.in-Some.ensures.value) in
    (λ h. all (c.is_before.ensures.0 h), λ h. c.is_before.ensures.1 (last h))
