use Rattle.std.proofs.Common.{sym}
use Rattle.mapf_certificate.proofs.Sequences.{last_decides}
use Rattle.mapf_lemma_texts.proofs.lists.follows.Goals as goal

pub returns-in-Some : goal.returns-in-Some
returns-in-Some g c =
    let listed = g.T.Listed in
    let value = c.args.value.now in
    let (all, last) = last_decides listed.precedes (λ b. listed.precedes b value) c.args.before.now c.in-Some.last.now (λ a b p q. g.met.T.Listed.transitive a b value p q) c.requires (sym c.in-Some.ensures.value) in
    (λ h. all (c.is_before.ensures.0 h), λ h. c.is_before.ensures.1 (last h))
