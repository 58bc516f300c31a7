use Rattle.std.proofs.Common.{◌≡◌, ◌<◌, ℕ, sym, ap, subst, arith}
use Rattle.std.proofs.lemmas.Bool.{ltb-true, lt-ltb}
use Rattle.mapf_model.specs.Blocks.{LabelBlock}
use Rattle.mapf_certificate.specs.Bounded.{IsOfLesserAgent}
use Rattle.mapf_certificate.proofs.Sequences.{last_decides}
use Rattle.mapf_certificate.proofs.listed.follows_blocks.Goals as goal

pub returns-in-Some : goal.returns-in-Some
returns-in-Some c =
    let agent = c.args.agent in
    let here : c.last-in-Some.inside.agent ≡ c.in-Some.last.now.agent = ap (λ (b : LabelBlock). b.agent) c.last-in-Some.view_is in
    let (all, last) = last_decides IsOfLesserAgent (λ (b : LabelBlock). b.agent < agent) c.args.before.now c.in-Some.last.now (λ a b p q. omega arith) c.requires (sym c.in-Some.ensures.value) in
    (λ h. all (subst (λ (n : ℕ). n < agent) here (ltb-true _ _ h)), λ h. lt-ltb _ _ (subst (λ (n : ℕ). n < agent) (sym here) (last h)))
