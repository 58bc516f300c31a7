use Rattle.mapf_app.proofs.LineLemmas.{gets}
use Rattle.mapf_app.proofs.tell.tell_refused.Goals as goal

pub returns-in-Some-clause-line : goal.returns-in-Some-clause-line
returns-in-Some-clause-line g c =
    rw c.in-Some.is (λ text is. gets c.write_refused.result _ _ _ text c.write_refused.ensures.failed (c.write_refused.ensures.text text is) (c.write_refused.ensures.prefix text is))
