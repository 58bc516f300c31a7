use Rattle.mapf_app.proofs.SolveLemmas.{weaker}
use Rattle.mapf_app.proofs.answer_writer.write_plain.Goals as goal

pub returns-clause-texts : goal.returns-clause-texts
returns-clause-texts g c =
    weaker c.write_solved.result _ _ _ _ _ _
    (λ kind plan cert same. rw (same.0, same.1, same.2) (c.in-Ok.ensures.prints, c.in-Ok.ensures.policy))
    c.write_solved.ensures.texts
