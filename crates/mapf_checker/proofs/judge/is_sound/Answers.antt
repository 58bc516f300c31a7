use Rattle.std.proofs.Common.{IsTrue}
use Rattle.std.proofs.lemmas.Bool.{iff_false, true_from_ne_false}
use Rattle.mapf_checker.proofs.judge.is_sound.Goals as goal

pub returns-else-is_open_sound : goal.returns-else-is_open_sound
returns-else-is_open_sound c =
    let distance = rw c.requires.distances.goal at (rw c.requires.distances.grid at c.in-Some.ensures.some) in
    let exceeds : IsTrue c.exceeds.result = c.if-not-exceeds.false in (
      λ yes. let barred = c.is_barred.ensures.0 yes in
          record { raised = (c.in-Some.distance, distance, c.exceeds.ensures.0 exceeds); at_goal = λ free. absurd (free barred); onward = λ free. absurd (free barred) },
      λ sound. true_from_ne_false c.is_barred.result (λ no.
          let open_state = iff_false c.is_barred.ensures no in
          iff_false c.is_open_sound.ensures c.if-is_open_sound.false (sound.at_goal open_state, sound.onward open_state)),
    )
