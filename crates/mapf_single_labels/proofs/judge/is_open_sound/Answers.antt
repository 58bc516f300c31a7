use Rattle.mapf_single_labels.proofs.judge.is_open_sound.Goals as goal

pub returns-then-rests_well : goal.returns-then-rests_well
returns-then-rests_well c = (
  λ yes. (c.rests_well.ensures.0 c.if-rests_well.true, c.goes_on.ensures.0 yes),
  λ sound. c.goes_on.ensures.1 sound.1,
)
