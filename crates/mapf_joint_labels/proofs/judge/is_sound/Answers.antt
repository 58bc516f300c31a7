use Rattle.std.proofs.Common.{◌↔◌, IsTrue, sym, subst}
use Rattle.mapf_lemmas.specs.declared.joint.JointState.{JointState}
use Rattle.mapf_joint_labels.specs.Pairs.{IsSoundIn}
use Rattle.mapf_joint_labels.proofs.judge.is_sound.Goals as goal

pub returns-in-Both : goal.returns-in-Both
returns-in-Both c =
    let entry = c.args.entry.now in
    subst (λ (s : JointState). IsTrue c.is_sound_together.result ↔ IsSoundIn c.args.pair.now (record { state = s; tick = entry.tick; label = entry.label })) (sym c.in-Both.is) c.is_sound_together.ensures
