use Rattle.std.proofs.Common.{◌≡◌, ℕ, ◌+◌, ◌<◌, ◌∙◌, length, slice_index_or, ap, arith}
use Rattle.std.proofs.lemmas.List.{get_or_default, length-set}
use Rattle.mapf_lemmas.specs.declared.joint.JointEntry.{JointEntry}
use Rattle.mapf_lemmas.specs.declared.joint.JointState.TheVariants.{Both}
use Rattle.mapf_joint_labels.specs.declared.runs.Run.{Run}
use Rattle.mapf_joint_labels.proofs.JointMarkLemmas.{ended_more, ended_past}
use Rattle.mapf_joint_labels.proofs.joint_marks.end_runs.Goals as goal
use Rattle.mapf_joint_labels.proofs.joint_marks.end_runs.Goals.{in-Both, in_default}

pub loop-k-preserved : goal.loop-k-preserved
loop-k-preserved c =
    let entries = c.args.entries.now in
    let i = c.loop-k.invariant in
    let k = c.loop-k.k in
    let some = c.loop-k-test.true in
    let to = c.requires in
    let within : k < length entries = omega (arith, some, to) in
    elim c.match-entries-k.branch [
      | in-Both w ↦
          let first = w.in-Both.first in
          let second = w.in-Both.second in
          let is : (d : JointEntry) → (slice_index_or entries k d).state ≡ Both first second = λ d. ap (λ (x : JointEntry). x.state) (get_or_default entries k d _ within) ∙ w.in-Both.is in
          let run : Run = record { begin = 0; end = k + 1 } in
          rw (w.runs-is, w.set.ensures) (record {
            ended = ended_more entries c.loop-k.runs c.args.from c.args.to k first second within is i.ended;
            size = length-set c.loop-k.runs first run ∙ i.size;
          })
      | in_default w ↦
          let alone : (d : JointEntry) (u v : ℕ) → (slice_index_or entries k d).state ≡ Both u v → ⊥ = λ d u v is. w.in_default.not-Both u v (ap (λ (x : JointEntry). x.state) (get_or_default entries k _ d within) ∙ is) in
          rw w.runs-is (record { ended = ended_past entries c.loop-k.runs c.args.from c.args.to k alone i.ended; size = i.size })
    ]

pub returns-clause-ended : goal.returns-clause-ended
returns-clause-ended c = λ j u v low below of inside. c.loop-k.invariant.ended j u v low (let over = c.loop-k-test.false in omega (arith, over, below)) of inside
