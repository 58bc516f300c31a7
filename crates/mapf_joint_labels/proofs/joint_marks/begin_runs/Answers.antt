use Rattle.std.proofs.Common.{◌≡◌, ℕ, ◌+◌, ◌-◌, ◌<◌, ◌∙◌, length, slice_index_or, ap, subst, arith}
use Rattle.std.proofs.Math.ListN.{set}
use Rattle.std.proofs.lemmas.List.{get_or_default, length-set}
use Rattle.mapf_lemmas.specs.declared.joint.JointEntry.{JointEntry}
use Rattle.mapf_lemmas.specs.declared.joint.JointState.TheVariants.{Both}
use Rattle.mapf_joint_labels.specs.declared.runs.Run.{Run}
use Rattle.mapf_joint_labels.specs.JointMarks.{AreBegun}
use Rattle.mapf_joint_labels.specs.Runs.{run_of}
use Rattle.mapf_joint_labels.proofs.JointMarkLemmas.{begun_more, begun_past, ended_kept}
use Rattle.mapf_joint_labels.proofs.joint_marks.begin_runs.Goals as goal

pub loop-k-preserved-in-Both : goal.loop-k-preserved-in-Both
loop-k-preserved-in-Both c =
    let entries = c.args.entries.now in
    let i = c.loop-k.invariant in
    let k = c.loop-k.k - 1 in
    let some = c.loop-k-test.true in
    let most = c.loop-k.auto.k in
    let to = c.requires.within in
    let within : k < length entries = omega (arith, some, most, to) in
    let back : c.loop-k.k ≡ k + 1 = omega (arith, some) in
    let first = c.in-Both.first in
    let second = c.in-Both.second in
    let is : (d : JointEntry) → (slice_index_or entries k d).state ≡ Both first second = λ d. ap (λ (x : JointEntry). x.state) (get_or_default entries k d _ within) ∙ c.in-Both.is in
    let run : Run = record { begin = k; end = (run_of c.loop-k.runs first).end } in
    let new : c.set.new.self ≡ set c.loop-k.runs first run = c.set.ensures ∙ ap (λ (r : Run). set c.loop-k.runs first (record { begin = k; end = r.end })) c.get-end.ensures in
    rw new (record {
      ended = ended_kept entries c.loop-k.runs c.args.from c.args.to k first second within is i.ended;
      begun = begun_more entries c.loop-k.runs c.args.from c.args.to k first second within is (subst (λ n. AreBegun entries c.loop-k.runs n c.args.to) back i.begun);
      size = length-set c.loop-k.runs first run ∙ i.size;
    })

pub loop-k-preserved : goal.loop-k-preserved
loop-k-preserved c =
    let entries = c.args.entries.now in
    let i = c.loop-k.invariant in
    let k = c.loop-k.k - 1 in
    let some = c.loop-k-test.true in
    let most = c.loop-k.auto.k in
    let to = c.requires.within in
    let within : k < length entries = omega (arith, some, most, to) in
    let back : c.loop-k.k ≡ k + 1 = omega (arith, some) in
    let alone : (d : JointEntry) (u v : ℕ) → (slice_index_or entries k d).state ≡ Both u v → ⊥ = λ d u v is. c.in_default.not-Both u v (ap (λ (x : JointEntry). x.state) (get_or_default entries k _ d within) ∙ is) in
    record {
      ended = i.ended;
      begun = begun_past entries c.loop-k.runs c.args.from c.args.to k alone (subst (λ n. AreBegun entries c.loop-k.runs n c.args.to) back i.begun);
      size = i.size;
    }

pub returns-clause-begun : goal.returns-clause-begun
returns-clause-begun c = λ j u v low below of inside. c.loop-k.invariant.begun j u v (let over = c.loop-k-test.false in omega (arith, over, low)) below of inside
