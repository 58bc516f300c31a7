use Rattle.std.proofs.Common.{◌≡◌, ◌+◌, ◌/◌, ◌<◌, slice_index_or, sym, subst, arith}
use Rattle.mapf_lemmas.specs.declared.joint.JointEntry.{JointEntry}
use Rattle.mapf_joint_labels.specs.JointOrder.{IsEarlierState}
use Rattle.std.proofs.lemmas.Bool.{iff_false}
use Rattle.mapf_joint_labels.proofs.OrderLemmas.{from_middle, before_middle}
use Rattle.mapf_joint_labels.proofs.order.place_in.Goals as goal
use Rattle.mapf_joint_labels.proofs.order.place_in.Goals.{then-not-is_earlier, else-not-is_earlier}

pub loop-size-preserved : goal.loop-size-preserved
loop-size-preserved c =
    let i = c.loop-size.invariant in
    let entries = c.args.entries.now in
    let run = c.args.run in
    let middle = c.loop-size.place + c.loop-size.size / 2 in
    let d = c.index-entries-place.result in
    let many = c.loop-size-test.true in
    let at : slice_index_or entries middle d ≡ d = sym c.index-entries-place.is in
    let to = i.high in
    let high : middle < run.end = omega (arith, to, many) in
    elim c.if-not-is_earlier.branch [
      | then-not-is_earlier w ↦
          rw w.place-is (record {
            high = omega (arith, to, many);
            within = i.within;
            positive = omega (arith, many);
            around = λ k is. let a = i.around k is in let b = from_middle entries run c.args.state.now c.args.tick k middle is high d (λ e. iff_false c.is_earlier.ensures w.if-not-is_earlier.true (subst (λ (x : JointEntry). IsEarlierState c.args.state.now c.args.tick x.state x.tick) at e)) in (b, omega (arith, a, b));
          })
      | else-not-is_earlier w ↦
          rw w.place-is (record {
            high = omega (arith, to, many);
            within = i.within;
            positive = omega (arith, many);
            around = λ k is. let a = i.around k is in let b = before_middle entries run c.args.state.now c.args.tick k middle is high d (subst (λ (x : JointEntry). IsEarlierState c.args.state.now c.args.tick x.state x.tick) (sym at) (c.is_earlier.ensures.0 w.if-not-is_earlier.false)) in (a.0, omega (arith, a, b, many));
          })
    ]

pub returns : goal.returns
returns c = λ k is.
    let a = c.loop-size.invariant.around k is in
    let one = c.loop-size-test.false in
    omega (arith, a, one)
