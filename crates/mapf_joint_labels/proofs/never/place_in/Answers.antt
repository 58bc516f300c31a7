use Rattle.std.proofs.Common.{◌+◌, ◌/◌, ◌<◌, ◌≤◌, slice_index_or, arith}
use Rattle.std.proofs.lemmas.Bool.Decides.{nat_tests}
use Rattle.mapf_joint_labels.proofs.RunLemmas.{from_middle, before_middle}
use Rattle.mapf_joint_labels.proofs.never.place_in.Goals as goal
use Rattle.mapf_joint_labels.proofs.never.place_in.Goals.{then-le, else-le}

pub loop-size-preserved : goal.loop-size-preserved
loop-size-preserved c =
    let i = c.loop-size.invariant in
    let cells = c.args.cells.now in
    let run = c.args.run in
    let middle = c.loop-size.place + c.loop-size.size / 2 in
    let d = c.index-cells-place.result in
    let many = c.loop-size-test.true in
    let from = i.low in
    let to = i.high in
    let low : run.begin ≤ middle = omega (arith, from) in
    let high : middle < run.end = omega (arith, to, many) in
    elim c.if-le.branch [
      | then-le w ↦
          let least : (slice_index_or cells middle d).second ≤ c.args.second = let e = c.le.ensures in let t = w.if-le.true in grind (arith, nat_tests) in
          rw w.place-is (record {
            low = low;
            high = omega (arith, to, many);
            within = i.within;
            positive = omega (arith, many);
            around = λ k first is. let a = i.around k first is in let b = from_middle cells run k first c.args.second middle is low high d least in (b, omega (arith, a, b));
          })
      | else-le w ↦
          let more : c.args.second < (slice_index_or cells middle d).second = let e = c.le.ensures in let t = w.if-le.false in grind (arith, nat_tests) in
          rw w.place-is (record {
            low = from;
            high = omega (arith, to, many);
            within = i.within;
            positive = omega (arith, many);
            around = λ k first is. let a = i.around k first is in let b = before_middle cells run k first c.args.second middle is low high d more in (a.0, omega (arith, a, b, many));
          })
    ]

pub returns : goal.returns
returns c = λ k first is.
    let i = c.loop-size.invariant in
    let a = i.around k first is in
    let one = c.loop-size-test.false in
    omega (arith, a, one)
