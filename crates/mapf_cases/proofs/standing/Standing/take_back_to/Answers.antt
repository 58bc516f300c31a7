use Rattle.std.proofs.Common.{◌≡◌, length, ap, arith}
use Rattle.mapf_cases.proofs.StandingLemmas.{left_over}
use Rattle.mapf_cases.proofs.standing.Standing.take_back_to.Goals as goal

pub loop-self-preserved : goal.loop-self-preserved
loop-self-preserved c = record {
  taken = λ more rest before count.
      let (left, is) = c.loop-self.invariant.taken more rest before count in
      left_over left rest c.loop-self.self c.take_last.new.self c.args.count is count (omega (arith, c.count.ensures)) c.take_last.ensures.rest;
  kept = λ few.
      let same = ap length (c.loop-self.invariant.kept few) in
      absurd (omega (arith, c.count.ensures, same, few));
}
