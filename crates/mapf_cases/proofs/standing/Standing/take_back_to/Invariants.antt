use Rattle.std.proofs.Common.{◌≡◌, ◌≤◌, ◌++◌, List, length}
use Rattle.mapf_cases.specs.declared.addition.Addition.{Addition}
use Rattle.mapf_cases.proofs.standing.Standing.take_back_to.Given as goal

abbrev pub invariant-loop-self : goal.invariant-loop-self
invariant-loop-self l = record {
  taken : (more rest : List Addition) → l.fn.self ≡ more ++ rest → length rest ≡ l.count →
      (left : List Addition) × (l.self ≡ left ++ rest);
  kept : length l.fn.self ≤ l.count → l.self ≡ l.fn.self;
}

abbrev pub decreases-loop-self : goal.decreases-loop-self
decreases-loop-self l = length l.self
