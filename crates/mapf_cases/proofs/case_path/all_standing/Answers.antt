use Rattle.std.proofs.Common.{◌≡◌, ℕ, suc, ◌-◌, ◌∷◌, List, drop, ◌∙◌, ap, arith, drop-cons}
use Rattle.mapf_cases.specs.declared.addition.Addition.{Addition}
use Rattle.mapf_cases.specs.declared.addition.Addition.TheVariants.{One}
use Rattle.mapf_cases.proofs.case_path.all_standing.Goals as goal

pub loop-left-preserved : goal.loop-left-preserved
loop-left-preserved c =
    let constraints = c.args.constraints.now in
    let item = c.index-constraints-left.result in
    let before : ℕ = c.loop-left.left - 1 in
    let one : suc before ≡ c.loop-left.left = omega arith in
    let tail : drop (suc before) constraints ≡ drop c.loop-left.left constraints = ap (λ k. drop k constraints) one in
    let cut = drop-cons constraints before item (omega arith) in
    let whole : drop before constraints ≡ item ∷ drop c.loop-left.left constraints = cc (cut, tail, c.index-constraints-left.is) in
    record {
      within = omega arith;
      standing = rw whole (c.in_ok-add.ensures.added ∙ ap (λ (s : List Addition). One item ∷ s) c.loop-left.invariant.standing);
    }
