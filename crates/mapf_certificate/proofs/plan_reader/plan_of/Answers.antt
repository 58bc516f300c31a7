use Rattle.std.proofs.Common.{◌≡◌, ◌++◌, ◌+◌, ℕ, List, Ok, Err, All, codes, length, ap, sym, subst, ◌∙◌, inl, inr}
use Rattle.mapf_model.specs.Printed.{IsPathInRange}
use Rattle.mapf_certificate.specs.declared.sizes.Sizes.{Sizes}
use Rattle.mapf_certificate.specs.Lines.{grid_for}
use Rattle.mapf_certificate.specs.Plans.{paths_text, cost_of, ArePaths}
use Rattle.mapf_certificate.specs.PlanReading.{read_end}
use Rattle.mapf_certificate.proofs.PlanParts.{end_takes, end_again}
use Rattle.mapf_certificate.proofs.plan_reader.plan_of.Goals as goal

pub returns-in_err-end-clause-only : goal.returns-in_err-end-clause-only
returns-in_err-end-clause-only c plan whole all cost e = elim (c.in_ok-paths.ensures.only plan (codes "end\n") whole all e) [
  | inl (items, rest) ↦
      let n = 4 + c.args.sizes.now.agents in
      let good : read_end n c.in_ok-paths.rest.now ≡ Ok tt = ap (read_end n) rest ∙ end_again n in
      let bad : Err c.in_err-end.field-0.0 ≡ read_end n c.in_ok-paths.rest.now = c.in_err-end.ensures in
      cc
  | inr memory ↦ cc
]

concluded : (sizes : Sizes) (bytes rest : List ℕ) (paths plan : List (List ℕ)) (sum cost n : ℕ) (u : Unit {0}) → ArePaths (grid_for sizes) sizes.agents bytes paths sum rest → read_end n rest ≡ Ok u → plan ≡ paths → sum ≡ cost
    → (length plan ≡ sizes.agents) × All (IsPathInRange (grid_for sizes)) plan × (cost ≡ cost_of plan) × (bytes ≡ paths_text sizes.width 0 plan ++ codes "end\n")
concluded sizes bytes rest paths plan sum cost n u are ended same total =
    let P : List (List ℕ) → Type 0 = λ l. (length l ≡ sizes.agents) × All (IsPathInRange (grid_for sizes)) l × (cost ≡ cost_of l) × (bytes ≡ paths_text sizes.width 0 l ++ codes "end\n") in
    subst P (sym same) (are.count, are.in_range, sym total ∙ are.costs, are.spelled ∙ ap (λ r. paths_text sizes.width 0 paths ++ r) (end_takes n rest u ended))

pub returns-in-Some-clause-found : goal.returns-in-Some-clause-found
returns-in-Some-clause-found c =
    concluded c.args.sizes.now c.args.bytes.now c.in_ok-paths.rest.now c.in_ok-paths.paths.items c.in-Some.plan c.in_ok-paths.sum c.args.cost (4 + c.args.sizes.now.agents) c.in_ok-end.field-0
    c.in_ok-paths.ensures.found (sym c.in_ok-end.ensures) c.in-Some.ensures.value c.if-sum-cost.true
