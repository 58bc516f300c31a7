-- A plan with a defect is not valid.
use Rattle.std.proofs.Common.{◌≡◌, ℕ, ◌<◌, ◌+◌, List, Some, Result, Ok, Err, IsOk, IsErr, ◌↔◌, length, slice_get, sym, ◌∙◌, subst, inl, inr, ⊎_elim, arith}
use Rattle.std.proofs.lemmas.Bool.{cases_lt}
use Rattle.std.proofs.lemmas.Option.{same_Some, slice_get_within}
use Rattle.mapf_model.specs.declared.problem.Agent.{Agent}
use Rattle.mapf_model.specs.Conflicts.{HaveSomeConflict}
use Rattle.mapf_model.specs.Path.{IsLawful}
use Rattle.mapf_model.specs.Plan.{Instance, IsValid}
use Rattle.mapf_model.proofs.DecidedLemmas.{to_neighbours}
use Rattle.mapf_checker.specs.declared.lawful.PathFault.{PathFault}
use Rattle.mapf_checker.specs.declared.lawful.PathFault.TheVariants.{WrongStart, BadStep, WrongGoal}
use Rattle.mapf_checker.specs.declared.plan_fault.PlanFault.{PlanFault}
use Rattle.mapf_checker.specs.declared.plan_fault.PlanFault.TheVariants.{V1, V2, V3, V4, V5}
use Rattle.mapf_checker.specs.PathDefects.{HasPathDefect}
use Rattle.mapf_checker.specs.Defects.{HasDefect, AreLawful, path_fault_of}

module _ (problem : Instance) (plan : List (List ℕ)) where
  pub defect_refutes : (fault : PlanFault) → HasDefect problem plan fault → IsValid problem plan → ⊥
  defect_refutes (V1 i) (agent, path, is_agent, is_path, wrong) valid = wrong (valid.lawful i agent path is_agent is_path).start
  defect_refutes (V2 i tick) (agent, path, is_agent, is_path, bad) valid = bad.1 ((to_neighbours problem.grid path (valid.lawful i agent path is_agent is_path).is_path).neighbours tick bad.0)
  defect_refutes (V3 i) (agent, path, is_agent, is_path, wrong) valid = wrong (valid.lawful i agent path is_agent is_path).goal
  defect_refutes (V4 i j tick) (order, cell) valid = valid.apart i j tick cell.first cell.second (omega arith) cell.is_first cell.is_second (inl cell.same)
  defect_refutes (V5 i j tick) (order, cells) valid = valid.apart i j tick cells.first cells.second (omega arith) cells.is_first cells.is_second (inr (sym cells.back, sym cells.there))

  pub unlawful_defect : (i : ℕ) (agent : Agent) (path : List ℕ) (fault : PathFault) → slice_get problem.agents i ≡ Some agent → slice_get plan i ≡ Some path →
      HasPathDefect problem.grid agent path fault → HasDefect problem plan (path_fault_of i fault)
  unlawful_defect i agent path WrongStart is_agent is_path wrong = (agent, path, is_agent, is_path, wrong)
  unlawful_defect i agent path (BadStep tick) is_agent is_path wrong = (agent, path, is_agent, is_path, wrong)
  unlawful_defect i agent path WrongGoal is_agent is_path wrong = (agent, path, is_agent, is_path, wrong)

  -- one more lawful path
  pub lawful_more : (count : ℕ) (agent : Agent) (path : List ℕ) → AreLawful problem plan count → slice_get problem.agents count ≡ Some agent → slice_get plan count ≡ Some path →
      IsLawful problem.grid agent path → AreLawful problem plan (count + 1)
  lawful_more count agent path before is_agent is_path lawful i agent' path' within is_agent' is_path' = ⊎_elim
      (λ (less : i < count). before i agent' path' less is_agent' is_path')
      (λ past. let same : i ≡ count = omega arith in
      subst (λ p. IsLawful problem.grid agent' p) (same_Some path path' (sym is_path ∙ subst (λ k. slice_get plan k ≡ Some path') same is_path'))
      (subst (λ a. IsLawful problem.grid a path) (same_Some agent agent' (sym is_agent ∙ subst (λ k. slice_get problem.agents k ≡ Some agent') same is_agent')) lawful))
      (cases_lt i count)

  pub valid_of : length plan ≡ length problem.agents → AreLawful problem plan (length plan) → (HaveSomeConflict plan → ⊥) → IsValid problem plan
  valid_of count lawful apart = record {
    count = count;
    lawful = λ i agent path is_agent is_path. let within = slice_get_within plan i path is_path in lawful i agent path within is_agent is_path;
    apart = λ i j tick p q differ is_p is_q conflict. apart (i, j, tick, p, q, differ, is_p, is_q, conflict);
  }

-- if an error refutes the plan, Ok means that the plan is valid
pub no_answer : (problem : Instance) (plan : List (List ℕ)) (result : Result ℕ PlanFault) → IsErr result → (IsValid problem plan → ⊥) → IsOk result ↔ IsValid problem plan
no_answer problem plan (Ok sum) is_err refuted = absurd cc
no_answer problem plan (Err fault) is_err refuted = (λ is_ok. absurd cc, λ valid. absurd (refuted valid))
