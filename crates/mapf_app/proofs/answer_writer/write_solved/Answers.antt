use Rattle.std.proofs.Common.{◌≡◌, ℕ, List, true, false, length, map, refl, ap, ◌∙◌}
use Rattle.std.proofs.lemmas.List.{map-id}
use Rattle.std.specs.Result.{is_err}
use Rattle.mapf_model.specs.Grid.{GridMap}
use Rattle.mapf_model.specs.Plan.{Instance}
use Rattle.mapf_model.specs.Tree.{Node}
use Rattle.mapf_model.specs.declared.problem.Agent.{Agent}
use Rattle.mapf_certificate.specs.Certificates.{cert_text}
use Rattle.mapf_certificate.specs.Plans.{plan_text}
use Rattle.mapf_certificate.specs.declared.version.Version.TheVariants.{Two}
use Rattle.mapf_app.specs.Solved.{plan_bytes, cert_bytes}
use Rattle.mapf_app.specs.declared.solved.Solved.{Solved}
use Rattle.mapf_app.proofs.SolveLemmas.{text_written, text_front}
use Rattle.mapf_app.proofs.answer_writer.write_solved.Goals as goal

module _ (problem : Instance) (solved : Solved) (width : ℕ) (width_is : width ≡ problem.grid.width) where
  -- a writer of this width writes the plan text of what was found
  plan_same : plan_text width solved.text ≡ plan_bytes problem solved
  plan_same = ap (λ w. plan_text w solved.text) width_is

  -- and its certificate
  cert_same : (agents : List Agent) (nodes : List Node) → agents ≡ problem.agents → nodes ≡ solved.tree.items → cert_text Two width (length agents) solved.claim (map (λ (n : Node). n) nodes) ≡ cert_bytes problem solved
  cert_same agents nodes agents_are nodes_are =
      ap (cert_text Two width (length agents) solved.claim) (map-id nodes ∙ nodes_are)
      ∙ ap (λ w. cert_text Two w (length agents) solved.claim solved.tree.items) width_is
      ∙ ap (λ (who : List Agent). cert_text Two problem.grid.width (length who) solved.claim solved.tree.items) agents_are

pub returns-then-is_err-clause-texts : goal.returns-then-is_err-clause-texts
returns-then-is_err-clause-texts g c =
    let problem = c.args.problem.now in let solved = c.args.solved.now in
    let width = c.of-writer.ensures.width ∙ ap (λ (m : GridMap). m.width) c.grid.ensures in
    let failed : is_err c.plan.result ≡ true = cc in
    let front = text_front c.plan.result _ _ _ (plan_bytes problem solved) (plan_same problem solved _ width) failed c.plan.ensures.text in
    record {
      texts = tt;
      plan_front = λ is. (solved.kind, plan_bytes problem solved, cert_bytes problem solved, front.0, (refl, refl, refl), front.1);
      cert_front = λ is. cc;
    }

pub returns-then-is_err-2-clause-texts : goal.returns-then-is_err-2-clause-texts
returns-then-is_err-2-clause-texts g c =
    let problem = c.args.problem.now in let solved = c.args.solved.now in
    let width = c.of-writer.ensures.width ∙ ap (λ (m : GridMap). m.width) c.grid.ensures in
    let cert_is = cert_same problem solved _ (c.plan.ensures.width ∙ width) c.agents.result.now c.deref.result.now c.agents.ensures.value c.deref.ensures.value in
    let went : is_err c.plan.result ≡ false = cc in
    let failed : is_err c.tree-written.result ≡ true = cc in
    let front = text_front c.tree-written.result _ _ _ (cert_bytes problem solved) cert_is failed c.tree-written.ensures.text in
    let wrote = text_written c.plan.result _ _ _ (plan_bytes problem solved) (plan_same problem solved _ width) went c.plan.ensures.text in
    record {
      texts = tt;
      plan_front = λ is. cc;
      cert_front = λ is. (solved.kind, plan_bytes problem solved, cert_bytes problem solved, front.0, (refl, refl, refl), wrote, front.1);
    }

pub returns-clause-texts : goal.returns-clause-texts
returns-clause-texts g c =
    let problem = c.args.problem.now in let solved = c.args.solved.now in
    let width = c.of-writer.ensures.width ∙ ap (λ (m : GridMap). m.width) c.grid.ensures in
    let cert_is = cert_same problem solved _ (c.plan.ensures.width ∙ width) c.agents.result.now c.deref.result.now c.agents.ensures.value c.deref.ensures.value in
    let went : is_err c.plan.result ≡ false = cc in
    let went_too : is_err c.tree-written.result ≡ false = cc in
    let wrote = text_written c.plan.result _ _ _ (plan_bytes problem solved) (plan_same problem solved _ width) went c.plan.ensures.text in
    let wrote_too = text_written c.tree-written.result _ _ _ (cert_bytes problem solved) cert_is went_too c.tree-written.ensures.text in
    record {
      texts = (plan_bytes problem solved, cert_bytes problem solved, (refl, refl, refl), wrote, wrote_too);
      plan_front = λ is. cc;
      cert_front = λ is. cc;
    }
