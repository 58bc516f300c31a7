use Rattle.std.proofs.Common.{codes, ◌++◌, ◌∷◌, [], append_assoc, ap, ◌∙◌, sym}
use Rattle.mapf_fields.specs.Numbers.{field}
use Rattle.mapf_certificate.specs.Plans.{plan_title}
use Rattle.mapf_certificate.specs.declared.version.Version.{Version}
use Rattle.mapf_certificate.proofs.plan_writer.push_head.Goals.{in-One, in-Two}
use Rattle.mapf_certificate.proofs.plan_writer.push_head.Goals as goal

pub returns : goal.returns
returns c =
    let line = codes "agents" ++ (field 32 c.args.agents ++ (10 ∷ [])) in
    let told = λ (v : Version). c.args.page.now ++ (plan_title v ++ (10 ∷ line)) in
    elim c.match-version.branch [
      | in-One w ↦ c.push_number_line.ensures.text ∙ ap (λ p. p ++ line) (w.page-is ∙ w.push_bytes.ensures) ∙ append_assoc c.args.page.now (codes "mapf-plan 1\n") line ∙ ap told (sym w.in-One.is)
      | in-Two w ↦ c.push_number_line.ensures.text ∙ ap (λ p. p ++ line) (w.page-is ∙ w.push_bytes-in-Two.ensures) ∙ append_assoc c.args.page.now (codes "mapf-plan 2\n") line ∙ ap told (sym w.in-Two.is)
    ]
