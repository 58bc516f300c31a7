use Rattle.std.proofs.Common.{ℕ, List, refl, sym, subst}
use Rattle.mapf_app.specs.Headline.{IsVerdictFor}
use Rattle.mapf_app.specs.Solved.{Prints}
use Rattle.mapf_app.specs.declared.kind.Kind.{Kind}
use Rattle.mapf_app.specs.declared.kind.Kind.TheVariants.{Found, Impossible, Limit, Within}
use Rattle.mapf_checker.specs.Verdict.{AreAccepted}
use Rattle.mapf_checker.specs.declared.fault.Verdict.{Verdict}
use Rattle.mapf_model.specs.Plan.{Instance}
use Rattle.mapf_words.specs.declared.job.Search.{Search}
use Rattle.mapf_app.proofs.laws.printed_is_due.Goals as goal

accepted_as : (search : Search) (problem : Instance) (kind : Kind) (verdict : Verdict) (plan cert : List ℕ) → Prints search problem kind plan cert → IsVerdictFor kind verdict → AreAccepted problem plan cert verdict
accepted_as search problem (Found cost) verdict plan cert prints is = subst (AreAccepted problem plan cert) (sym is) prints.accepted
accepted_as search problem Impossible verdict plan cert prints is = subst (AreAccepted problem plan cert) (sym is) prints.accepted
accepted_as search problem (Limit cause bound) verdict plan cert prints is = subst (AreAccepted problem plan cert) (sym is) prints.accepted
accepted_as search problem (Within bound cost) verdict plan cert prints is = subst (AreAccepted problem plan cert) (sym is) prints.accepted

pub returns : goal.returns
returns c = λ map scen plan cert count search kind verdict truly is. record {
  map_told = refl;
  scen_told = refl;
  problem = truly.problem;
  read = truly.read;
  plan_text = plan;
  plan_told = refl;
  cert_text = cert;
  cert_told = refl;
  accepted = accepted_as search truly.problem kind verdict plan cert truly.printed is;
}
