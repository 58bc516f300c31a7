-- For every map text, scenario text, number of agents and limit that the readers accept, a plan printed with `cost C`
-- is valid with the sum of costs C, and no valid plan has a smaller one; 'impossible' is printed only where no valid
-- plan exists; the checker accepts the certificate printed with either; and whatever the checker accepts as optimal or
-- as impossible truly is so, whoever wrote it.
--
-- Where `within B C` is printed, the plan is valid with the sum of costs C, B is below C, no valid plan has a sum of
-- costs below B, and the checker accepts both texts with the same verdict. Where it is the verdict, whoever wrote the
-- texts, the plan is valid with the sum of costs C, B is below C, and no valid plan has a sum of costs below B.
--
-- Where a bound is printed or accepted, no valid plan has a smaller sum of costs, whoever wrote the texts; and the
-- checker accepts the certificate printed with a bound.
--
-- Beside a plan text for the problem with a valid plan, `impossible` or a bound, a certificate of any version is
-- accepted exactly if its bytes spell one for the problem's number of agents that shows its claim, and the claim fits
-- the answer of the plan text.
--
-- Devices of memory report their bytes to contracts. Opaque ones, such as files, don't. The checker accepts what
-- it has to accept within the sizes that it reads (docs/FORMATS.md, section 8), unless an input can't be read or memory
-- runs out. Of other runs that end with an error of memory, input or output nothing is said here.
use Rattle.std.specs.Prelude.{◌≡◌, ℕ, List, Option, Some, IfSome, IsSome, length}
use Rattle.mapf_app.specs.declared.kind.Kind.{Kind}
use Rattle.mapf_app.specs.declared.kind.Kind.TheVariants.{Found, Impossible, Limit, Within}
use Rattle.mapf_app.specs.Problems.{IsPosed, SpellsProblem}
use Rattle.mapf_app.specs.Solved.{Prints}
use Rattle.mapf_certificate.specs.Plans.{SpellsPlan}
use Rattle.mapf_certificate.specs.declared.version.Version.{Version}
use Rattle.mapf_certificate.specs.declared.plan_text.PlanAnswer.{PlanAnswer}
use Rattle.mapf_checker.specs.Verdict.{AreAccepted, IsTrueOf}
use Rattle.mapf_checker.specs.declared.fault.Verdict.{Verdict}
use Rattle.mapf_checker.specs.declared.fault.Verdict.TheVariants as verdicts
use Rattle.mapf_model.specs.Plan.{Instance}
use Rattle.mapf_words.specs.declared.job.Search.{Search}

-- what is printed for the problem that the map and the scenario spell: an optimal plan, or 'impossible' if no plan is
-- valid, or a bound such that no valid plan has a smaller sum of costs, beside a valid plan of a greater sum or beside
-- the cause that the text names (of plain search Policy.antt says that it is justified); each with a certificate with
-- which both texts are accepted, of the version in which the search writes whose answer it is
pub record PrintsTruly (map scen : Option (List ℕ)) (count : ℕ) (search : Search) (kind : Kind)
    (plan_bytes cert_bytes : List ℕ) : Type 0 where
  pub problem : Instance
  pub posed : IsPosed count problem
  pub read : SpellsProblem map scen count problem
  pub printed : Prints search problem kind plan_bytes cert_bytes

-- what a verdict on two texts says, whoever wrote them, for the problem that the map and the scenario spell: the plan
-- of the plan text is optimal with the verdict's sum; or it is valid with this sum, and every valid plan has at least
-- the verdict's smaller bound; or the text says that no plan is valid, and none is; or it says that a limit was reached
-- with the verdict's bound, and every valid plan has at least this sum. The texts are accepted for the problem with the
-- verdict
pub record JudgesTruly (map scen plan cert : Option (List ℕ)) (count : ℕ) (verdict : Verdict) : Type 0 where
  pub problem : Instance
  pub posed : IsPosed count problem
  pub read : SpellsProblem map scen count problem
  pub version : Version
  pub says : PlanAnswer
  pub spelled : IfSome plan (λ plan_text. SpellsPlan problem.grid plan_text version (length problem.agents) says)
  pub is_true : IsTrueOf problem says verdict
  pub accepted : IfSome plan (λ plan_text. IfSome cert (λ cert_text. AreAccepted problem plan_text cert_text verdict))

-- the verdict that has to be returned on texts, printed or not: the bytes of all inputs are known, and the texts are
-- accepted with the verdict for the problem that the map and the scenario spell
pub record IsDueVerdict (map scen plan cert : Option (List ℕ)) (count : ℕ) (verdict : Verdict) : Type 0 where
  pub map_told : IsSome map
  pub scen_told : IsSome scen
  pub problem : Instance
  pub read : SpellsProblem map scen count problem
  pub plan_text : List ℕ
  pub plan_told : plan ≡ Some plan_text
  pub cert_text : List ℕ
  pub cert_told : cert ≡ Some cert_text
  pub accepted : AreAccepted problem plan_text cert_text verdict

-- the verdict that belongs to an answer that was printed
abbrev pub IsVerdictFor : Kind → Verdict → Type 0
IsVerdictFor (Found cost) verdict = verdict ≡ verdicts.Optimal cost
IsVerdictFor Impossible verdict = verdict ≡ verdicts.Impossible
IsVerdictFor (Limit cause bound) verdict = verdict ≡ verdicts.Bound bound
IsVerdictFor (Within bound cost) verdict = verdict ≡ verdicts.Within bound cost

-- what is printed has to be accepted, by whoever checks it for the same map, scenario and number of agents
abbrev pub PrintedIsDue : Type 0
PrintedIsDue =
    (map scen plan cert : List ℕ) (count : ℕ) (search : Search) (kind : Kind) (verdict : Verdict) →
    PrintsTruly (Some map) (Some scen) count search kind plan cert → IsVerdictFor kind verdict →
    IsDueVerdict (Some map) (Some scen) (Some plan) (Some cert) count verdict
