-- What the two texts of a right answer are.
use Rattle.std.proofs.Common.{◌≡◌, ℕ, List, length, inl, refl, subst}
use Rattle.mapf_app.specs.Policy.{FollowsPolicy, SpellsChosenTree}
use Rattle.mapf_app.specs.Solved.{PrintsOptimal, PrintsImpossible, PrintsLimit}
use Rattle.mapf_app.specs.declared.kind.Kind.TheVariants as kinds
use Rattle.mapf_cbs.specs.Answer.{IsTreeOf, IsOptimalAnswer, IsImpossibleAnswer, IsLimitAnswer}
use Rattle.mapf_certificate.specs.Certificates.{SpellsCert, cert_text}
use Rattle.mapf_certificate.specs.Plans.{SpellsPlan}
use Rattle.mapf_certificate.specs.Lines.{IsAgentCount}
use Rattle.mapf_certificate.specs.declared.version.Version.TheVariants.{Two}
use Rattle.mapf_certificate.specs.declared.plan_text.PlanAnswer.TheVariants as answers
use Rattle.mapf_model.specs.Answers.{IsPrintable, IsShownOptimal, IsShownImpossible, IsShownBound}
use Rattle.mapf_model.specs.declared.item.Claim.{Claim}
use Rattle.mapf_model.specs.declared.cause.Cause.{Cause}
use Rattle.mapf_model.specs.declared.item.Claim.TheVariants.{Cost, Bound, Impossible}
use Rattle.mapf_model.specs.Laws.{SumsAreOne}
use Rattle.mapf_model.specs.Plan.{Instance, IsSumOfCosts}
use Rattle.mapf_model.specs.Printed.{IsClaimInRange}
use Rattle.mapf_model.specs.Tree.{ConstraintTree, Node}
use Rattle.mapf_words.specs.declared.job.Search.TheVariants.{Cbs}

-- the certificate of these nodes
abbrev pub text_of : Instance → Claim → List Node → List ℕ
text_of problem claim nodes = cert_text Two problem.grid.width (length problem.agents) claim nodes

-- the certificate of a tree that can be printed spells it
spells_cert : (problem : Instance) (claim : Claim) (nodes : List Node) (tree : ConstraintTree) → IsPrintable problem nodes tree → IsAgentCount (length problem.agents) → IsClaimInRange claim → SpellsCert problem.grid (text_of problem claim nodes) Two (length problem.agents) claim tree
spells_cert problem claim nodes tree printable count in_range = record {
  agents_in_range = count;
  claim_in_range = in_range;
  claim_of_version = tt;
  tree_in_range = printable.in_range;
  tree_of_version = tt;
  spelled = subst (λ listed. text_of problem claim nodes ≡ text_of problem claim listed) printable.spelled refl;
}

abbrev spells_chosen : (problem : Instance) (limit : ℕ) (claim : Claim) (nodes : List Node) (tree : ConstraintTree) → IsTreeOf problem limit nodes tree → IsAgentCount (length problem.agents) → IsClaimInRange claim → SpellsChosenTree problem limit claim (text_of problem claim nodes)
spells_chosen problem limit claim nodes tree of count in_range =
    record { tree = tree; chosen = of.chosen; spelled = spells_cert problem claim nodes tree of.printable count in_range }

-- a plan has the sum that its tree shows
module _ (problem : Instance) (plan : List (List ℕ)) (nodes : List Node) (law : SumsAreOne) (sum : ℕ) (adds_up : IsSumOfCosts problem.agents plan sum) (plan_text : List ℕ) (spells : SpellsPlan problem.grid plan_text Two (length problem.agents) (answers.Found plan)) where
  same_sum : (tree : ConstraintTree) (shown : IsShownOptimal problem plan tree) → shown.total ≡ sum
  same_sum tree shown = (law problem plan shown.optimal.valid).one shown.total sum shown.optimal.sum adds_up

  pub prints_optimal : (tree : ConstraintTree) → IsPrintable problem nodes tree → IsShownOptimal problem plan tree → PrintsOptimal Cbs problem sum plan_text (text_of problem (Cost sum) nodes)
  prints_optimal tree printable shown =
      let cert = spells_cert problem (Cost shown.total) nodes tree printable spells.in_range.0 shown.claim_in_range in
      subst (λ total. PrintsOptimal Cbs problem total plan_text (text_of problem (Cost total) nodes)) (same_sum tree shown) (record {
        paths = plan;
        spelled = spells;
        certified = (tree, cert);
        optimal = shown.optimal;
        accepted = record {
          answer = Cost shown.total;
          plan = record { version = Two; says = answers.Found plan; spelled = spells; good = (shown.optimal.valid, shown.optimal.sum) };
          claimed = Cost shown.total;
          fits = (refl, refl);
          cert = inl (refl, record { version = Two; tree = tree; spelled = cert; shows = shown.shows });
        };
      })

  pub policy_optimal : (limit : ℕ) → IsOptimalAnswer problem limit plan nodes → FollowsPolicy problem limit (kinds.Found sum) plan_text (text_of problem (Cost sum) nodes)
  policy_optimal limit (tree, of, shown, leaf) = subst (λ total. FollowsPolicy problem limit (kinds.Found total) plan_text (text_of problem (Cost total) nodes)) (same_sum tree shown)
      (spells_chosen problem limit (Cost shown.total) nodes tree of spells.in_range.0 shown.claim_in_range, plan, spells, leaf)

module _ (problem : Instance) (nodes : List Node) (plan_text : List ℕ) where
  module _ (spells : SpellsPlan problem.grid plan_text Two (length problem.agents) answers.Impossible) where
    pub prints_impossible : (tree : ConstraintTree) → IsPrintable problem nodes tree → IsShownImpossible problem tree → PrintsImpossible Cbs problem plan_text (text_of problem Impossible nodes)
    prints_impossible tree printable shown =
        let cert = spells_cert problem Impossible nodes tree printable spells.in_range.0 tt in
        record {
          spelled = spells;
          certified = (tree, cert);
          impossible = shown.impossible;
          accepted = record {
            answer = Impossible;
            plan = record { version = Two; says = answers.Impossible; spelled = spells; good = tt };
            claimed = Impossible;
            fits = tt;
            cert = inl (refl, record { version = Two; tree = tree; spelled = cert; shows = shown.shows });
          };
        }

    pub policy_impossible : (limit : ℕ) → IsImpossibleAnswer problem limit nodes → FollowsPolicy problem limit kinds.Impossible plan_text (text_of problem Impossible nodes)
    policy_impossible limit (tree, of, shown) = spells_chosen problem limit Impossible nodes tree of spells.in_range.0 tt

  module _ (cause : Cause) (bound : ℕ) (spells : SpellsPlan problem.grid plan_text Two (length problem.agents) (answers.Bounded cause bound)) where
    pub prints_limit : (tree : ConstraintTree) → IsPrintable problem nodes tree → IsShownBound problem bound tree → PrintsLimit Cbs problem cause bound plan_text (text_of problem (Bound bound) nodes)
    prints_limit tree printable shown =
        let cert = spells_cert problem (Bound bound) nodes tree printable spells.in_range.0 shown.claim_in_range in
        record {
          spelled = spells;
          certified = (tree, cert);
          holds = shown.holds;
          accepted = record {
            answer = Bound bound;
            plan = record { version = Two; says = answers.Bounded cause bound; spelled = spells; good = refl };
            claimed = Bound bound;
            fits = (refl, refl);
            cert = inl (refl, record { version = Two; tree = tree; spelled = cert; shows = shown.shows });
          };
        }

    pub policy_limit : (limit : ℕ) → IsLimitAnswer problem limit cause bound nodes → FollowsPolicy problem limit (kinds.Limit cause bound) plan_text (text_of problem (Bound bound) nodes)
    policy_limit limit (tree, of, shown, least, stops) = (spells_chosen problem limit (Bound bound) nodes tree of spells.in_range.0 shown.claim_in_range, least, stops)
