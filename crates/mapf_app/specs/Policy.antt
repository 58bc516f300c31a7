-- What plain conflict-based search promises of what it prints, besides that it is true. (Sharon et al. 2015: best
-- first; how ties of conflicts and of paths are broken, the blocks and the causes are own)
use Rattle.std.specs.Prelude.{ℕ, List, Option, length}
use Rattle.mapf_app.specs.declared.kind.Kind.{Kind}
use Rattle.mapf_app.specs.declared.kind.Kind.TheVariants.{Found, Impossible, Limit, Within}
use Rattle.mapf_app.specs.Headline.{PrintsTruly}
use Rattle.mapf_app.specs.Solved.{Prints, plan_bytes, cert_bytes}
use Rattle.mapf_app.specs.declared.solved.Solved.{Solved}
use Rattle.mapf_cbs.specs.Chosen.{IsChosen, IsLeastSum, IsOfALeaf, MayStop}
use Rattle.mapf_certificate.specs.Certificates.{SpellsCert}
use Rattle.mapf_certificate.specs.Plans.{SpellsPlan}
use Rattle.mapf_certificate.specs.declared.version.Version.TheVariants.{Two}
use Rattle.mapf_certificate.specs.declared.plan_text.PlanAnswer.TheVariants as answers
use Rattle.mapf_model.specs.declared.item.Claim.{Claim}
use Rattle.mapf_model.specs.declared.item.Claim.TheVariants as claims
use Rattle.mapf_model.specs.Plan.{Instance}
use Rattle.mapf_model.specs.Tree.{ConstraintTree}
use Rattle.mapf_words.specs.declared.job.Search.TheVariants.{Cbs}

-- the bytes spell a certificate of version 2 with the claim and with a tree as the search promises, of at most so many
-- splits
pub record SpellsChosenTree (problem : Instance) (limit : ℕ) (claim : Claim) (cert : List ℕ) : Type 0 where
  pub tree : ConstraintTree
  pub chosen : IsChosen problem limit tree
  pub spelled : SpellsCert problem.grid cert Two (length problem.agents) claim tree

-- the certificate has a tree as the search promises; a plan's paths are the first of the cheapest ones at a leaf; the
-- tree of a limit justifies stopping for its cause, its bound is the least sum of cheapest paths at any terminal node,
-- and it shows no greater one; plain search never answers with a plan that it doesn't show optimal
abbrev pub FollowsPolicy : Instance → ℕ → Kind → List ℕ → List ℕ → Type 0
FollowsPolicy problem limit (Found cost) plan cert =
    (searched : SpellsChosenTree problem limit (claims.Cost cost) cert) × (paths : List (List ℕ))
    × SpellsPlan problem.grid plan Two (length problem.agents) (answers.Found paths)
    × IsOfALeaf problem paths searched.tree
FollowsPolicy problem limit Impossible plan cert =
    SpellsChosenTree problem limit claims.Impossible cert
FollowsPolicy problem limit (Limit cause bound) plan cert =
    (searched : SpellsChosenTree problem limit (claims.Bound bound) cert)
    × IsLeastSum problem bound searched.tree × MayStop problem limit cause searched.tree
FollowsPolicy problem limit (Within bound cost) plan cert = ⊥

-- the two texts of a solved problem follow the search's policy
abbrev pub IsSolvedByPolicy : Instance → ℕ → Solved → Type 0
IsSolvedByPolicy problem limit solved =
    FollowsPolicy problem limit solved.kind (plan_bytes problem solved) (cert_bytes problem solved)

-- an answer of plain search and its two texts: they are true, and follow the search's policy
abbrev pub IsPlainAnswer : Instance → ℕ → Kind → List ℕ → List ℕ → Type 0
IsPlainAnswer problem limit kind plan cert =
    Prints Cbs problem kind plan cert × FollowsPolicy problem limit kind plan cert

-- what is printed for the problem that the map and the scenario spell is true, and follows the search's policy
pub record PrintsByPolicy (map scen : Option (List ℕ)) (count limit : ℕ) (kind : Kind) (plan cert : List ℕ)
    : Type 0 where
  pub truly : PrintsTruly map scen count Cbs kind plan cert
  pub policy : FollowsPolicy truly.problem limit kind plan cert
