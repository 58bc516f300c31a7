-- What a lemma of two agents by joint cells shows.
use native.Mathlib.Omega.{arith}
use Rattle.std.proofs.Common.{◌≡◌, ◌≢◌, Some, None, slice_get, refl, sym, ◌∙◌, subst}
use Rattle.mapf_lemmas.specs.JointCells.{IsClosed}
use Rattle.mapf_lemmas.specs.Prices.{no_list}
use Rattle.mapf_lemma_checker.specs.LemmaParts.{HasStatement, HasNoStatement, never_of, never_statement}
use Rattle.mapf_lemma_texts.specs.PartValues.{NeverValue}
use Rattle.mapf_model.specs.declared.problem.Agent.{Agent}
use Rattle.mapf_model.specs.Plan.{Instance}

-- a lemma of one agent twice shows nothing
pub never_same : (problem : Instance) (v : NeverValue) → v.i ≡ v.j → HasNoStatement problem no_list (never_of v) None
never_same problem v same lists known statement is_list shows = shows.differ same

-- the agents are these
one_agent : (x y : Agent) → Some x ≡ Some y → x ≡ y
one_agent x y p = grind (arith, p)

module _ (problem : Instance) (v : NeverValue) (a b : Agent) (first : slice_get problem.agents v.i ≡ Some a)
    (second : slice_get problem.agents v.j ≡ Some b) where
  -- closed joint cells show the statement
  pub never_has : v.i ≢ v.j → IsClosed problem.grid a b v.cells → HasStatement problem no_list (never_of v) None (never_statement v)
  never_has differ closed lists known is_list = record {
    a = a;
    b = b;
    differ = differ;
    is_first = first;
    is_second = second;
    closed = closed;
    is_statement = refl;
  }

  -- others show none
  pub never_has_none : (IsClosed problem.grid a b v.cells → ⊥) → HasNoStatement problem no_list (never_of v) None
  never_has_none unclosed lists known statement is_list shows =
      let p : shows.a ≡ a = one_agent shows.a a (sym shows.is_first ∙ first) in
      let q : shows.b ≡ b = one_agent shows.b b (sym shows.is_second ∙ second) in
      unclosed (subst (λ x. IsClosed problem.grid x b v.cells) p (subst (λ y. IsClosed problem.grid shows.a y v.cells) q shows.closed))
