-- How a judge learns the statement of a lemma.
use native.Mathlib.Omega.{arith}
use Rattle.std.proofs.Common.{◌≡◌, ◌∙◌, ◌++◌, ◌∷◌, [], ℕ, List, All, Option, None, option_map, sym, ap, subst}
use Rattle.std.proofs.lemmas.List.Elements.{All-push}
use Rattle.mapf_cases.specs.Ranges.{IsStatementInRange}
use Rattle.mapf_distance.specs.Tables.{AreMade}
use Rattle.mapf_lemmas.specs.declared.constraint.AgentConstraint.{AgentConstraint}
use Rattle.mapf_lemmas.specs.Lemmas.{Lemma}
use Rattle.mapf_lemmas.specs.Prices.{PriceList}
use Rattle.mapf_lemmas.specs.Statements.{Statement, IsListOf}
use Rattle.mapf_lemma_checker.specs.declared.label_judge.LabelJudge.{LabelJudge}
use Rattle.mapf_lemma_checker.specs.declared.lemma_judge.LemmaJudge.{LemmaJudge}
use Rattle.mapf_lemma_checker.specs.declared.tree_judge.OpenTree.{OpenTree}
use Rattle.mapf_lemma_checker.specs.Judges.{IsReady, state_of, tree_state}
use Rattle.mapf_lemma_checker.specs.LemmaParts.{HasStatement, HasNoStatement, IsSmallBound, one_statement, two_statement, never_statement}
use Rattle.mapf_lemma_checker.specs.States.{JudgeState, ShowsLemma, with_statement}
use Rattle.mapf_lemma_texts.specs.PartValues.{OneValue, TwoValue, NeverValue}
use Rattle.mapf_model.specs.declared.label.Label.{Label}
use Rattle.mapf_model.specs.declared.label.Label.TheVariants.{Never}
use Rattle.mapf_model.specs.Plan.{Instance}

module _ (problem : Instance) (state : JudgeState) (lemma : Lemma) (number : Option ℕ) (list : PriceList)
    (is : IsListOf state.lists number list) where
  -- a lemma shows the statement that it has
  pub lemma_shows : (statement : Statement) (next : JudgeState) → HasStatement problem list lemma number statement →
      next ≡ with_statement state statement → ShowsLemma problem state lemma next
  lemma_shows statement next has same = (statement, has state.lists state.known is, same)

  -- and nothing if it has none
  pub lemma_shows_none : HasNoStatement problem list lemma number → (next : JudgeState) →
      ShowsLemma problem state lemma next → ⊥
  lemma_shows_none none next shows = none state.lists state.known shows.0 is shows.1

module _ (problem : Instance) (judge next : LemmaJudge) (labels : LabelJudge) (statement : Statement)
    (same : next ≡ record judge { labels = labels; known = next.known })
    (known : next.known.items ≡ judge.known.items ++ statement ∷ []) where
  -- a judge that knows the statement is ready for the next part
  pub lemma_ready : IsReady problem judge → AreMade problem labels.tables → IsStatementInRange statement →
      IsReady problem next
  lemma_ready ready made in_range =
      subst (IsReady problem) (sym same) (record {
        few = ready.few;
        tables = made;
        distances = ready.distances;
        statements = subst (All IsStatementInRange) (sym known)
            (All-push IsStatementInRange judge.known.items statement ready.statements in_range);
        work = ready.work;
        agents_in = ready.agents_in;
        opened = ready.opened;
        shown = ready.shown;
      })

  -- and this is its state if no tree was judged
  pub lemma_state : judge.tree ≡ None → state_of next ≡ with_statement (state_of judge) statement
  lemma_state none =
      ap state_of same
      ∙ (ap (λ (statements : List Statement). record { lists = judge.lists; known = statements; tree = option_map (tree_state judge.case) judge.tree }) known
      ∙ ap (λ (t : Option OpenTree). record { lists = judge.lists; known = judge.known.items ++ statement ∷ []; tree = option_map (tree_state judge.case) t }) none)

-- the statement that is made for a lemma of one agent, of which the parts were looked up
pub one_made : (agents : List ℕ) (parts v : OneValue) (least : Label) → agents ≡ parts.agent ∷ [] → parts ≡ v →
    record { agents = agents; constraints = parts.constraints; list_number = parts.list_number; bound = least }
    ≡ one_statement v least
one_made agents parts v least listed is =
    ap (λ (xs : List ℕ). record { agents = xs; constraints = parts.constraints; list_number = parts.list_number; bound = least }) listed
    ∙ ap (λ (w : OneValue). one_statement w least) is

-- that for a lemma of two agents by labels
pub two_made : (agents : List ℕ) (parts v : TwoValue) (least : Label) → agents ≡ parts.i ∷ parts.j ∷ [] → parts ≡ v →
    record { agents = agents; constraints = parts.constraints; list_number = parts.list_number; bound = least }
    ≡ two_statement v least
two_made agents parts v least listed is =
    ap (λ (xs : List ℕ). record { agents = xs; constraints = parts.constraints; list_number = parts.list_number; bound = least }) listed
    ∙ ap (λ (w : TwoValue). two_statement w least) is

-- and it is in range
pub two_in_range : (v : TwoValue) (least : Label) → IsSmallBound v.list_number least → IsStatementInRange (two_statement v least)
two_in_range v least small = record {
  some = omega arith;
  few = omega arith;
  small = small;
}

-- that for a lemma of two agents by joint cells
pub never_made : (agents : List ℕ) (constraints : List AgentConstraint) (least : Label) (parts v : NeverValue) →
    agents ≡ parts.i ∷ parts.j ∷ [] → constraints ≡ [] → least ≡ Never → parts ≡ v →
    record { agents = agents; constraints = constraints; list_number = None; bound = least } ≡ never_statement v
never_made agents constraints least parts v listed none infinite is =
    ap (λ (xs : List ℕ). record { agents = xs; constraints = constraints; list_number = None; bound = least }) listed
    ∙ (ap (λ (cs : List AgentConstraint). record { agents = parts.i ∷ parts.j ∷ []; constraints = cs; list_number = None; bound = least }) none
    ∙ (ap (λ (bound : Label). record { agents = parts.i ∷ parts.j ∷ []; constraints = []; list_number = None; bound = bound }) infinite
    ∙ ap (λ (w : NeverValue). never_statement w) is))
