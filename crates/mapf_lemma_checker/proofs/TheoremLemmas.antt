-- The parts of a certificate, judged one after another, show what they have to show exactly if the certificate shows its
-- claim.
use Rattle.std.proofs.Common.{◌≡◌, ◌↔◌, ℕ, zero, suc, List, [], ◌∷◌, ◌++◌, Some, None, All, length, map, take, slice_get, true, refl, sym, subst, append_assoc, arith}
use Rattle.std.specs.List.{flat_map}
use Rattle.std.specs.Prelude.{◌==◌}
use Rattle.std.proofs.lemmas.Bool.{eq-eqb}
use Rattle.std.proofs.lemmas.List.{append-nil}
use Rattle.std.proofs.lemmas.List.Elements.{All-head, All-tail, All-cons, All-nil}
use Rattle.std.proofs.lemmas.Option.{same_Some}
use Rattle.mapf_lemmas.specs.Cases.{CaseTree, TreeShows}
use Rattle.mapf_lemmas.specs.Lemmas.{Lemma, One, Two, NeverArrive, ByCases, LemmaShows, all_agents, scope_of, target_of}
use Rattle.mapf_lemmas.specs.Prices.{PriceList, IsPriceOn}
use Rattle.mapf_lemmas.specs.Statements.{Statement, constraints_of}
use Rattle.mapf_lemmas.specs.declared.constraint.PathConstraint.{PathConstraint}
use Rattle.mapf_lemma_checker.specs.States.{JudgeState, ShowsLemma, ShowParts, case_statement, with_cases, with_list}
use Rattle.mapf_lemma_checker.specs.Whole.{PartsShowCertificates}
use Rattle.mapf_lemma_checker.proofs.TreePartLemmas.{state_at, tree_with, tree_decides}
use Rattle.mapf_lemma_texts.specs.declared.part.Part.{Part}
use Rattle.mapf_lemma_texts.specs.declared.part.Part.TheVariants as parts
use Rattle.mapf_lemma_texts.specs.PartValues.{CasesValue}
use Rattle.mapf_lemma_texts.specs.WholeTexts.{constraint_of, lemma_parts, lemmas_parts, lists_parts, tree_parts}
use Rattle.mapf_model.specs.declared.label.Label.{Label}
use Rattle.mapf_model.specs.Plan.{Instance}

-- constraints of one agent are all of this agent
all_of_agent : (i : ℕ) (constraints : List PathConstraint) → constraints_of (map (constraint_of i) constraints) i ≡ constraints
all_of_agent i [] = refl
all_of_agent i (one ∷ constraints) =
    let same : (i == i) ≡ true = eq-eqb i i refl in
    rw (same, all_of_agent i constraints) refl

-- before a part that isn't of a tree
abbrev between : List PriceList → List Statement → JudgeState
between lists known = record { lists = lists; known = known; tree = None }

module _ (problem : Instance) (lists : List PriceList) where
  -- after known statements each lemma shows its statement, where those before it may be named
  record ShowAfter (known : List Statement) (lemmas : List Lemma) (statements : List Statement) : Type 0 where
    count : length statements ≡ length lemmas
    each : (n : ℕ) (lemma : Lemma) (statement : Statement) → slice_get lemmas n ≡ Some lemma →
        slice_get statements n ≡ Some statement → LemmaShows problem lists (known ++ take n statements) lemma statement

  -- the first lemma, and the others after its statement
  first_shows : (known : List Statement) (lemma : Lemma) (lemmas : List Lemma) (statement : Statement) (statements : List Statement) →
      ShowAfter known (lemma ∷ lemmas) (statement ∷ statements) →
      LemmaShows problem lists known lemma statement × ShowAfter (known ++ statement ∷ []) lemmas statements
  first_shows known lemma lemmas statement statements show = (
    subst (λ before. LemmaShows problem lists before lemma statement) (append-nil known) (show.each 0 lemma statement refl refl),
    record {
      count = omega (arith, show.count);
      each = λ n other its p q.
          subst (λ before. LemmaShows problem lists before other its) (sym (append_assoc known (statement ∷ []) (take n statements)))
          (show.each (suc n) other its p q);
    },
  )

  first_added : (known : List Statement) (lemma : Lemma) (lemmas : List Lemma) (statement : Statement) (statements : List Statement) →
      LemmaShows problem lists known lemma statement → ShowAfter (known ++ statement ∷ []) lemmas statements →
      ShowAfter known (lemma ∷ lemmas) (statement ∷ statements)
  first_added known lemma lemmas statement statements shows show = record { count = omega (arith, show.count); each = by }
    where
      by : (n : ℕ) (other : Lemma) (its : Statement) → slice_get (lemma ∷ lemmas) n ≡ Some other →
          slice_get (statement ∷ statements) n ≡ Some its → LemmaShows problem lists (known ++ take n (statement ∷ statements)) other its
      by zero other its p q =
          subst (λ before. LemmaShows problem lists before other its) (sym (append-nil known))
          (subst (λ l. LemmaShows problem lists known l its) (same_Some lemma other p)
          (subst (λ s. LemmaShows problem lists known lemma s) (same_Some statement its q) shows))
      by (suc n) other its p q =
          subst (λ before. LemmaShows problem lists before other its) (append_assoc known (statement ∷ []) (take n statements))
          (show.each n other its p q)

  module _ (target : Label) (last : JudgeState) where
    -- a lemma of one part and the parts after it
    part_decides : (known : List Statement) (lemma : Lemma) (rest : List Part) →
        ((next : JudgeState) × ShowsLemma problem (between lists known) lemma next × ShowParts problem target next rest last)
        ↔ ((statement : Statement) × LemmaShows problem lists known lemma statement
        × ShowParts problem target (between lists (known ++ statement ∷ [])) rest last)
    part_decides known lemma rest = (
      λ (next, (statement, shows, is), after). (statement, shows, subst (λ state. ShowParts problem target state rest last) is after),
      λ (statement, shows, after). (between lists (known ++ statement ∷ []), (statement, shows, refl), after),
    )

    -- the parts of a lemma and the parts after it
    lemma_decides : (known : List Statement) (lemma : Lemma) (rest : List Part) →
        ShowParts problem target (between lists known) (lemma_parts lemma ++ rest) last
        ↔ ((statement : Statement) × LemmaShows problem lists known lemma statement
        × ShowParts problem target (between lists (known ++ statement ∷ [])) rest last)
    lemma_decides known (One i constraints number entries) rest =
        subst (λ own. ShowParts problem target (between lists known) (lemma_parts (One i constraints number entries) ++ rest) last
        ↔ ((statement : Statement) × LemmaShows problem lists known (One i own number entries) statement
        × ShowParts problem target (between lists (known ++ statement ∷ [])) rest last)) (all_of_agent i constraints)
        (part_decides known (One i (constraints_of (map (constraint_of i) constraints) i) number entries) rest)
    lemma_decides known (Two i j constraints number first second joint) rest =
        part_decides known (Two i j constraints number first second joint) rest
    lemma_decides known (NeverArrive i j cells) rest = part_decides known (NeverArrive i j cells) rest
    lemma_decides known (ByCases agents constraints bound tree) rest =
        let head : CasesValue = record { agents = agents; constraints = constraints; bound = bound } in
        let root = constraints_of constraints in
        let statement : Statement = case_statement head in
        let decides = tree_decides lists known agents bound problem target (Some statement) last tree
        (Some (tree_with lists known agents bound (Some statement) (root ∷ []))) root [] rest refl in (
          λ (next, (are_agents, on_grid, is), after).
              let (shows, more) = decides.0 (subst (λ state. ShowParts problem target state (tree_parts tree ++ rest) last) is after) in
              (statement, record { are_agents = are_agents; on_grid = on_grid; shows = shows; is_statement = refl }, more),
          λ (its, shows, after).
              let more = subst (λ s. ShowParts problem target (between lists (known ++ s ∷ [])) rest last) shows.is_statement after in
              (with_cases (between lists known) head, (shows.are_agents, shows.on_grid, refl), decides.1 (shows.shows, more)),
        )

    -- the parts of lemmas and the parts after them
    lemmas_show : (known : List Statement) (lemmas : List Lemma) (rest : List Part) →
        ShowParts problem target (between lists known) (flat_map lemma_parts lemmas ++ rest) last →
        (statements : List Statement) × ShowAfter known lemmas statements
        × ShowParts problem target (between lists (known ++ statements)) rest last
    lemmas_show known [] rest after =
        ([], record { count = refl; each = λ n lemma statement p q. absurd cc }, subst (λ ss. ShowParts problem target (between lists ss) rest last) (sym (append-nil known)) after)
    lemmas_show known (lemma ∷ lemmas) rest after =
        let more = flat_map lemma_parts lemmas in
        let (statement, shows, tail) = (lemma_decides known lemma (more ++ rest)).0 (subst (λ ps. ShowParts problem target (between lists known) ps last) (append_assoc (lemma_parts lemma) more rest) after) in
        let (statements, show, end) = lemmas_show (known ++ statement ∷ []) lemmas rest tail in
        (statement ∷ statements, first_added known lemma lemmas statement statements shows show, subst (λ ss. ShowParts problem target (between lists ss) rest last) (append_assoc known (statement ∷ []) statements) end)

    lemmas_shown : (known : List Statement) (lemmas : List Lemma) (statements : List Statement) (rest : List Part) →
        ShowAfter known lemmas statements → ShowParts problem target (between lists (known ++ statements)) rest last →
        ShowParts problem target (between lists known) (flat_map lemma_parts lemmas ++ rest) last
    lemmas_shown known [] [] rest show after = subst (λ ss. ShowParts problem target (between lists ss) rest last) (append-nil known) after
    lemmas_shown known [] (statement ∷ statements) rest show after = absurd (omega (arith, show.count))
    lemmas_shown known (lemma ∷ lemmas) [] rest show after = absurd (omega (arith, show.count))
    lemmas_shown known (lemma ∷ lemmas) (statement ∷ statements) rest show after =
        let more = flat_map lemma_parts lemmas in
        let (shows, others) = first_shows known lemma lemmas statement statements show in
        let end = subst (λ ss. ShowParts problem target (between lists ss) rest last) (sym (append_assoc known (statement ∷ []) statements)) after in
        let tail = lemmas_shown (known ++ statement ∷ []) lemmas statements rest others end in
        subst (λ ps. ShowParts problem target (between lists known) ps last) (sym (append_assoc (lemma_parts lemma) more rest)) ((lemma_decides known lemma (more ++ rest)).1 (statement, shows, tail))

module _ (problem : Instance) (target : Label) where
  -- price lists and the parts after them
  lists_decide : (last : JudgeState) (before lists : List PriceList) (rest : List Part) →
      ShowParts problem target (between before []) (map parts.List lists ++ rest) last
      ↔ (All (λ list. All (IsPriceOn problem.grid) list.prices) lists × ShowParts problem target (between (before ++ lists) []) rest last)
  lists_decide last before [] rest = (
    λ after. (All-nil (λ (list : PriceList). All (IsPriceOn problem.grid) list.prices), subst (λ ls. ShowParts problem target (between ls []) rest last) (sym (append-nil before)) after),
    λ both. subst (λ ls. ShowParts problem target (between ls []) rest last) (append-nil before) both.1,
  )
  lists_decide last before (list ∷ lists) rest =
      let Proper : PriceList → Type 0 = λ one. All (IsPriceOn problem.grid) one.prices in
      let others = lists_decide last (before ++ list ∷ []) lists rest in
      let order : (before ++ list ∷ []) ++ lists ≡ before ++ list ∷ lists = append_assoc before (list ∷ []) lists in (
        λ (next, (proper, is), after).
            let (all, end) = others.0 (subst (λ state. ShowParts problem target state (map parts.List lists ++ rest) last) is after) in
            (All-cons Proper list lists proper all, subst (λ ls. ShowParts problem target (between ls []) rest last) order end),
        λ both.
            let end = subst (λ ls. ShowParts problem target (between ls []) rest last) (sym order) both.1 in
            (with_list (between before []) list, (All-head Proper list lists both.0, refl), others.1 (All-tail Proper list lists both.0, end)),
      )

  -- the last tree
  last_decides : (lists : List PriceList) (known : List Statement) (tree : CaseTree) (last : JudgeState) →
      ShowParts problem target (between lists known) (tree_parts tree) last
      ↔ (TreeShows (scope_of problem lists known (all_agents problem)) target (λ agent. []) tree
      × (last ≡ state_at lists known (all_agents problem) target [] None))
  last_decides lists known tree last =
      subst (λ ps. ShowParts problem target (between lists known) ps last
      ↔ (TreeShows (scope_of problem lists known (all_agents problem)) target (λ agent. []) tree
      × (last ≡ state_at lists known (all_agents problem) target [] None))) (append-nil (tree_parts tree))
      (tree_decides lists known (all_agents problem) target problem target None last tree None (λ agent. []) [] [] refl)

pub parts_show : PartsShowCertificates
parts_show problem lists lemmas tree claim =
    let target = target_of claim in
    let more = parts.Lemmas (length lemmas) ∷ lemmas_parts lemmas tree in (
      λ shows.
          let known = shows.statements in
          let last = state_at lists known (all_agents problem) target [] None in
          let end = (last_decides problem target lists known tree last).1 (shows.shows, refl) in
          let each : ShowAfter problem lists [] lemmas known = record { count = shows.each.count; each = shows.each.each } in
          let tail = lemmas_shown problem lists target last [] lemmas known (tree_parts tree) each end in
          (last, (between [] [], refl, (lists_decide problem target last [] lists more).1 (shows.proper_lists, (between lists [], refl, tail)))),
      λ (last, (first, is, rest)).
          let begun = subst (λ state. ShowParts problem target state (lists_parts lists lemmas tree) last) is rest in
          let (proper, (next, same, tail)) = (lists_decide problem target last [] lists more).0 begun in
          let listed = subst (λ state. ShowParts problem target state (lemmas_parts lemmas tree) last) same tail in
          let (known, each, end) = lemmas_show problem lists target last [] lemmas (tree_parts tree) listed in
          record {
            proper_lists = proper;
            statements = known;
            each = record { count = each.count; each = each.each };
            shows = ((last_decides problem target lists known tree last).0 end).0;
          },
    )
