-- The judge's state where a part is due, and after that part.
use Rattle.std.proofs.Common.{◌≡◌, ℕ, ◌≤◌, ◌+◌, ◌-◌, ◌==◌, List, [], ◌∷◌, ◌++◌, length, Option, Some, None, IsSome, IsSomeAnd, Bool, true, false, if◌then◌else◌, refl, sym, ap, subst, ◌∙◌, arith}
use Rattle.std.proofs.lemmas.Bool.{ne_eqb}
use Rattle.std.proofs.lemmas.List.{length_push}
use Rattle.mapf_cases.specs.Nodes.{CaseNode, BranchNode, LeafNode, ClashNode, Context, contexts_after}
use Rattle.mapf_lemmas.specs.Groups.{LeafUses}
use Rattle.mapf_lemmas.specs.Laws.{StatementIsUnique}
use Rattle.mapf_lemmas.specs.Lemmas.{Lemma}
use Rattle.mapf_lemmas.specs.Statements.{Statement}
use Rattle.mapf_lemmas.specs.declared.split.Split.{Split}
use Rattle.mapf_lemmas.specs.declared.split.Split.TheVariants as splits
use Rattle.mapf_lemma_checker.specs.CertJudging.{HasCasesPending, HasLastPending, IsStateAt}
use Rattle.mapf_lemma_checker.specs.LemmaParts.{AreSizesOf, IsPartOf, one_of, two_of, never_of}
use Rattle.mapf_lemma_checker.specs.States.{IsPlaceFor, JudgeState, ShowsLemma, ShowsNextNode, ShowsNode, ShowsPart, TreeState, tree_in, with_statement, with_tree}
use Rattle.mapf_lemma_texts.specs.declared.due.Due.{Due}
use Rattle.mapf_lemma_texts.specs.declared.due.Due.TheVariants as dues
use Rattle.mapf_lemma_texts.specs.declared.part.Part.{Part}
use Rattle.mapf_lemma_texts.specs.declared.part.Part.TheVariants as parts
use Rattle.mapf_lemma_texts.specs.declared.sizes.LineSizes.{LineSizes}
use Rattle.mapf_lemma_texts.specs.Due.{Admits, cases_due, due_after, lemmas_due, lists_after}
use Rattle.mapf_lemma_texts.specs.Parts.{IsPart, first_line}
use Rattle.mapf_model.specs.declared.label.Label.{Label}
use Rattle.mapf_model.specs.Plan.{Instance}

module _ (problem : Instance) (target : Label) where
  -- no tree is judged, so a lemma or the last tree comes
  lemmas_state : (lists left : ℕ) (state : JudgeState) → state.tree ≡ None → length state.lists ≡ lists → IsStateAt problem target lists (lemmas_due left) state
  lemmas_state lists left state none count = by (left == 0)
    where
      by : (b : Bool) → IsStateAt problem target lists (if b then dues.Tree 1 else dues.Lemmas left) state
      by true = (subst (λ (t : Option TreeState). ((tree_in problem target t).case ≡ None) × (length (tree_in problem target t).pending ≡ 1)) (sym none) (refl, refl), count)
      by false = (none, count)

  -- after a node of a lemma by cases
  cases_state : (lists left : ℕ) (state : JudgeState) (tree : TreeState) (statement : Statement) (pending : List Context) → length state.lists ≡ lists →
      IsStateAt problem target lists (cases_due (length pending) left) (with_tree state (Some statement) tree pending)
  cases_state lists left state tree statement [] count = lemmas_state lists left (with_statement state statement) refl count
  cases_state lists left state tree statement (here ∷ more) count =
      let many : (length (here ∷ more) == 0) ≡ false = ne_eqb (length (here ∷ more)) 0 (λ e. omega (arith, e)) in
      let due : cases_due (length (here ∷ more)) left ≡ dues.Cases (length (here ∷ more)) left = ap (λ (b : Bool). if b then lemmas_due left else dues.Cases (length (here ∷ more)) left) many in
      subst (λ (d : Due). IsStateAt problem target lists d (with_tree state (Some statement) tree (here ∷ more))) (sym due) ((refl, refl), count)

  -- so many subtrees are to come after a node
  abbrev Counts : CaseNode → ℕ → ℕ → Type 0
  Counts node pending after = (here : Context) (more : List Context) → length (here ∷ more) ≡ pending → length (contexts_after problem (here ∷ more) node) ≡ after

  counts_branch : (split : Split) (pending : ℕ) → Counts (BranchNode split) pending (pending + 1)
  counts_branch split pending here more many = omega (arith, many)

  counts_leaf : (uses : LeafUses) (pending : ℕ) → Counts (LeafNode uses) pending (pending - 1)
  counts_leaf uses pending here more many = omega (arith, many)

  counts_clash : (i j pending : ℕ) → Counts (ClashNode i j) pending (pending - 1)
  counts_clash i j pending here more many = omega (arith, many)

  cases_after : (lists pending after left : ℕ) (state next : JudgeState) (node : CaseNode) → Counts node pending after → HasCasesPending state pending → length state.lists ≡ lists →
      ShowsNextNode problem target state node next → IsStateAt problem target lists (cases_due after left) next
  cases_after lists pending after left state next node counts has count shows = in_tree state.tree has shows
    where
      on_case : (statement : Option Statement) (tree : TreeState) (contexts : List Context) → IsSome statement → length contexts ≡ after → next ≡ with_tree state statement tree contexts → IsStateAt problem target lists (cases_due after left) next
      on_case None tree contexts some many is = absurd cc
      on_case (Some statement) tree contexts some many is =
          subst (λ (s : JudgeState). IsStateAt problem target lists (cases_due after left) s) (sym is)
          (subst (λ (n : ℕ). IsStateAt problem target lists (cases_due n left) (with_tree state (Some statement) tree contexts)) many (cases_state lists left state tree statement contexts count))

      in_pending : (tree : TreeState) (those : List Context) → IsSome tree.case → length those ≡ pending → ShowsNode problem state tree those node next → IsStateAt problem target lists (cases_due after left) next
      in_pending tree [] some many shown = absurd shown
      in_pending tree (here ∷ more) some many shown = on_case tree.case tree (contexts_after problem (here ∷ more) node) some (counts here more many) shown.1

      in_tree : (tree : Option TreeState) → IsSomeAnd tree (λ t. IsSome t.case × (length t.pending ≡ pending)) → ShowsNode problem state (tree_in problem target tree) (tree_in problem target tree).pending node next →
          IsStateAt problem target lists (cases_due after left) next
      in_tree None has shown = absurd has
      in_tree (Some tree) has shown = in_pending tree tree.pending has.0 has.1 shown

  last_after : (lists pending after : ℕ) (state next : JudgeState) (node : CaseNode) → Counts node pending after → HasLastPending problem target state pending → length state.lists ≡ lists →
      ShowsNextNode problem target state node next → IsStateAt problem target lists (dues.Tree after) next
  last_after lists pending after state next node counts has count shows =
      let tree = tree_in problem target state.tree in
      in_pending tree tree.pending has.0 has.1 shows
    where
      in_pending : (tree : TreeState) (those : List Context) → tree.case ≡ None → length those ≡ pending → ShowsNode problem state tree those node next → IsStateAt problem target lists (dues.Tree after) next
      in_pending tree [] none many shown = absurd shown
      in_pending tree (here ∷ more) none many shown =
          let contexts = contexts_after problem (here ∷ more) node in
          let is : next ≡ with_tree state None tree contexts = shown.1 ∙ ap (λ (c : Option Statement). with_tree state c tree contexts) none in
          subst (λ (s : JudgeState). IsStateAt problem target lists (dues.Tree after) s) (sym is) ((refl, counts here more many), count)

  -- after a lemma that isn't by cases
  lemma_after : (lists left : ℕ) (state next : JudgeState) (lemma : Lemma) → length state.lists ≡ lists → ShowsLemma problem state lemma next → IsStateAt problem target lists (lemmas_due left) next
  lemma_after lists left state next lemma count (statement, shows, is) =
      subst (λ (s : JudgeState). IsStateAt problem target lists (lemmas_due left) s) (sym is) (lemmas_state lists left (with_statement state statement) refl count)

  -- after a part, in its place, the next part is due
  pub state_after : (lists : ℕ) (due : Due) (part : Part) (state next : JudgeState) → IsStateAt problem target lists due state → Admits due (first_line part) → ShowsPart problem target state part next →
      IsStateAt problem target (lists_after lists part) (due_after due part) next
  state_after lists dues.Prices (parts.Prices count) state next at place is =
      subst (λ (s : JudgeState). (s.tree ≡ None) × (length s.lists + count ≡ count)) (sym is) (at.0, omega (arith, at.1))
  state_after lists dues.Prices _ state next at place shows = absurd place
  state_after lists (dues.Lists left) (parts.List list) state next at place shows =
      subst (λ (s : JudgeState). (s.tree ≡ None) × (length s.lists + (left - 1) ≡ lists)) (sym shows.1) (at.0, omega (arith, at.1, place, length_push state.lists list))
  state_after lists (dues.Lists left) (parts.Lemmas count) state next at place is =
      subst (λ (s : JudgeState). IsStateAt problem target lists (lemmas_due count) s) (sym is) (lemmas_state lists count state at.0 (omega (arith, at.1, place)))
  state_after lists (dues.Lists left) _ state next at place shows = absurd place
  state_after lists (dues.Lemmas left) (parts.One lemma) state next at place shows = lemma_after lists (left - 1) state next (one_of lemma) at.1 shows
  state_after lists (dues.Lemmas left) (parts.Two lemma) state next at place shows = lemma_after lists (left - 1) state next (two_of lemma) at.1 shows
  state_after lists (dues.Lemmas left) (parts.Never lemma) state next at place shows = lemma_after lists (left - 1) state next (never_of lemma) at.1 shows
  state_after lists (dues.Lemmas left) (parts.Cases head) state next at place shows =
      subst (λ (s : JudgeState). IsStateAt problem target lists (dues.Cases 1 (left - 1)) s) (sym shows.2) ((refl, refl), at.1)
  state_after lists (dues.Lemmas left) _ state next at place shows = absurd place.1
  state_after lists (dues.Cases pending left) (parts.Vertex i j cell tick) state next at place shows =
      let split = splits.Vertex i j cell tick in cases_after lists pending (pending + 1) left state next (BranchNode split) (counts_branch split pending) at.0 at.1 shows
  state_after lists (dues.Cases pending left) (parts.Swap i j from to tick) state next at place shows =
      let split = splits.Swap i j from to tick in cases_after lists pending (pending + 1) left state next (BranchNode split) (counts_branch split pending) at.0 at.1 shows
  state_after lists (dues.Cases pending left) (parts.Cost i ticks) state next at place shows =
      let split = splits.Cost i ticks in cases_after lists pending (pending + 1) left state next (BranchNode split) (counts_branch split pending) at.0 at.1 shows
  state_after lists (dues.Cases pending left) (parts.Costs i ticks j least lemma) state next at place shows =
      let split = splits.Costs i ticks j least lemma in cases_after lists pending (pending + 1) left state next (BranchNode split) (counts_branch split pending) at.0 at.1 shows
  state_after lists (dues.Cases pending left) (parts.Leaf uses) state next at place shows =
      cases_after lists pending (pending - 1) left state next (LeafNode uses) (counts_leaf uses pending) at.0 at.1 shows
  state_after lists (dues.Cases pending left) (parts.Clash i j) state next at place shows =
      cases_after lists pending (pending - 1) left state next (ClashNode i j) (counts_clash i j pending) at.0 at.1 shows
  state_after lists (dues.Cases pending left) _ state next at place shows = absurd place.1
  state_after lists (dues.Tree pending) (parts.Vertex i j cell tick) state next at place shows =
      let split = splits.Vertex i j cell tick in last_after lists pending (pending + 1) state next (BranchNode split) (counts_branch split pending) at.0 at.1 shows
  state_after lists (dues.Tree pending) (parts.Swap i j from to tick) state next at place shows =
      let split = splits.Swap i j from to tick in last_after lists pending (pending + 1) state next (BranchNode split) (counts_branch split pending) at.0 at.1 shows
  state_after lists (dues.Tree pending) (parts.Cost i ticks) state next at place shows =
      let split = splits.Cost i ticks in last_after lists pending (pending + 1) state next (BranchNode split) (counts_branch split pending) at.0 at.1 shows
  state_after lists (dues.Tree pending) (parts.Costs i ticks j least lemma) state next at place shows =
      let split = splits.Costs i ticks j least lemma in last_after lists pending (pending + 1) state next (BranchNode split) (counts_branch split pending) at.0 at.1 shows
  state_after lists (dues.Tree pending) (parts.Leaf uses) state next at place shows =
      last_after lists pending (pending - 1) state next (LeafNode uses) (counts_leaf uses pending) at.0 at.1 shows
  state_after lists (dues.Tree pending) (parts.Clash i j) state next at place shows =
      last_after lists pending (pending - 1) state next (ClashNode i j) (counts_clash i j pending) at.0 at.1 shows
  state_after lists (dues.Tree pending) _ state next at place shows = absurd place.1

  -- nodes are still to come where a node is due
  cases_left : (tree : Option TreeState) (pending : ℕ) → IsSomeAnd tree (λ t. IsSome t.case × (length t.pending ≡ pending)) → 1 ≤ pending → (tree_in problem target tree).pending ≡ [] → ⊥
  cases_left None pending has some none = absurd has
  cases_left (Some tree) pending has some none = omega (arith, has.1, some, ap length none)

  -- a part that is due has its place
  pub place_for : (lists : ℕ) (due : Due) (part : Part) (state : JudgeState) → IsStateAt problem target lists due state → Admits due (first_line part) → IsPlaceFor problem target state part
  place_for lists dues.Prices (parts.Prices count) state at place = tt
  place_for lists dues.Prices _ state at place = absurd place
  place_for lists (dues.Lists left) (parts.List list) state at place = tt
  place_for lists (dues.Lists left) (parts.Lemmas count) state at place = tt
  place_for lists (dues.Lists left) _ state at place = absurd place
  place_for lists (dues.Lemmas left) (parts.One lemma) state at place = at.0
  place_for lists (dues.Lemmas left) (parts.Two lemma) state at place = at.0
  place_for lists (dues.Lemmas left) (parts.Never lemma) state at place = at.0
  place_for lists (dues.Lemmas left) (parts.Cases head) state at place = at.0
  place_for lists (dues.Lemmas left) _ state at place = absurd place.1
  place_for lists (dues.Cases pending left) (parts.Vertex i j cell tick) state at place = cases_left state.tree pending at.0 place.0
  place_for lists (dues.Cases pending left) (parts.Swap i j from to tick) state at place = cases_left state.tree pending at.0 place.0
  place_for lists (dues.Cases pending left) (parts.Cost i ticks) state at place = cases_left state.tree pending at.0 place.0
  place_for lists (dues.Cases pending left) (parts.Costs i ticks j least lemma) state at place = cases_left state.tree pending at.0 place.0
  place_for lists (dues.Cases pending left) (parts.Leaf uses) state at place = cases_left state.tree pending at.0 place.0
  place_for lists (dues.Cases pending left) (parts.Clash i j) state at place = cases_left state.tree pending at.0 place.0
  place_for lists (dues.Cases pending left) _ state at place = absurd place.1
  place_for lists (dues.Tree pending) (parts.Vertex i j cell tick) state at place = λ none. omega (arith, at.0.1, place.0, ap length none)
  place_for lists (dues.Tree pending) (parts.Swap i j from to tick) state at place = λ none. omega (arith, at.0.1, place.0, ap length none)
  place_for lists (dues.Tree pending) (parts.Cost i ticks) state at place = λ none. omega (arith, at.0.1, place.0, ap length none)
  place_for lists (dues.Tree pending) (parts.Costs i ticks j least lemma) state at place = λ none. omega (arith, at.0.1, place.0, ap length none)
  place_for lists (dues.Tree pending) (parts.Leaf uses) state at place = λ none. omega (arith, at.0.1, place.0, ap length none)
  place_for lists (dues.Tree pending) (parts.Clash i j) state at place = λ none. omega (arith, at.0.1, place.0, ap length none)
  place_for lists (dues.Tree pending) _ state at place = absurd place.1

  -- a part that is due is one of a certificate with the lists that were read
  pub part_of : (sizes : LineSizes) (due : Due) (part : Part) (state : JudgeState) → AreSizesOf problem sizes → IsPart sizes part → IsStateAt problem target sizes.lists due state → Admits due (first_line part) →
      IsPartOf problem (length state.lists) part
  part_of sizes dues.Prices part state of_problem is at place = record { sizes = sizes; of_problem = of_problem; lists_are = at.2 ∙ sym at.1; in_range = is }
  part_of sizes (dues.Lists left) (parts.List list) state of_problem is at place =
      let read : LineSizes = record {
        width = sizes.width;
        height = sizes.height;
        agents = sizes.agents;
        lists = length state.lists;
        narrow = sizes.narrow;
        low = sizes.low;
        few = sizes.few;
        listed = omega (arith, at.1, sizes.listed);
      } in
      record {
        sizes = read;
        of_problem = record { width_is = of_problem.width_is; height_is = of_problem.height_is; agents_are = of_problem.agents_are };
        lists_are = refl;
        in_range = (is.0, record { each = is.1.each; rising = is.1.rising });
      }
  part_of sizes (dues.Lists left) (parts.Lemmas count) state of_problem is at place = record { sizes = sizes; of_problem = of_problem; lists_are = omega (arith, at.1, place); in_range = is }
  part_of sizes (dues.Lists left) _ state of_problem is at place = absurd place
  part_of sizes (dues.Lemmas left) part state of_problem is at place = record { sizes = sizes; of_problem = of_problem; lists_are = sym at.1; in_range = is }
  part_of sizes (dues.Cases pending left) part state of_problem is at place = record { sizes = sizes; of_problem = of_problem; lists_are = sym at.1; in_range = is }
  part_of sizes (dues.Tree pending) part state of_problem is at place = record { sizes = sizes; of_problem = of_problem; lists_are = sym at.1; in_range = is }

  -- the state after a lemma is determined
  one_lemma : StatementIsUnique → (state one other : JudgeState) (lemma : Lemma) → ShowsLemma problem state lemma one → ShowsLemma problem state lemma other → one ≡ other
  one_lemma unique state one other lemma (a, shows_a, is_a) (b, shows_b, is_b) =
      is_a ∙ ap (with_statement state) (unique problem state.lists state.known lemma a b shows_a shows_b) ∙ sym is_b

  -- so is the state after a node
  one_node : (state one other : JudgeState) (node : CaseNode) → ShowsNextNode problem target state node one → ShowsNextNode problem target state node other → one ≡ other
  one_node state one other node shows also = by (tree_in problem target state.tree).pending shows also
    where
      by : (pending : List Context) → ShowsNode problem state (tree_in problem target state.tree) pending node one → ShowsNode problem state (tree_in problem target state.tree) pending node other → one ≡ other
      by [] shown again = absurd shown
      by (here ∷ more) shown again = shown.1 ∙ sym again.1

  -- and that after any part
  pub one_state : StatementIsUnique → (part : Part) (state one other : JudgeState) → ShowsPart problem target state part one → ShowsPart problem target state part other → one ≡ other
  one_state unique (parts.Prices count) state one other shows also = shows ∙ sym also
  one_state unique (parts.List list) state one other shows also = shows.1 ∙ sym also.1
  one_state unique (parts.Lemmas count) state one other shows also = shows ∙ sym also
  one_state unique (parts.One lemma) state one other shows also = one_lemma unique state one other (one_of lemma) shows also
  one_state unique (parts.Two lemma) state one other shows also = one_lemma unique state one other (two_of lemma) shows also
  one_state unique (parts.Never lemma) state one other shows also = one_lemma unique state one other (never_of lemma) shows also
  one_state unique (parts.Cases head) state one other shows also = shows.2 ∙ sym also.2
  one_state unique (parts.Vertex i j cell tick) state one other shows also = one_node state one other (BranchNode (splits.Vertex i j cell tick)) shows also
  one_state unique (parts.Swap i j from to tick) state one other shows also = one_node state one other (BranchNode (splits.Swap i j from to tick)) shows also
  one_state unique (parts.Cost i ticks) state one other shows also = one_node state one other (BranchNode (splits.Cost i ticks)) shows also
  one_state unique (parts.Costs i ticks j least lemma) state one other shows also = one_node state one other (BranchNode (splits.Costs i ticks j least lemma)) shows also
  one_state unique (parts.Leaf uses) state one other shows also = one_node state one other (LeafNode uses) shows also
  one_state unique (parts.Clash i j) state one other shows also = one_node state one other (ClashNode i j) shows also
