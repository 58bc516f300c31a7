-- What a tree shows, its lemmas and its proof by cases show.
use Rattle.std.proofs.Common.{◌≡◌, ℕ, zero, suc, ◌+◌, ◌<◌, Bool, true, false, cond, List, [], ◌∷◌, ◌++◌, Some, All, Contains, length, map, take, slice_get, zero-add, refl, sym, ap, subst, inl, inr, ⊎_elim, arith}
use Rattle.std.specs.Prelude.{◌==◌}
use Rattle.std.proofs.lemmas.List.{length-map}
use Rattle.std.proofs.lemmas.List.Elements.{All-append, All-contains, All-head, All-tail, All-nil, All-map}
use Rattle.std.proofs.lemmas.Option.{same_Some, slice_get_read}
use Rattle.mapf_model.specs.declared.bar.Bar.{Bar}
use Rattle.mapf_model.specs.declared.bar.Bar.TheVariants.{Cell, Move}
use Rattle.mapf_model.specs.declared.conflict.Conflict.{Conflict}
use Rattle.mapf_model.specs.declared.conflict.Conflict.TheVariants.{Vertex, Swap}
use Rattle.mapf_model.specs.declared.item.Claim.{Claim}
use Rattle.mapf_model.specs.Blocks.{LabelBlock}
use Rattle.mapf_model.specs.Grid.{GridMap, AreAdjacent, DifferByOne}
use Rattle.mapf_model.specs.Labels.{entries_of}
use Rattle.mapf_model.specs.Plan.{Instance}
use Rattle.mapf_model.specs.Tree.{AreBlocksSound, AreProperBlocks, AtEachNode, ConstraintTree, Split, Leaf, Clash, IsProperNode, NodeContext, NodeShows, Shows, left_child_context, left_constraint, right_child_context, right_constraint, root, with_bar, with_blocks, with_constraint}
use Rattle.mapf_model.specs.Tree as old
use Rattle.mapf_model.proofs.ClaimLemmas.{slice_get_inside}
use Rattle.mapf_model.proofs.ContainsLemmas.{Contains-none}
use Rattle.mapf_lemmas.specs.Cases.{TreeShows, IsProperSplit, left_constraints, right_constraints}
use Rattle.mapf_lemmas.specs.declared.constraint.PathConstraint.{PathConstraint}
use Rattle.mapf_lemmas.specs.Constraints.{IsConstraintOn}
use Rattle.mapf_lemmas.specs.Groups.{Scope}
use Rattle.mapf_lemmas.specs.Lemmas.{CertificateShows, Lemma, LemmaShows, LemmasShow, all_agents, scope_of, target_of}
use Rattle.mapf_lemmas.specs.Prices.{no_list}
use Rattle.mapf_lemmas.specs.Statements.{Statement}
use Rattle.mapf_lemma_convert.specs.declared.node_walk.NumberedLemma.{NumberedLemma}
use Rattle.mapf_lemma_convert.specs.Conversion.{block_count, cases_from, cases_of, in_force, lemma_of, lemmas_from, lemmas_of, path_constraint, path_constraints, split_on}
use Rattle.mapf_lemma_convert.proofs.BarLemmas.{AllBars, bar_kept, more_bars, lemma_count}
use Rattle.mapf_lemma_convert.proofs.InForceLemmas.{AreInForce, block_is_found, in_force_here, in_force_under}
use Rattle.mapf_lemma_convert.proofs.LeafLemmas.{leaf_shows}
use Rattle.mapf_lemma_convert.proofs.ListLemmas.{all_of_contained, get_left, get_right}
use Rattle.mapf_lemma_convert.proofs.SoundLemmas.{single_of, sound_of}
use Rattle.mapf_lemma_convert.proofs.StartLemmas.{some_label}

-- a lemma that shows a statement, whatever may be named
abbrev HasStatement : Instance → Lemma → Type 0
HasStatement problem lemma = (statement : Statement) × ((known : List Statement) → LemmaShows problem [] known lemma statement)

-- lemmas that show statements whatever may be named show them one after another
abbrev ShowAnyhow : Instance → List Lemma → List Statement → Type 0
ShowAnyhow problem lemmas statements =
    (length statements ≡ length lemmas) × ((n : ℕ) (lemma : Lemma) (statement : Statement) → slice_get lemmas n ≡ Some lemma →
    slice_get statements n ≡ Some statement → (known : List Statement) → LemmaShows problem [] known lemma statement)

all_statements : (problem : Instance) (lemmas : List Lemma) → All (HasStatement problem) lemmas → (statements : List Statement) × ShowAnyhow problem lemmas statements
all_statements problem [] all = ([], (refl, λ n lemma statement is also known. absurd cc))
all_statements problem (first ∷ lemmas) all =
    let (statement, shows) = All-head (HasStatement problem) first lemmas all in
    let (rest, (count, each)) = all_statements problem lemmas (All-tail (HasStatement problem) first lemmas all) in
    (statement ∷ rest, (omega (arith, count), by statement shows rest each))
  where
    by : (statement : Statement) → ((known : List Statement) → LemmaShows problem [] known first statement) → (rest : List Statement) →
        ((n : ℕ) (lemma : Lemma) (s : Statement) → slice_get lemmas n ≡ Some lemma → slice_get rest n ≡ Some s → (known : List Statement) → LemmaShows problem [] known lemma s) →
        (n : ℕ) (lemma : Lemma) (s : Statement) → slice_get (first ∷ lemmas) n ≡ Some lemma → slice_get (statement ∷ rest) n ≡ Some s → (known : List Statement) → LemmaShows problem [] known lemma s
    by statement shows rest each zero lemma s is also known =
        subst (λ l. LemmaShows problem [] known l s) (same_Some first lemma is) (subst (LemmaShows problem [] known first) (same_Some statement s also) (shows known))
    by statement shows rest each (suc n) lemma s is also known = each n lemma s is also known

-- the constraints of the two children are those of the converted split
module _ (problem : Instance) (constraints : ℕ → List PathConstraint) (bars : ℕ → List Bar) (same : (agent : ℕ) → constraints agent ≡ path_constraints (bars agent)) where
  one_more : (i : ℕ) (bar : Bar) (agent : ℕ) → cond (agent == i) (path_constraint bar ∷ constraints agent) (constraints agent) ≡ path_constraints (with_bar bars i bar agent)
  one_more i bar agent = by (agent == i)
    where
      by : (here : Bool) → cond here (path_constraint bar ∷ constraints agent) (constraints agent) ≡ path_constraints (cond here (bar ∷ bars agent) (bars agent))
      by true = ap (λ rest. path_constraint bar ∷ rest) (same agent)
      by false = same agent

  left_same : (conflict : Conflict) (agent : ℕ) → left_constraints problem constraints (split_on conflict) agent ≡ path_constraints (with_constraint bars (left_constraint conflict) agent)
  left_same (Vertex i j cell tick) agent = one_more i (Cell cell tick) agent
  left_same (Swap i j from to tick) agent = one_more i (Move from to tick) agent

  right_same : (conflict : Conflict) (agent : ℕ) → right_constraints constraints (split_on conflict) agent ≡ path_constraints (with_constraint bars (right_constraint conflict) agent)
  right_same (Vertex i j cell tick) agent = one_more j (Cell cell tick) agent
  right_same (Swap i j from to tick) agent = one_more j (Move to from tick) agent

-- these lemmas stand in the list from this number on
abbrev StandFrom : List Lemma → ℕ → List Lemma → Type 0
StandFrom lemmas first part = (k : ℕ) (lemma : Lemma) → slice_get part k ≡ Some lemma → slice_get lemmas (first + k) ≡ Some lemma

stand_left : (lemmas : List Lemma) (first : ℕ) (xs ys : List Lemma) → StandFrom lemmas first (xs ++ ys) → StandFrom lemmas first xs
stand_left lemmas first xs ys places k lemma found = places k lemma (get_left xs ys k lemma found)

stand_right : (lemmas : List Lemma) (first next : ℕ) (xs ys : List Lemma) → first + length xs ≡ next → StandFrom lemmas first (xs ++ ys) → StandFrom lemmas next ys
stand_right lemmas first next xs ys is places k lemma found =
    let same : first + (length xs + k) ≡ next + k = omega (arith, is) in
    subst (λ n. slice_get lemmas n ≡ Some lemma) same (places (length xs + k) lemma (get_right xs ys k lemma found))

-- adjacent cells are adjacent in both directions
adjacent_turned : (grid : GridMap) (from to : ℕ) → AreAdjacent grid from to → AreAdjacent grid to from
adjacent_turned grid from to beside = record {
  from_free = beside.to_free;
  to_free = beside.from_free;
  apart = ⊎_elim
      (λ in_row. inl (sym in_row.0, turned in_row.1))
      (λ in_column. inr (sym in_column.0, turned in_column.1))
      beside.apart;
}
  where
    turned : {a b : ℕ} → DifferByOne a b → DifferByOne b a
    turned (inl e) = inr e
    turned (inr e) = inl e

module _ (problem : Instance) (claim : Claim) where
  -- the constraints are on the grid
  abbrev AreBarsOn : (ℕ → List Bar) → Type 0
  AreBarsOn bars = AllBars (λ bar. IsConstraintOn problem.grid (path_constraint bar)) bars

  left_on : (bars : ℕ → List Bar) (conflict : Conflict) → AreBarsOn bars → old.IsProperSplit problem conflict → AreBarsOn (with_constraint bars (left_constraint conflict))
  left_on bars (Vertex i j cell tick) on proper = more_bars (λ bar. IsConstraintOn problem.grid (path_constraint bar)) bars i (Cell cell tick) on proper.1
  left_on bars (Swap i j from to tick) on proper = more_bars (λ bar. IsConstraintOn problem.grid (path_constraint bar)) bars i (Move from to tick) on proper.1

  right_on : (bars : ℕ → List Bar) (conflict : Conflict) → AreBarsOn bars → old.IsProperSplit problem conflict → AreBarsOn (with_constraint bars (right_constraint conflict))
  right_on bars (Vertex i j cell tick) on proper = more_bars (λ bar. IsConstraintOn problem.grid (path_constraint bar)) bars j (Cell cell tick) on proper.1
  right_on bars (Swap i j from to tick) on proper = more_bars (λ bar. IsConstraintOn problem.grid (path_constraint bar)) bars j (Move to from tick) on (adjacent_turned problem.grid from to proper.1)

  -- a sound block has a statement
  block_statement : (context : NodeContext) (blocks : List LabelBlock) → AreBarsOn context.bars → AreProperBlocks problem blocks → AreBlocksSound problem context blocks → (block : LabelBlock) → Contains blocks block → HasStatement problem (lemma_of context.bars block)
  block_statement context blocks on proper sound block held =
      let (k, within, is) = held in
      let found : slice_get blocks k ≡ Some block = slice_get_read blocks (length blocks) k block refl within (sym is) in
      let there = block_is_found blocks proper.0 k block found in
      let inside = All-contains (λ b. b.agent < length problem.agents) blocks block proper.1 held in
      let (a, is_agent) = slice_get_inside problem.agents block.agent inside in
      let (label, is_label) = some_label problem.grid a.goal (entries_of block.entries) a.start 0 in (
        _,
        λ known. record {
          list = no_list;
          a = a;
          label = label;
          is_list = refl;
          is_agent = is_agent;
          on_grid = All-map (IsConstraintOn problem.grid) path_constraint (context.bars block.agent) (all_of_contained (λ bar. IsConstraintOn problem.grid (path_constraint bar)) (context.bars block.agent) (on block.agent));
          sound = sound_of problem.grid a (context.bars block.agent) (entries_of block.entries) (sound block.agent a block is_agent there);
          is_label = single_of problem.grid a (context.bars block.agent) (entries_of block.entries) a.start 0 label is_label;
          is_statement = refl;
        },
      )

  blocks_have_statements : (context : NodeContext) (blocks : List LabelBlock) → AreBarsOn context.bars → AreProperBlocks problem blocks → AreBlocksSound problem context blocks → All (HasStatement problem) (map (lemma_of context.bars) blocks)
  blocks_have_statements context blocks on proper sound = All-map (HasStatement problem) (lemma_of context.bars) blocks
      (all_of_contained (λ block. HasStatement problem (lemma_of context.bars block)) blocks (block_statement context blocks on proper sound))

  tree_has_statements : (tree : ConstraintTree) (context : NodeContext) → AreBarsOn context.bars → AtEachNode (λ c node. IsProperNode problem node) context tree → AtEachNode (NodeShows problem claim) context tree → All (HasStatement problem) (lemmas_from context.bars tree)
  tree_has_statements (Split conflict blocks left right) context on (here, on_left, on_right) (shows, shows_left, shows_right) =
      All-append (HasStatement problem) (map (lemma_of context.bars) blocks) _ (blocks_have_statements context blocks on here.1 shows)
      (All-append (HasStatement problem) (lemmas_from (with_constraint context.bars (left_constraint conflict)) left) (lemmas_from (with_constraint context.bars (right_constraint conflict)) right)
      (tree_has_statements left (left_child_context context conflict blocks) (left_on context.bars conflict on here.0) on_left shows_left)
      (tree_has_statements right (right_child_context context conflict blocks) (right_on context.bars conflict on here.0) on_right shows_right))
  tree_has_statements (Leaf blocks) context on proper shows = blocks_have_statements context blocks on proper shows.0
  tree_has_statements (Clash i j) context on proper shows = All-nil (HasStatement problem)

  module _ (lemmas : List Lemma) (statements : List Statement) (shown : LemmasShow problem [] lemmas statements) where
    abbrev scope : Scope
    scope = scope_of problem [] statements (all_agents problem)

    split_proper : (constraints : ℕ → List PathConstraint) (conflict : Conflict) → old.IsProperSplit problem conflict → IsProperSplit scope constraints (split_on conflict)
    split_proper constraints (Vertex i j cell tick) proper = proper
    split_proper constraints (Swap i j from to tick) proper = proper

    tree_shows : (tree : ConstraintTree) (context : NodeContext) (constraints : ℕ → List PathConstraint) (first : ℕ) (above : List NumberedLemma) →
        ((agent : ℕ) → constraints agent ≡ path_constraints (context.bars agent)) → AreInForce lemmas context.bars context.entries above → StandFrom lemmas first (lemmas_from context.bars tree) →
        AtEachNode (λ c node. IsProperNode problem node) context tree → AtEachNode (NodeShows problem claim) context tree →
        TreeShows scope (target_of claim) constraints (cases_from first above tree)
    tree_shows (Split conflict blocks left right) context constraints first above same are places (here, on_left, on_right) (shows, shows_left, shows_right) =
        let left_bars = with_constraint context.bars (left_constraint conflict) in
        let right_bars = with_constraint context.bars (right_constraint conflict) in
        let block_lemmas = map (lemma_of context.bars) blocks in
        let now = in_force_here lemmas context.bars context.entries above blocks first are here.1.0 (stand_left lemmas first block_lemmas (lemmas_from left_bars left ++ lemmas_from right_bars right) places) in
        let blocks_long = length-map blocks (lemma_of context.bars) in
        let left_long = lemma_count left_bars left in
        let below = stand_right lemmas first (first + length blocks) block_lemmas (lemmas_from left_bars left ++ lemmas_from right_bars right) (omega (arith, blocks_long)) places in (
          split_proper constraints conflict here.0,
          tree_shows left (left_child_context context conflict blocks) (left_constraints problem constraints (split_on conflict)) (first + length blocks) (in_force first blocks above)
              (left_same problem constraints context.bars same conflict)
              (in_force_under lemmas context.bars left_bars (with_blocks blocks context.entries) (in_force first blocks above) (bar_kept context.bars (left_constraint conflict).agent (left_constraint conflict).bar) now)
              (stand_left lemmas (first + length blocks) (lemmas_from left_bars left) (lemmas_from right_bars right) below)
              on_left shows_left,
          tree_shows right (right_child_context context conflict blocks) (right_constraints constraints (split_on conflict)) (first + length blocks + block_count left) (in_force first blocks above)
              (right_same problem constraints context.bars same conflict)
              (in_force_under lemmas context.bars right_bars (with_blocks blocks context.entries) (in_force first blocks above) (bar_kept context.bars (right_constraint conflict).agent (right_constraint conflict).bar) now)
              (stand_right lemmas (first + length blocks) (first + length blocks + block_count left) (lemmas_from left_bars left) (lemmas_from right_bars right) (omega (arith, left_long)) below)
              on_right shows_right,
        )
    tree_shows (Leaf blocks) context constraints first above same are places proper (sound, starts) =
        leaf_shows problem lemmas statements shown constraints context.bars (with_blocks blocks context.entries) (in_force first blocks above)
        (in_force_here lemmas context.bars context.entries above blocks first are proper.0 places) same claim starts
    tree_shows (Clash i j) context constraints first above same are places proper shows = shows

  none_above : (lemmas : List Lemma) → AreInForce lemmas root.bars root.entries []
  none_above lemmas = record {
    each = λ k d within. absurd (omega arith);
    apart = λ i j d before within. absurd (omega arith);
    others = λ agent none cell tick. refl;
  }

  pub conversion_shows : (tree : ConstraintTree) → Shows problem claim tree → CertificateShows problem [] (lemmas_of tree) (cases_of tree) claim
  conversion_shows tree shows =
      let all = tree_has_statements tree root (λ agent bar held. absurd (Contains-none bar held)) shows.proper shows.nodes in
      let (statements, (count, each)) = all_statements problem (lemmas_of tree) all in
      let shown : LemmasShow problem [] (lemmas_of tree) statements = record { count = count; each = λ n lemma statement is also. each n lemma statement is also (take n statements) } in
      record {
        proper_lists = λ k d within. absurd (omega arith);
        statements = statements;
        each = shown;
        shows = tree_shows (lemmas_of tree) statements shown tree root (λ agent. []) 0 [] (λ agent. refl) (none_above (lemmas_of tree)) (λ k lemma found. rw (zero-add k) found) shows.proper shows.nodes;
      }
