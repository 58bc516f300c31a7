-- A tree shows `impossible` only of trivially impossible problems.
use Rattle.std.proofs.Common.{◌≡◌, ℕ, ◌+◌, ◌<◌, ◌≤◌, ◌⊎◌, List, ◌∷◌, Option, Some, None, Contains, slice_get, refl, sym, ◌∙◌, ap, subst, inl, inr, ⊎_elim, nat_eq, arith}
use Rattle.std.proofs.lemmas.Bool.{cases_eq, cond_both, eqb-true}
use Rattle.std.proofs.lemmas.Option.{same_Some}
use Rattle.mapf_model.specs.declared.bar.Bar.{Bar}
use Rattle.mapf_model.specs.declared.bar.Bar.TheVariants.{Cell, Move}
use Rattle.mapf_model.specs.declared.conflict.Conflict.{Conflict}
use Rattle.mapf_model.specs.declared.conflict.Conflict.TheVariants.{Vertex, Swap}
use Rattle.mapf_model.specs.declared.item.Claim.TheVariants.{Impossible}
use Rattle.mapf_model.specs.declared.label.Label.{Label}
use Rattle.mapf_model.specs.declared.label.Label.TheVariants.{Never}
use Rattle.mapf_model.specs.declared.problem.Agent.{Agent}
use Rattle.mapf_model.specs.Bars.{Violates, Satisfies}
use Rattle.mapf_model.specs.Blocks.{LabelBlock}
use Rattle.mapf_model.specs.Conflicts.{tick_of}
use Rattle.mapf_model.specs.Labels.{Entries, entries_of, AreSound, IsEntryOrDistance}
use Rattle.mapf_model.specs.Laws.{NeverMeansNone}
use Rattle.mapf_model.specs.Plan.{Instance}
use Rattle.mapf_model.specs.Tree.{ConstraintTree, Split, Leaf, Clash, NodeContext, root, with_bar, with_constraint, left_constraint, right_constraint, left_child_context, right_child_context, block_of, entries_or, with_blocks, AtEachNode, AreTwoAgents, IsProperSplit, IsProperNode, AreBlocksSound, StartsShow, NodeShows, Shows}
use Rattle.mapf_model.proofs.ClaimLemmas.{slice_get_inside}
use Rattle.mapf_model.proofs.ContainsLemmas.{Contains-cons_cases}
use Rattle.mapf_laws.specs.Impossible.{ShareStart, IsTriviallyImpossible}
use Rattle.mapf_laws.proofs.WaitingLemmas.{StaysTo, wait_and_walk}

-- no agent violates its constraints while it waits at its start until this tick, whatever it does afterwards
abbrev pub AllowWaiting : Instance → ℕ → (ℕ → List Bar) → Type 0
AllowWaiting problem last bars = (i : ℕ) (agent : Agent) (path : List ℕ) → slice_get problem.agents i ≡ Some agent → StaysTo last agent.start path → Satisfies (bars i) path

-- no agent's start has an infinite entry at tick 0
abbrev pub NoStartIsInfinite : Instance → (ℕ → Entries) → Type 0
NoStartIsInfinite problem entries = (i : ℕ) (agent : Agent) → slice_get problem.agents i ≡ Some agent → entries i agent.start 0 ≡ Some Never → ⊥

-- a tick greater than those of all constraints of the tree's splits
abbrev pub horizon : ConstraintTree → ℕ
horizon (Split conflict blocks left right) = tick_of conflict + 1 + (horizon left + horizon right)
horizon (Leaf blocks) = 0
horizon (Clash i j) = 0

module _ (problem : Instance) (last : ℕ) where
  AllowWaiting-with_bar : (bars : ℕ → List Bar) (i : ℕ) (bar : Bar) → AllowWaiting problem last bars →
      ((agent : Agent) (path : List ℕ) → slice_get problem.agents i ≡ Some agent → StaysTo last agent.start path → Violates bar path → ⊥) →
      AllowWaiting problem last (with_bar bars i bar)
  AllowWaiting-with_bar bars i bar allow misses k agent path is stays =
      cond_both (nat_eq k i) (bar ∷ bars k) (bars k) (λ bs. Satisfies bs path)
      (λ same b in_it meets. ⊎_elim
      (λ (e : bar ≡ b). misses agent path (subst (λ n. slice_get problem.agents n ≡ Some agent) (eqb-true k i same) is) stays (subst (λ x. Violates x path) (sym e) meets))
      (λ (rest : Contains (bars k) b). allow k agent path is stays b rest meets)
      (Contains-cons_cases bar b (bars k) in_it))
      (λ other. allow k agent path is stays)

  -- constraints that a waiting agent violates in only one cell: of two agents with different starts one waits in another cell
  one_waits_elsewhere : (bars : ℕ → List Bar) (i j cell : ℕ) (left right : Bar) → AreTwoAgents problem i j → AllowWaiting problem last bars →
      ((start : ℕ) (path : List ℕ) → StaysTo last start path → Violates left path → start ≡ cell) →
      ((start : ℕ) (path : List ℕ) → StaysTo last start path → Violates right path → start ≡ cell) →
      ShareStart problem i j ⊎ (AllowWaiting problem last (with_bar bars i left) ⊎ AllowWaiting problem last (with_bar bars j right))
  one_waits_elsewhere bars i j cell left right two allow on_left on_right =
      let (a, is_a) = slice_get_inside problem.agents i two.1 in
      let (b, is_b) = slice_get_inside problem.agents j two.2 in
      ⊎_elim
      (λ (first_here : a.start ≡ cell). ⊎_elim
      (λ (second_here : b.start ≡ cell). inl (two.0, a, b, is_a, is_b, first_here ∙ sym second_here))
      (λ (second_away : b.start ≡ cell → ⊥). inr (inr (AllowWaiting-with_bar bars j right allow
      (λ agent path is stays meets. second_away (ap (λ (x : Agent). x.start) (same_Some b agent (sym is_b ∙ is)) ∙ on_right agent.start path stays meets)))))
      (cases_eq b.start cell))
      (λ (first_away : a.start ≡ cell → ⊥). inr (inl (AllowWaiting-with_bar bars i left allow
      (λ agent path is stays meets. first_away (ap (λ (x : Agent). x.start) (same_Some a agent (sym is_a ∙ is)) ∙ on_left agent.start path stays meets)))))
      (cases_eq a.start cell)

  child_allows : (bars : ℕ → List Bar) (conflict : Conflict) → IsProperSplit problem conflict → tick_of conflict < last → AllowWaiting problem last bars →
      ((i : ℕ) × (j : ℕ) × ShareStart problem i j) ⊎ (AllowWaiting problem last (with_constraint bars (left_constraint conflict)) ⊎ AllowWaiting problem last (with_constraint bars (right_constraint conflict)))
  child_allows bars (Vertex i j cell tick) proper early allow = ⊎_elim
      (λ (shared : ShareStart problem i j). inl (i, j, shared))
      (λ children. inr children)
      (one_waits_elsewhere bars i j cell (Cell cell tick) (Cell cell tick) proper.0 allow
      (λ start path stays meets. sym (stays tick (omega arith)) ∙ meets)
      (λ start path stays meets. sym (stays tick (omega arith)) ∙ meets))
  child_allows bars (Swap i j from to tick) proper early allow = ⊎_elim
      (λ (shared : ShareStart problem i j). inl (i, j, shared))
      (λ children. inr children)
      (one_waits_elsewhere bars i j from (Move from to tick) (Move to from tick) proper.0 allow
      (λ start path stays meets. sym (stays tick (omega arith)) ∙ meets.0)
      (λ start path stays meets. sym (stays (tick + 1) (omega arith)) ∙ meets.1))

  module _ (none : NeverMeansNone) where
    -- under constraints that allow an agent to wait, sound labels have no infinite entry for its start
    no_infinite_start : (agent : Agent) (bars : List Bar) (entries : Entries) → ((path : List ℕ) → StaysTo last agent.start path → Satisfies bars path) →
        AreSound problem.grid agent.goal bars entries → entries agent.start 0 ≡ Some Never → ⊥
    no_infinite_start agent bars entries allow sound infinite =
        let raised = (sound agent.start 0 Never infinite).raised in
        let way = wait_and_walk problem.grid agent.start agent.goal raised.0 raised.1.walk last in
        none problem.grid agent bars entries way.0 sound
        (subst (λ entry. IsEntryOrDistance problem.grid agent.goal agent.start entry Never) (sym infinite) refl)
        way.1 (allow way.0 way.2)

    NoStartIsInfinite-with_blocks : (context : NodeContext) (blocks : List LabelBlock) → AreBlocksSound problem context blocks → AllowWaiting problem last context.bars →
        NoStartIsInfinite problem context.entries → NoStartIsInfinite problem (with_blocks blocks context.entries)
    NoStartIsInfinite-with_blocks context blocks sound allow before i agent is infinite = by_block (block_of blocks i) refl infinite
      where
        by_block : (found : Option LabelBlock) → block_of blocks i ≡ found → entries_or found (context.entries i) agent.start 0 ≡ Some Never → ⊥
        by_block None absent never = before i agent is never
        by_block (Some block) found never =
            no_infinite_start agent (context.bars i) (entries_of block.entries) (λ path stays. allow i agent path is stays) (sound i agent block is found) never

    -- an infinite label that is no entry is that of a cell from which the goal can't be reached
    leaf_is_trivial : (entries : ℕ → Entries) → NoStartIsInfinite problem entries → StartsShow problem Impossible entries → IsTriviallyImpossible problem
    leaf_is_trivial entries finite (i, agent, is, infinite) = by_entry (entries i agent.start 0) refl infinite
      where
        by_entry : (entry : Option Label) → entries i agent.start 0 ≡ entry → IsEntryOrDistance problem.grid agent.goal agent.start entry Never → IsTriviallyImpossible problem
        by_entry None absent unreachable = inr (inr (i, (agent, is, unreachable)))
        by_entry (Some label) listed same = absurd (finite i agent is (listed ∙ ap Some (sym same)))

    shown_is_trivial : (tree : ConstraintTree) (context : NodeContext) → horizon tree ≤ last → AtEachNode (λ at node. IsProperNode problem node) context tree → AtEachNode (NodeShows problem Impossible) context tree →
        AllowWaiting problem last context.bars → NoStartIsInfinite problem context.entries → IsTriviallyImpossible problem
    shown_is_trivial (Split conflict blocks left right) context past proper shows allow finite =
        let below = NoStartIsInfinite-with_blocks context blocks shows.0 allow finite in
        ⊎_elim
        (λ (shared : (i : ℕ) × (j : ℕ) × ShareStart problem i j). inl shared)
        (λ children. ⊎_elim
        (λ (on_left : AllowWaiting problem last (with_constraint context.bars (left_constraint conflict))). shown_is_trivial left (left_child_context context conflict blocks) (omega arith) proper.1 shows.1 on_left below)
        (λ (on_right : AllowWaiting problem last (with_constraint context.bars (right_constraint conflict))). shown_is_trivial right (right_child_context context conflict blocks) (omega arith) proper.2 shows.2 on_right below)
        children)
        (child_allows context.bars conflict proper.0.0 (omega arith) allow)
    shown_is_trivial (Leaf blocks) context past proper shows allow finite =
        leaf_is_trivial (with_blocks blocks context.entries) (NoStartIsInfinite-with_blocks context blocks shows.0 allow finite) shows.1
    shown_is_trivial (Clash i j) context past proper shows allow finite = inr (inl (i, j, shows))

pub impossible_is_trivial : NeverMeansNone → (problem : Instance) (tree : ConstraintTree) → Shows problem Impossible tree → IsTriviallyImpossible problem
impossible_is_trivial none problem tree shows =
    shown_is_trivial problem (horizon tree) none tree root (omega arith) shows.proper shows.nodes
    (λ i agent path is stays bar (k, within, same). absurd (omega arith))
    (λ i agent is infinite. cc)
