-- Some tree shows `impossible` of each trivially impossible problem.
use Rattle.std.proofs.Common.{◌≡◌, ◌≢◌, ℕ, zero, suc, ◌<◌, List, [], ◌∷◌, Some, None, Contains, length, slice_get, slice_index_or, refl, sym, ◌∙◌, ap, inl, inr, ⊎_elim, arith}
use Rattle.std.proofs.lemmas.Bool.{cases_eq, eq-eqb, ne_eqb}
use Rattle.std.proofs.lemmas.Option.{same_Some, slice_get_within}
use Rattle.mapf_model.specs.declared.bar.Bar.{Bar}
use Rattle.mapf_model.specs.declared.bar.Bar.TheVariants.{Cell}
use Rattle.mapf_model.specs.declared.conflict.Conflict.{Conflict}
use Rattle.mapf_model.specs.declared.conflict.Conflict.TheVariants.{Vertex}
use Rattle.mapf_model.specs.declared.item.Claim.TheVariants.{Impossible}
use Rattle.mapf_model.specs.declared.label.Entry.{Entry}
use Rattle.mapf_model.specs.declared.label.Label.TheVariants.{Never}
use Rattle.mapf_model.specs.declared.problem.Agent.{Agent}
use Rattle.mapf_model.specs.Blocks.{LabelBlock}
use Rattle.mapf_model.specs.Distance.{IsDistance, IsUnreachable}
use Rattle.mapf_model.specs.Grid.{GridMap}
use Rattle.mapf_model.specs.Labels.{entries_of, AreSound, IsSoundEntry}
use Rattle.mapf_model.specs.Plan.{Instance}
use Rattle.mapf_model.specs.Tree.{ConstraintTree, Split, Leaf, Clash, NodeContext, root, left_child_context, right_child_context, block_of, AreProperBlocks, AreBlocksSound, ShareGoal, Shows, ShowsFrom}
use Rattle.mapf_model.proofs.ListedLemmas.{listed_is_contained}
use Rattle.mapf_laws.specs.Impossible.{ShareStart, HasUnreachableGoal, IsTriviallyImpossible}
use Rattle.mapf_laws.proofs.ReachLemmas.{distance_or_none}
use Rattle.mapf_laws.proofs.WaitingLemmas.{walk_free}

-- a tree that shows `impossible`
abbrev pub IsShownImpossible : Instance → Type 0
IsShownImpossible problem = (tree : ConstraintTree) × Shows problem Impossible tree

-- an infinite label of the cell at tick 0
abbrev pub infinite_at : ℕ → Entry
infinite_at cell = record { cell = cell; tick = 0; label = Never }

-- a block with it alone
abbrev pub infinite_block : ℕ → ℕ → LabelBlock
infinite_block i cell = record { agent = i; entries = infinite_at cell ∷ [] }

only_block : (i k start : ℕ) (block : LabelBlock) → block_of (infinite_block i start ∷ []) k ≡ Some block → (k ≡ i) × (block ≡ infinite_block i start)
only_block i k start block found = ⊎_elim
    (λ (same : i ≡ k). let first : Some (infinite_block i start) ≡ Some block = rw (eq-eqb i k same) at found in (sym same, sym (same_Some (infinite_block i start) block first)))
    (λ (other : i ≡ k → ⊥). let none : None ≡ Some block = rw (ne_eqb i k other) at found in cc)
    (cases_eq i k)

-- an infinite label of the start at tick 0 is sound if the start is forbidden then
barred_is_sound : (grid : GridMap) (start goal distance : ℕ) (bars : List Bar) → IsDistance grid goal start distance → Contains bars (Cell start 0) → AreSound grid goal bars (entries_of (infinite_at start ∷ []))
barred_is_sound grid start goal distance bars is barred cell tick label found = by_entry (listed_is_contained (infinite_at start ∷ []) cell tick label found)
  where
    by_entry : Contains {X = Entry} (infinite_at start ∷ []) (record { cell = cell; tick = tick; label = label }) → IsSoundEntry grid goal bars (entries_of (infinite_at start ∷ [])) cell tick label
    by_entry (zero, within, same) =
        let cells : cell ≡ start = ap (λ (e : Entry). e.cell) (sym same) in
        let ticks : tick ≡ 0 = ap (λ (e : Entry). e.tick) (sym same) in
        let labels : label ≡ Never = ap (λ (e : Entry). e.label) (sym same) in
        rw (cells, ticks, labels) (record {
          raised = (distance, is, tt);
          at_goal = λ open_cell there. absurd (open_cell barred);
          onward = λ open_cell next go. absurd (open_cell barred);
        })
    by_entry (suc k, within, same) = absurd (omega arith)

module _ (problem : Instance) where
  no_blocks_are_proper : AreProperBlocks problem []
  no_blocks_are_proper = (λ i j d order within. absurd (omega arith), λ k d within. absurd (omega arith))

  clash_shows : (i j : ℕ) → ShareGoal problem i j → IsShownImpossible problem
  clash_shows i j shared = (Clash i j, record { proper = tt; nodes = shared })

  leaf_shows : (i : ℕ) → HasUnreachableGoal problem i → IsShownImpossible problem
  leaf_shows i (agent, is, unreachable) = (
    Leaf [],
    record { proper = no_blocks_are_proper; nodes = (λ k other block other_is found. cc, (i, agent, is, unreachable)) },
  )

  -- a leaf at which an agent's start is forbidden at tick 0
  barred_leaf_shows : (context : NodeContext) (i distance : ℕ) (agent : Agent) → slice_get problem.agents i ≡ Some agent → IsDistance problem.grid agent.goal agent.start distance →
      Contains (context.bars i) (Cell agent.start 0) → ShowsFrom problem Impossible context (Leaf (infinite_block i agent.start ∷ []))
  barred_leaf_shows context i distance agent is near barred = record {
    proper = (λ a b d order within. absurd (omega arith), each_agent);
    nodes = (sound, (i, agent, is, rw (eq-eqb i i refl, eq-eqb agent.start agent.start refl) refl));
  }
    where
      each_agent : (k : ℕ) (d : LabelBlock) → k < 1 → (slice_index_or (infinite_block i agent.start ∷ []) k d).agent < length problem.agents
      each_agent zero d within = slice_get_within problem.agents i agent is
      each_agent (suc k) d within = absurd (omega arith)

      sound : AreBlocksSound problem context (infinite_block i agent.start ∷ [])
      sound k other block other_is found =
          let (same, one) = only_block i k agent.start block found in
          let whose : other ≡ agent = same_Some other agent (sym other_is ∙ ap (slice_get problem.agents) same ∙ is) in
          rw (same, one, whose) (barred_is_sound problem.grid agent.start agent.goal distance (context.bars i) near barred)

  -- two agents that share a start: at each child the start of one of them is forbidden at tick 0
  split_shows : (i j : ℕ) (a b : Agent) (m n : ℕ) → i ≢ j → slice_get problem.agents i ≡ Some a → slice_get problem.agents j ≡ Some b → a.start ≡ b.start →
      IsDistance problem.grid a.goal a.start m → IsDistance problem.grid b.goal b.start n → IsShownImpossible problem
  split_shows i j a b m n other is_a is_b one_start near_a near_b =
      let conflict : Conflict = Vertex i j a.start 0 in
      let left = barred_leaf_shows (left_child_context root conflict []) i m a is_a near_a (rw (eq-eqb i i refl) (0, omega arith, refl)) in
      let right = barred_leaf_shows (right_child_context root conflict []) j n b is_b near_b (rw (eq-eqb j j refl) (0, omega arith, ap (λ cell. Cell cell 0) one_start)) in (
        Split conflict [] (Leaf (infinite_block i a.start ∷ [])) (Leaf (infinite_block j b.start ∷ [])),
        record {
          proper = (
            (((other, slice_get_within problem.agents i a is_a, slice_get_within problem.agents j b is_b), walk_free problem.grid a.goal m a.start near_a.walk), no_blocks_are_proper),
            left.proper,
            right.proper,
          );
          nodes = (λ k agent block is found. cc, left.nodes, right.nodes);
        },
      )

  start_shows : (i j : ℕ) → ShareStart problem i j → IsShownImpossible problem
  start_shows i j (other, a, b, is_a, is_b, one_start) = ⊎_elim
      (λ (first : (m : ℕ) × IsDistance problem.grid a.goal a.start m). ⊎_elim
      (λ (second : (n : ℕ) × IsDistance problem.grid b.goal b.start n). split_shows i j a b first.0 second.0 other is_a is_b one_start first.1 second.1)
      (λ (unreachable : IsUnreachable problem.grid b.goal b.start). leaf_shows j (b, is_b, unreachable))
      (distance_or_none problem.grid b.start b.goal))
      (λ (unreachable : IsUnreachable problem.grid a.goal a.start). leaf_shows i (a, is_a, unreachable))
      (distance_or_none problem.grid a.start a.goal)

pub trivial_is_shown : (problem : Instance) → IsTriviallyImpossible problem → IsShownImpossible problem
trivial_is_shown problem (inl (i, j, shared)) = start_shows problem i j shared
trivial_is_shown problem (inr (inl (i, j, shared))) = clash_shows problem i j shared
trivial_is_shown problem (inr (inr (i, unreachable))) = leaf_shows problem i unreachable
