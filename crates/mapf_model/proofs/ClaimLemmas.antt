-- What a tree shows is so of all plans.
use Rattle.std.proofs.Common.{◌≡◌, ℕ, zero, suc, ◌+◌, ◌<◌, ◌≤◌, List, [], ◌∷◌, Option, Some, None, length, sum, slice_get, refl, sym, ◌∙◌, inl, ⊎_elim, arith}
use Rattle.std.proofs.lemmas.Option.{slice_get_within}
use Rattle.std.proofs.lemmas.List.Sums.{sum_by-cons}
use Rattle.mapf_model.specs.declared.problem.Agent.{Agent}
use Rattle.mapf_model.specs.declared.label.Label.{Label}
use Rattle.mapf_model.specs.declared.label.Label.TheVariants.{Ticks, Never}
use Rattle.mapf_model.specs.declared.item.Claim.{Claim}
use Rattle.mapf_model.specs.declared.item.Claim.TheVariants.{Cost, Bound, Impossible}
use Rattle.mapf_model.specs.Path.{IsLawful, RestsFrom}
use Rattle.mapf_model.specs.Labels.{Entries, entries_of, AreSound, IsLabel, IsAtMost, label_plus, label_sum}
use Rattle.mapf_model.specs.Bars.{Satisfies}
use Rattle.mapf_model.specs.declared.bar.Bar.{Bar}
use Rattle.mapf_model.specs.Blocks.{LabelBlock}
use Rattle.mapf_model.specs.Plan.{Instance, IsValid, IsSumOfCosts}
use Rattle.mapf_model.specs.Tree.{ConstraintTree, Split, Leaf, Clash, NodeContext, root, Shows, with_constraint, left_constraint, right_constraint, left_child_context, right_child_context, AllSatisfy, AtEachNode, IsProperNode, Holds, block_of, entries_or, with_blocks, no_entries, AreBlocksSound, StartsReach, StartsShow, ShareGoal, NodeShows}
use Rattle.mapf_model.proofs.LabelLemmas.{lawful_bound, lawful_rests}
use Rattle.mapf_model.proofs.SplitLemmas.{split, AllSatisfy-root}

pub slice_get_inside : {X : Type 0} (xs : List X) (i : ℕ) → i < length xs → (x : X) × (slice_get xs i ≡ Some x)
slice_get_inside [] i within = absurd (omega arith)
slice_get_inside (x ∷ xs) zero within = (x, refl)
slice_get_inside (x ∷ xs) (suc i) within = slice_get_inside xs i (omega arith)

IsAtMost-label_plus : (a b : Label) (m n : ℕ) → IsAtMost a (Ticks m) → IsAtMost b (Ticks n) → IsAtMost (label_plus a b) (Ticks (m + n))
IsAtMost-label_plus (Ticks a) (Ticks b) m n p q = omega arith
IsAtMost-label_plus (Ticks a) Never m n p q = q
IsAtMost-label_plus Never b m n p q = p

IsAtMost-label_sum : (labels : List Label) (costs : List ℕ) → length labels ≡ length costs →
    ((i : ℕ) (label : Label) (cost : ℕ) → slice_get labels i ≡ Some label → slice_get costs i ≡ Some cost → IsAtMost label (Ticks cost)) →
    IsAtMost (label_sum labels) (Ticks (sum costs))
IsAtMost-label_sum [] [] same each = omega arith
IsAtMost-label_sum [] (cost ∷ costs) same each = absurd (omega arith)
IsAtMost-label_sum (label ∷ labels) [] same each = absurd (omega arith)
IsAtMost-label_sum (label ∷ labels) (cost ∷ costs) same each =
    rw sum_by-cons (IsAtMost-label_plus label (label_sum labels) cost (sum costs)
    (each 0 label cost refl refl)
    (IsAtMost-label_sum labels costs (omega arith) (λ i l c. each (suc i) l c)))

at_most_through : (m n : ℕ) (label : Label) → IsAtMost (Ticks m) label → IsAtMost label (Ticks n) → m ≤ n
at_most_through m n (Ticks k) p q = omega arith
at_most_through m n Never p q = absurd q

-- what a claim says of one valid plan
abbrev pub Bounds : Instance → Claim → List (List ℕ) → Type 0
Bounds problem (Cost cost) plan = (total : ℕ) → IsSumOfCosts problem.agents plan total → cost ≤ total
Bounds problem (Bound bound) plan = (total : ℕ) → IsSumOfCosts problem.agents plan total → bound ≤ total
Bounds problem Impossible plan = ⊥

pub holds_of_plans : (problem : Instance) (claim : Claim) → ((plan : List (List ℕ)) → IsValid problem plan → Bounds problem claim plan) → Holds problem claim
holds_of_plans problem (Cost cost) bounds = bounds
holds_of_plans problem (Bound bound) bounds = bounds
holds_of_plans problem Impossible bounds = bounds

module _ (problem : Instance) (plan : List (List ℕ)) (valid : IsValid problem plan) where
  -- the agent's path
  path_of : (i : ℕ) (agent : Agent) → slice_get problem.agents i ≡ Some agent → (path : List ℕ) × (slice_get plan i ≡ Some path) × IsLawful problem.grid agent path
  path_of i agent is =
      let count = valid.count in
      let within : i < length problem.agents = slice_get_within problem.agents i agent is in
      let found : (path : List ℕ) × (slice_get plan i ≡ Some path) = slice_get_inside plan i (omega arith) in
      (found.0, found.1, valid.lawful i agent found.0 is found.1)

  -- two agents can't both stay at one goal
  clash_refuted : (i j : ℕ) → ShareGoal problem i j → ⊥
  clash_refuted i j (other, a, b, first, second, one_goal) =
      let p = path_of i a first in
      let q = path_of j b second in
      let tick : ℕ = length p.0 + length q.0 in
      valid.apart i j tick p.0 q.0 other p.1 q.1
      (inl (lawful_rests problem.grid a p.0 p.2 tick (omega arith) ∙ one_goal ∙ sym (lawful_rests problem.grid b q.0 q.2 tick (omega arith))))

  -- the entries' labels of the starts bound what the agents' paths cost
  pub AreBounds : (ℕ → Entries) → Type 0
  AreBounds entries = (i : ℕ) (agent : Agent) (path : List ℕ) (rest : ℕ) (label : Label) → slice_get problem.agents i ≡ Some agent → slice_get plan i ≡ Some path → RestsFrom agent.goal path rest →
      IsLabel problem.grid agent.goal (entries i) agent.start 0 label → IsAtMost label (Ticks rest)

  AreBounds-sound : (bars : List Bar) (entries : Entries) (i : ℕ) (agent : Agent) (path : List ℕ) (rest : ℕ) (label : Label) → slice_get problem.agents i ≡ Some agent → slice_get plan i ≡ Some path → RestsFrom agent.goal path rest →
      AreSound problem.grid agent.goal bars entries → Satisfies bars path → IsLabel problem.grid agent.goal entries agent.start 0 label → IsAtMost label (Ticks rest)
  AreBounds-sound bars entries i agent path rest label this_agent this_path rests sound obeys is =
      lawful_bound problem.grid agent bars entries path rest sound (valid.lawful i agent path this_agent this_path) obeys rests label is

  pub AreBounds-no_entries : AreBounds no_entries
  unfolding AreBounds
  AreBounds-no_entries i agent path rest label this_agent this_path rests is =
      AreBounds-sound [] (no_entries i) i agent path rest label this_agent this_path rests (λ cell tick entry found. cc) (λ bar (k, within, same). absurd (omega arith)) is

  AreBounds-with_blocks : (context : NodeContext) (blocks : List LabelBlock) (before : ℕ → Entries) → AreBlocksSound problem context blocks → AllSatisfy plan context.bars → AreBounds before → AreBounds (with_blocks blocks before)
  unfolding AreBounds
  AreBounds-with_blocks context blocks before sound obey bounds i agent path rest label this_agent this_path rests is = by_block (block_of blocks i) refl is
    where
      by_block : (found : Option LabelBlock) → block_of blocks i ≡ found → IsLabel problem.grid agent.goal (entries_or found (before i)) agent.start 0 label → IsAtMost label (Ticks rest)
      by_block None none at_start = bounds i agent path rest label this_agent this_path rests at_start
      by_block (Some block) found at_start =
          AreBounds-sound (context.bars i) (entries_of block.entries) i agent path rest label this_agent this_path rests (sound i agent block this_agent found) (obey i path this_path) at_start

  starts_cost : (cost : ℕ) (entries : ℕ → Entries) → AreBounds entries → StartsReach problem cost entries → (total : ℕ) → IsSumOfCosts problem.agents plan total → cost ≤ total
  unfolding AreBounds
  starts_cost cost entries bounds (labels, starts, enough) total (costs, are_costs, is_sum) =
      let one = valid.count in let two = starts.count in let three = are_costs.count in
      let bounded : IsAtMost (label_sum labels) (Ticks (sum costs)) = IsAtMost-label_sum labels costs (omega arith) (λ i label c this_label this_cost.
      let within : i < length labels = slice_get_within labels i label this_label in
      let found : (agent : Agent) × (slice_get problem.agents i ≡ Some agent) = slice_get_inside problem.agents i (omega arith) in
      let p = path_of i found.0 found.1 in
      bounds i found.0 p.0 c label found.1 p.1 (are_costs.each i found.0 p.0 c found.1 p.1 this_cost).rests (starts.each i found.0 label found.1 this_label)) in
      rw is_sum (at_most_through cost (sum costs) (label_sum labels) enough bounded)

  starts_hold : (claim : Claim) (entries : ℕ → Entries) → AreBounds entries → StartsShow problem claim entries → Bounds problem claim plan
  unfolding AreBounds
  starts_hold (Cost cost) entries bounds shows = starts_cost cost entries bounds shows
  starts_hold (Bound bound) entries bounds shows = starts_cost bound entries bounds shows
  starts_hold Impossible entries bounds (i, agent, is, never) =
      let p = path_of i agent is in
      bounds i agent p.0 (length p.0) Never is p.1 (lawful_rests problem.grid agent p.0 p.2) never

  pub shown_of_plan : (claim : Claim) (tree : ConstraintTree) (context : NodeContext) → AtEachNode (λ to node. IsProperNode problem node) context tree → AtEachNode (NodeShows problem claim) context tree → AllSatisfy plan context.bars → AreBounds context.entries → Bounds problem claim plan
  shown_of_plan claim (Split conflict blocks left right) context proper shows obey bounds =
      let below = AreBounds-with_blocks context blocks context.entries shows.0 obey bounds in
      ⊎_elim
      (λ (on_left : AllSatisfy plan (with_constraint context.bars (left_constraint conflict))). shown_of_plan claim left (left_child_context context conflict blocks) proper.1 shows.1 on_left below)
      (λ (on_right : AllSatisfy plan (with_constraint context.bars (right_constraint conflict))). shown_of_plan claim right (right_child_context context conflict blocks) proper.2 shows.2 on_right below)
      (split problem plan context.bars conflict proper.0.0 valid obey)
  shown_of_plan claim (Leaf blocks) context proper shows obey bounds =
      starts_hold claim (with_blocks blocks context.entries) (AreBounds-with_blocks context blocks context.entries shows.0 obey bounds) shows.1
  shown_of_plan claim (Clash i j) context proper shows obey bounds = absurd (clash_refuted i j shows)

  -- at the root
  pub shown_at_root : (claim : Claim) (tree : ConstraintTree) → Shows problem claim tree → Bounds problem claim plan
  shown_at_root claim tree shows = shown_of_plan claim tree root shows.proper shows.nodes (AllSatisfy-root plan) AreBounds-no_entries
