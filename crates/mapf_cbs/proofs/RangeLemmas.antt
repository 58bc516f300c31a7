-- What a search finds can be printed.
use Rattle.std.proofs.Common.{◌≡◌, ℕ, suc, ◌+◌, ◌*◌, ◌-◌, ◌^◌, ◌<◌, ◌≤◌, min, List, [], ◌∷◌, Some, All, length, sum, slice_get, slice_index, get_or, refl, sym, subst, arith}
use Rattle.std.proofs.lemmas.List.{get_or_default}
use Rattle.std.proofs.lemmas.List.Sums.{sum_by-cons}
use Rattle.std.proofs.lemmas.Option.{slice_get_within, get_or_from_slice_get}
use Rattle.mapf_model.specs.Blocks.{LabelBlock}
use Rattle.mapf_model.specs.declared.conflict.Conflict.{Conflict}
use Rattle.mapf_model.specs.declared.conflict.Conflict.TheVariants.{Vertex, Swap}
use Rattle.mapf_model.specs.declared.problem.Agent.{Agent}
use Rattle.mapf_model.specs.Conflicts.{tick_of}
use Rattle.mapf_model.specs.Grid.{GridMap, IsGridMap, IsFree}
use Rattle.mapf_model.specs.Path.{at, IsLawful, IsTight}
use Rattle.mapf_model.specs.Plan.{Instance}
use Rattle.mapf_model.specs.Printed.{IsBlockInRange, AreBlocksInRange, IsConflictInRange, IsTreeInRange, IsPathInRange, IsPlanInRange}
use Rattle.mapf_model.specs.Tree.{ConstraintTree, Split, Leaf, Clash, IsProperSplit}
use Rattle.mapf_model.proofs.ClaimLemmas.{slice_get_inside}
use Rattle.mapf_model.proofs.DecidedLemmas.{cost_unique}
use Rattle.mapf_model.proofs.PathLemmas.{IsCost-tight}
use Rattle.mapf_cbs.specs.declared.node.Status.{Status}
use Rattle.mapf_cbs.specs.declared.node.Status.TheVariants.{Expanded}
use Rattle.mapf_model.specs.declared.bar.Bar.{Bar}
use Rattle.std.proofs.lemmas.List.Elements.{All-push}
use Rattle.mapf_cbs.specs.Search.{View, AreOwnBlocks, IsLive, IsSearched, AreBlocksAt, IsTreeAt}
use Rattle.mapf_cbs.proofs.TreeLemmas.{own_of_status}
use Rattle.mapf_cbs.proofs.ViewLemmas.{agent_path_of}
use Rattle.mapf_model.proofs.StepLemmas.{step_start, free_on_grid}

path_in_range : (grid : GridMap) (agent : Agent) (path : List ℕ) → IsGridMap grid → IsLawful grid agent path → IsTight path → length path ≤ 10000000 → IsPathInRange grid path
path_in_range grid agent [] shape lawful tight short = absurd (lawful.is_path.nonempty refl)
path_in_range grid agent (x ∷ xs) shape lawful tight short = record {
  some = omega arith;
  short = short;
  on_grid = λ k d within.
      let here : min k (length (x ∷ xs) - 1) ≡ k = omega arith in
      let free : IsFree grid (slice_index (x ∷ xs) k) = rw here at (step_start grid (at (x ∷ xs) k) (at (x ∷ xs) (k + 1)) (lawful.is_path.steps k)) in
      let same : get_or (x ∷ xs) k d ≡ slice_index (x ∷ xs) k = get_or_default (x ∷ xs) k d 0 within in
      rw same (free_on_grid grid (slice_index (x ∷ xs) k) shape free);
  tight = tight;
}

sum_at_most : (xs : List ℕ) (top : ℕ) → ((i x : ℕ) → slice_get xs i ≡ Some x → x ≤ top) → sum xs ≤ length xs * top
sum_at_most [] top each = omega arith
sum_at_most (x ∷ xs) top each =
    let first = each 0 x refl in
    let rest = sum_at_most xs top (λ i. each (suc i)) in
    rw sum_by-cons (omega arith)

module _ (problem : Instance) (shape : IsGridMap problem.grid) where
  conflict_in_range : (conflict : Conflict) → IsProperSplit problem conflict → tick_of conflict < 1000000 → IsConflictInRange problem.grid (length problem.agents) conflict
  conflict_in_range (Vertex i j cell tick) proper early = (proper.0.1, proper.0.2, free_on_grid problem.grid cell shape proper.1, omega arith)
  conflict_in_range (Swap i j from to tick) proper early = (proper.0.1, proper.0.2, free_on_grid problem.grid from shape proper.1.from_free, free_on_grid problem.grid to shape proper.1.to_free, omega arith)

  own_in_range : (bars : ℕ → List Bar) (blocks : List LabelBlock) → AreOwnBlocks problem bars blocks → All (λ block. length block.entries < 2 ^ 64) blocks → AreBlocksInRange problem.grid (length problem.agents) blocks
  own_in_range bars [] own small = record { each = λ k d within. absurd (omega arith); rising = λ a b d lt within. absurd (omega arith) }
  own_in_range bars (block ∷ []) own small = record {
    each = All-push (IsBlockInRange problem.grid (length problem.agents)) [] block (λ k d within. absurd (omega arith)) (record {
      agent = slice_get_within problem.agents block.agent own.agent own.known;
      some = own.some;
      few = small 0 block (omega arith);
      entries = own.labels.ranges;
      rising = own.labels.rising;
    });
    rising = λ a b d lt within. absurd (omega arith);
  }
  own_in_range bars (block ∷ other ∷ blocks) own small = absurd own

  at_node : (views : List View) (statuses : List Status) (count : ℕ) → IsSearched problem views statuses count → (k : ℕ) (status : Status) (blocks : List LabelBlock) → slice_get statuses k ≡ Some status → AreBlocksAt views k blocks → AreBlocksInRange problem.grid (length problem.agents) blocks
  at_node views statuses count searched k status blocks status_is here =
      let size = searched.lengths in
      let inside : k < length statuses = slice_get_within statuses k status status_is in
      let view = slice_get_inside views k (omega arith) in
      let own = own_of_status problem view.0 views k status (searched.each k view.0 status view.1 status_is) in
      let are = here view.0 view.1 in
      own_in_range view.0.context.bars blocks (subst (λ bs. AreOwnBlocks problem view.0.context.bars bs) (sym are.0) own) are.1

  pub tree_in_range : (views : List View) (statuses : List Status) (count : ℕ) → IsSearched problem views statuses count → (tree : ConstraintTree) (k : ℕ) → IsTreeAt views statuses k tree → IsTreeInRange problem.grid (length problem.agents) tree
  tree_in_range views statuses count searched (Split conflict blocks left right) k (here, a, expanded, on_left, on_right) =
      let size = searched.lengths in
      let inside : k < length statuses = slice_get_within statuses k (Expanded conflict a) expanded in
      let view = slice_get_inside views k (omega arith) in
      let at_expanded = searched.each k view.0 (Expanded conflict a) view.1 expanded in (
        conflict_in_range conflict at_expanded.proper at_expanded.early,
        at_node views statuses count searched k (Expanded conflict a) blocks expanded here,
        tree_in_range views statuses count searched left a on_left,
        tree_in_range views statuses count searched right (a + 1) on_right,
      )
  tree_in_range views statuses count searched (Leaf blocks) k (here, status, status_is, end) = at_node views statuses count searched k status blocks status_is here
  tree_in_range views statuses count searched (Clash i j) k none = absurd none

  module _ (view : View) (live : IsLive problem view) (short : All (λ path. length path ≤ 10000000) view.paths) (few : length problem.agents ≤ 200) where
    short_at : (i : ℕ) (path : List ℕ) → slice_get view.paths i ≡ Some path → length path ≤ 10000000
    short_at i path is =
        let here : get_or view.paths i path ≡ path = get_or_from_slice_get view.paths i path path is in
        rw here at (short i path (slice_get_within view.paths i path is))

    pub plan_in_range : 1 ≤ length problem.agents → IsPlanInRange problem.grid view.paths
    plan_in_range some =
        let count = live.counted.paths in
        record {
          some = omega arith;
          few = omega arith;
          paths = λ k d within.
              let agent = slice_get_inside problem.agents k (omega arith) in
              let r = agent_path_of problem view live.counted k agent.0 agent.1 in
              let agent_path = live.each k agent.0 r.0 r.1 agent.1 r.2 r.3 in
              let here : get_or view.paths k d ≡ r.0 = get_or_from_slice_get view.paths k r.0 d r.2 in
              rw here (path_in_range problem.grid agent.0 r.0 shape agent_path.lawful agent_path.tight (short_at k r.0 r.2));
        }

    cost_at_most : (i cost : ℕ) → slice_get view.costs i ≡ Some cost → cost ≤ 9999999
    cost_at_most i cost is =
        let count = live.counted.costs in
        let inside : i < length view.costs = slice_get_within view.costs i cost is in
        let agent = slice_get_inside problem.agents i (omega arith) in
        let r = agent_path_of problem view live.counted i agent.0 agent.1 in
        let agent_path = live.each i agent.0 r.0 cost agent.1 r.2 is in
        let same : cost ≡ length r.0 - 1 = cost_unique agent.0.goal r.0 cost (length r.0 - 1) agent_path.is_cost (IsCost-tight problem.grid agent.0 r.0 agent_path.lawful agent_path.tight) in
        let low = short_at i r.0 r.2 in
        omega (arith, same, low)

    pub sum_in_range : sum view.costs ≤ 1999999800
    sum_in_range =
        let top = sum_at_most view.costs 9999999 cost_at_most in
        let count = live.counted.costs in
        omega arith
