-- Children of a node: more constraints, no cheaper path, conflicts before a bound.
use Rattle.std.proofs.Common.{◌≡◌, ◌≢◌, ◌⊎◌, ℕ, ◌+◌, ◌<◌, ◌≤◌, Bool, true, false, List, [], ◌∷◌, Option, Some, None, Contains, length, sum, slice_get, slice_set, refl, sym, ◌∙◌, subst, inl, inr, ⊎_elim, arith, nat_eq, cond, eq-eqb}
use Rattle.std.proofs.lemmas.Bool.{cases_eq, cases_lt, cond_both, eqb-true}
use Rattle.std.proofs.lemmas.Option.{slice_get_within, same_Some}
use Rattle.mapf_model.specs.declared.bar.Bar.{Bar}
use Rattle.mapf_model.specs.declared.constraint.Constraint.{Constraint}
use Rattle.mapf_model.specs.declared.problem.Agent.{Agent}
use Rattle.mapf_model.specs.declared.label.Entry.{Entry}
use Rattle.mapf_model.specs.declared.conflict.Conflict.{Conflict}
use Rattle.mapf_model.specs.declared.conflict.Conflict.TheVariants.{Vertex, Swap}
use Rattle.mapf_model.specs.Grid.{GridMap, Step, IsFree, free_cell_count}
use Rattle.mapf_model.specs.Path.{at}
use Rattle.mapf_model.specs.declared.label.Label.{Label}
use Rattle.mapf_model.specs.declared.label.Label.TheVariants.{Ticks, Never}
use Rattle.mapf_model.specs.Blocks.{LabelBlock}
use Rattle.mapf_model.specs.Labels.{Entries, entries_of, IsLabel}
use Rattle.mapf_model.specs.Plan.{Instance}
use Rattle.mapf_model.specs.Tree.{with_constraint, left_constraint, right_constraint, IsProperSplit, ShareGoal, block_of, entries_or}
use Rattle.mapf_model.specs.Conflicts.{HasConflict, tick_of}
use Rattle.mapf_model.specs.Laws.{AreSameBars}
use Rattle.mapf_model.proofs.BarLemmas.{Satisfies-same, AreSound-same}
use Rattle.mapf_model.proofs.ClaimLemmas.{slice_get_inside}
use Rattle.mapf_model.proofs.ContainsLemmas.{Contains-cons_cases, Contains-cons_old}
use Rattle.mapf_constraints.specs.BarSets.{bar_tick, AreBefore}
use Rattle.mapf_spacetime.specs.Answer.{AreGoodLabels}
use Rattle.mapf_spacetime.specs.Task.{task_of}
use Rattle.mapf_cbs.specs.CheapestPath.{IsCheapestPath, HasNoPath, IsTableBar}
use Rattle.mapf_cbs.specs.Search.{View, entries_at, IsCheapestOf, AreOwnBlocks, IsLive, IsDead, bound_blocks, live_child, dead_child}
use Rattle.mapf_cbs.proofs.CheapestPathLemmas.{distance_bound, cheapest_with}
use Rattle.mapf_model.proofs.PlaceLemmas.{slice_get-set_same, slice_get-set_other, length-slice_set}
use Rattle.mapf_cbs.proofs.SumLemmas.{sum-set}
use Rattle.mapf_cbs.proofs.ViewLemmas.{agent_path_of}
use Rattle.mapf_model.proofs.StepLemmas.{step_start}

-- good labels are good under a list of the same constraints
pub good_same : (grid : GridMap) (agent : Agent) (xs ys : List Bar) (entries : List Entry) → AreSameBars xs ys → AreGoodLabels (task_of grid agent xs) entries → AreGoodLabels (task_of grid agent ys) entries
good_same grid agent xs ys entries same good = record { sound = AreSound-same xs ys same grid agent.goal (entries_of entries) good.sound; rising = good.rising; ranges = good.ranges }

pub IsCheapestPath-same : (grid : GridMap) (agent : Agent) (xs ys : List Bar) (path : List ℕ) (cost : ℕ) (entries : Entries) → AreSameBars xs ys → IsCheapestPath grid agent xs path cost entries → IsCheapestPath grid agent ys path cost entries
IsCheapestPath-same grid agent xs ys path cost entries same agent_path = record {
  lawful = agent_path.lawful;
  satisfies = Satisfies-same xs ys same path agent_path.satisfies;
  tight = agent_path.tight;
  is_cost = agent_path.is_cost;
  least = λ other other_cost lawful satisfies is. agent_path.least other other_cost lawful (λ bar in_xs. satisfies bar ((same bar).0 in_xs)) is;
  first = λ other tick lawful satisfies is agree. agent_path.first other tick lawful (λ bar in_xs. satisfies bar ((same bar).0 in_xs)) is agree;
  start = agent_path.start;
  below = λ horizon below. agent_path.below horizon (λ bar in_xs. below bar ((same bar).0 in_xs));
}

pub HasNoPath-same : (grid : GridMap) (agent : Agent) (xs ys : List Bar) (entries : Entries) → AreSameBars xs ys → HasNoPath grid agent xs entries → HasNoPath grid agent ys entries
HasNoPath-same grid agent xs ys entries same blocked = record {
  none = λ path lawful satisfies. blocked.none path lawful (λ bar in_xs. satisfies bar ((same bar).0 in_xs));
  start = blocked.start;
}

-- no other agent has a block
bound_other : (bound : ℕ) (es : List Entry) (i : ℕ) → i ≢ bound → block_of (bound_blocks bound es) i ≡ None
bound_other bound [] i differ = refl
bound_other bound (e ∷ es) i differ = cond_both (nat_eq bound i) (Some (record { agent = bound; entries = e ∷ es })) None (λ (o : Option LabelBlock). o ≡ None) (λ same. absurd (differ (sym (eqb-true bound i same)))) (λ f. refl)

-- the label of the replanned agent's start is that of the entries that were found; if there are none, that of the entries of the parent
bound_start : (grid : GridMap) (agent : Agent) (bound : ℕ) (es : List Entry) (above : Entries) (label : Label) → IsLabel grid agent.goal (entries_of es) agent.start 0 label → (es ≡ [] → IsLabel grid agent.goal above agent.start 0 label) →
    IsLabel grid agent.goal (entries_or (block_of (bound_blocks bound es) bound) above) agent.start 0 label
bound_start grid agent bound [] above label here none = none refl
bound_start grid agent bound (e ∷ es) above label here none = let same : nat_eq bound bound ≡ true = eq-eqb bound bound refl in rw same here

-- the block of the entries that were found
bound_own : (problem : Instance) (bars : ℕ → List Bar) (bound : ℕ) (agent : Agent) → slice_get problem.agents bound ≡ Some agent → (es : List Entry) → AreGoodLabels (task_of problem.grid agent (bars bound)) es → AreOwnBlocks problem bars (bound_blocks bound es)
bound_own problem bars bound agent known [] good = tt
bound_own problem bars bound agent known (e ∷ es) good = record { agent = agent; known = known; labels = good; some = omega arith }

module _ (problem : Instance) (view : View) (live : IsLive problem view) (constraint : Constraint) (agent : Agent) (known : slice_get problem.agents constraint.agent ≡ Some agent) (es : List Entry)
    (good : AreGoodLabels (task_of problem.grid agent (constraint.bar ∷ view.context.bars constraint.agent)) es)
  where
    own : AreOwnBlocks problem (with_constraint view.context.bars constraint) (bound_blocks constraint.agent es)
    own = bound_own problem (with_constraint view.context.bars constraint) constraint.agent agent known es (let here : nat_eq constraint.agent constraint.agent ≡ true = eq-eqb constraint.agent constraint.agent refl in rw here good)

    -- an agent that isn't replanned keeps its path
    kept : (k : ℕ) (other : Agent) (path : List ℕ) (cost : ℕ) → k ≢ constraint.agent → slice_get problem.agents k ≡ Some other → slice_get view.paths k ≡ Some path → slice_get view.costs k ≡ Some cost →
        (b : Bool) → nat_eq k constraint.agent ≡ b → IsCheapestPath problem.grid other (cond b (constraint.bar ∷ view.context.bars k) (view.context.bars k)) path cost (entries_or (block_of (bound_blocks constraint.agent es) k) (entries_at view k))
    kept k other path cost differ a p c true is = absurd (differ (eqb-true k constraint.agent is))
    kept k other path cost differ a p c false is =
        subst (λ (o : Option LabelBlock). IsCheapestPath problem.grid other (view.context.bars k) path cost (entries_or o (entries_at view k))) (sym (bound_other constraint.agent es k differ)) (live.each k other path cost a p c)

    -- the replanned agent's path at the parent
    old : (path : List ℕ) × (cost : ℕ) × IsCheapestPath problem.grid agent (view.context.bars constraint.agent) path cost (entries_at view constraint.agent)
    old = let r = agent_path_of problem view live.counted constraint.agent agent known in (r.0, r.1, live.each constraint.agent agent r.0 r.1 known r.2 r.3)

    pub dead_child_dead : HasNoPath problem.grid agent (constraint.bar ∷ view.context.bars constraint.agent) (entries_of es) → IsDead problem (dead_child view constraint es)
    dead_child_dead blocked = record {
      counted = record { paths = live.counted.paths; costs = live.counted.costs };
      own = own;
      who = constraint.agent;
      agent = agent;
      known = known;
      blocked =
          let here : nat_eq constraint.agent constraint.agent ≡ true = eq-eqb constraint.agent constraint.agent refl in
          let start : IsLabel problem.grid agent.goal (entries_or (block_of (bound_blocks constraint.agent es) constraint.agent) (entries_at view constraint.agent)) agent.start 0 Never =
          bound_start problem.grid agent constraint.agent es (entries_at view constraint.agent) Never blocked.start (λ none. absurd
          (distance_bound problem.grid agent (view.context.bars constraint.agent) old.0 old.1 Never old.2.lawful old.2.satisfies old.2.is_cost (subst (λ xs. IsLabel problem.grid agent.goal (entries_of xs) agent.start 0 Never) none blocked.start))) in
          rw here (record { none = blocked.none; start = start });
      each = λ k other path cost differ a p c. kept k other path cost differ a p c (nat_eq k constraint.agent) refl;
    }

    module _ (path' : List ℕ) (cost' : ℕ) (agent_path : IsCheapestPath problem.grid agent (constraint.bar ∷ view.context.bars constraint.agent) path' cost' (entries_of es)) where
      within : constraint.agent < length problem.agents
      within = slice_get_within problem.agents constraint.agent agent known

      old_no_dearer : old.1 ≤ cost'
      old_no_dearer = old.2.least path' cost' agent_path.lawful (λ b in_it. agent_path.satisfies b (Contains-cons_old constraint.bar b (view.context.bars constraint.agent) in_it)) agent_path.is_cost

      -- if there are no entries the cost is the distance, and so it is the cost at the parent
      same_above : es ≡ [] → IsLabel problem.grid agent.goal (entries_at view constraint.agent) agent.start 0 (Ticks cost')
      same_above none =
          let high : cost' ≤ old.1 = distance_bound problem.grid agent (view.context.bars constraint.agent) old.0 old.1 (Ticks cost') old.2.lawful old.2.satisfies old.2.is_cost (subst (λ xs. IsLabel problem.grid agent.goal (entries_of xs) agent.start 0 (Ticks cost')) none agent_path.start) in
          let low = old_no_dearer in
          let same : old.1 ≡ cost' = omega (arith, high, low) in
          subst (λ n. IsLabel problem.grid agent.goal (entries_at view constraint.agent) agent.start 0 (Ticks n)) same old.2.start

      new_path : IsCheapestPath problem.grid agent (constraint.bar ∷ view.context.bars constraint.agent) path' cost' (entries_or (block_of (bound_blocks constraint.agent es) constraint.agent) (entries_at view constraint.agent))
      new_path = cheapest_with problem.grid agent (constraint.bar ∷ view.context.bars constraint.agent) path' cost' (entries_of es) (entries_or (block_of (bound_blocks constraint.agent es) constraint.agent) (entries_at view constraint.agent)) agent_path
          (bound_start problem.grid agent constraint.agent es (entries_at view constraint.agent) (Ticks cost') agent_path.start same_above)

      by_agent : (k : ℕ) (other : Agent) (path : List ℕ) (cost : ℕ) → slice_get problem.agents k ≡ Some other → slice_get (slice_set view.paths constraint.agent path') k ≡ Some path → slice_get (slice_set view.costs constraint.agent cost') k ≡ Some cost →
          (k ≡ constraint.agent) ⊎ (k ≢ constraint.agent) → IsCheapestOf problem (live_child view constraint path' cost' es) k other path cost
      by_agent k other path cost a p c (inl same) =
          let one = live.counted.paths in let two = live.counted.costs in let three = within in
          let here : nat_eq k constraint.agent ≡ true = eq-eqb k constraint.agent same in
          let this_path : path' ≡ path = same_Some path' path (sym (slice_get-set_same view.paths constraint.agent path' (omega arith)) ∙ subst (λ n. slice_get (slice_set view.paths constraint.agent path') n ≡ Some path) same p) in
          let this_cost : cost' ≡ cost = same_Some cost' cost (sym (slice_get-set_same view.costs constraint.agent cost' (omega arith)) ∙ subst (λ n. slice_get (slice_set view.costs constraint.agent cost') n ≡ Some cost) same c) in
          let this_agent : agent ≡ other = same_Some agent other (sym known ∙ subst (λ n. slice_get problem.agents n ≡ Some other) same a) in
          let moved : IsCheapestPath problem.grid other (constraint.bar ∷ view.context.bars constraint.agent) path cost (entries_or (block_of (bound_blocks constraint.agent es) constraint.agent) (entries_at view constraint.agent)) =
          subst (λ x. IsCheapestPath problem.grid x (constraint.bar ∷ view.context.bars constraint.agent) path cost (entries_or (block_of (bound_blocks constraint.agent es) constraint.agent) (entries_at view constraint.agent))) this_agent
          (subst (λ x. IsCheapestPath problem.grid agent (constraint.bar ∷ view.context.bars constraint.agent) x cost (entries_or (block_of (bound_blocks constraint.agent es) constraint.agent) (entries_at view constraint.agent))) this_path
          (subst (λ x. IsCheapestPath problem.grid agent (constraint.bar ∷ view.context.bars constraint.agent) path' x (entries_or (block_of (bound_blocks constraint.agent es) constraint.agent) (entries_at view constraint.agent))) this_cost new_path)) in
          rw here (subst (λ n. IsCheapestPath problem.grid other (constraint.bar ∷ view.context.bars n) path cost (entries_or (block_of (bound_blocks constraint.agent es) n) (entries_at view n))) (sym same) moved)
      by_agent k other path cost a p c (inr differ) =
          kept k other path cost differ a (sym (slice_get-set_other view.paths constraint.agent k path' differ) ∙ p) (sym (slice_get-set_other view.costs constraint.agent k cost' differ) ∙ c) (nat_eq k constraint.agent) refl

      pub live_child_live : IsLive problem (live_child view constraint path' cost' es)
      live_child_live = record {
        counted = record { paths = length-slice_set view.paths constraint.agent path' ∙ live.counted.paths; costs = length-slice_set view.costs constraint.agent cost' ∙ live.counted.costs };
        own = own;
        each = λ k other path cost a p c. by_agent k other path cost a p c (cases_eq k constraint.agent);
      }

      -- a child is no cheaper
      pub live_child_sum : (cost : ℕ) → slice_get view.costs constraint.agent ≡ Some cost → (sum (slice_set view.costs constraint.agent cost') + cost ≡ sum view.costs + cost') × (cost ≤ cost')
      live_child_sum cost is =
          let r = agent_path_of problem view live.counted constraint.agent agent known in
          let before = live.each constraint.agent agent r.0 cost known r.2 is in
          (sum-set view.costs constraint.agent cost cost' is, before.least path' cost' agent_path.lawful (λ b in_it. agent_path.satisfies b (Contains-cons_old constraint.bar b (view.context.bars constraint.agent) in_it)) agent_path.is_cost)

-- the constraints of a child, one of which is new, are before a later bound
pub AreBefore-with_constraint : (bars : ℕ → List Bar) (constraint : Constraint) (horizon later : ℕ) → horizon ≤ later → bar_tick constraint.bar < later → ((k : ℕ) → AreBefore horizon (bars k)) → (k : ℕ) → AreBefore later (with_constraint bars constraint k)
AreBefore-with_constraint bars constraint horizon later more this each k =
    cond_both (nat_eq k constraint.agent) (constraint.bar ∷ bars k) (bars k) (λ bs. AreBefore later bs)
    (λ same b in_it. ⊎_elim
    (λ (e : constraint.bar ≡ b). subst (λ x. bar_tick x < later) e this)
    (λ (rest : Contains (bars k) b). let low = each k b rest in omega arith)
    (Contains-cons_cases constraint.bar b (bars k) in_it))
    (λ other b in_it. let low = each k b in_it in omega arith)

-- both constraints of a conflict are at its tick
pub left_tick : (conflict : Conflict) → bar_tick (left_constraint conflict).bar ≡ tick_of conflict
left_tick (Vertex i j cell tick) = refl
left_tick (Swap i j from to tick) = refl

pub right_tick : (conflict : Conflict) → bar_tick (right_constraint conflict).bar ≡ tick_of conflict
right_tick (Vertex i j cell tick) = refl
right_tick (Swap i j from to tick) = refl

-- a constraint of an agent that has a path, which a table can hold
abbrev pub IsOfPaths : List (List ℕ) → Constraint → Type 0
IsOfPaths paths constraint = (constraint.agent < length paths) × IsTableBar constraint.bar

-- so are both constraints of a conflict
pub of_paths : (paths : List (List ℕ)) (conflict : Conflict) → HasConflict paths conflict → tick_of conflict < 1000000 → IsOfPaths paths (left_constraint conflict) × IsOfPaths paths (right_constraint conflict)
of_paths paths (Vertex i j cell tick) (differ, p, q, ip, jq, here, there) early = ((slice_get_within paths i p ip, (early, tt)), (slice_get_within paths j q jq, (early, tt)))
of_paths paths (Swap i j from to tick) (differ, moved, p, q, ip, jq, here, there) early = ((slice_get_within paths i p ip, (early, moved)), (slice_get_within paths j q jq, (early, λ e. moved (sym e))))

module _ (problem : Instance) (view : View) (live : IsLive problem view) where
  agent_of : (i : ℕ) (path : List ℕ) → slice_get view.paths i ≡ Some path → (agent : Agent) × (cost : ℕ) × (slice_get problem.agents i ≡ Some agent) × IsCheapestOf problem view i agent path cost
  agent_of i path is =
      let one = live.counted.paths in
      let inside : i < length view.paths = slice_get_within view.paths i path is in
      let agent : (agent : Agent) × (slice_get problem.agents i ≡ Some agent) = slice_get_inside problem.agents i (omega arith) in
      let r = agent_path_of problem view live.counted i agent.0 agent.1 in
      (agent.0, r.1, agent.1, live.each i agent.0 path r.1 agent.1 is r.3)

  -- a conflict of the paths is proper
  pub conflict_proper : (conflict : Conflict) → HasConflict view.paths conflict → IsProperSplit problem conflict
  conflict_proper (Vertex i j cell tick) (differ, p, q, ip, jq, here, there) =
      let a = agent_of i p ip in let b = agent_of j q jq in (
        (differ, slice_get_within problem.agents i a.0 a.2, slice_get_within problem.agents j b.0 b.2),
        subst (λ c. IsFree problem.grid c) here (step_start problem.grid (at p tick) (at p (tick + 1)) (a.3.lawful.is_path.steps tick)),
      )
  conflict_proper (Swap i j from to tick) (differ, moved, p, q, ip, jq, here, there) =
      let a = agent_of i p ip in let b = agent_of j q jq in
      let step : Step problem.grid from to = subst (λ c. Step problem.grid c to) here.0 (subst (λ c. Step problem.grid (at p tick) c) here.1 (a.3.lawful.is_path.steps tick)) in (
        (differ, slice_get_within problem.agents i a.0 a.2, slice_get_within problem.agents j b.0 b.2),
        elim step [ inl wait ↦ absurd (moved wait.1) | inr move ↦ move ],
      )

  module _ (goals : (i j : ℕ) → ShareGoal problem i j → ⊥) (horizon : ℕ) (below : (i : ℕ) → AreBefore horizon (view.context.bars i)) where
    -- after both arrivals two agents with different goals don't meet
    pub conflict_early : (conflict : Conflict) → HasConflict view.paths conflict → tick_of conflict < horizon + free_cell_count problem.grid
    conflict_early (Vertex i j cell tick) (differ, p, q, ip, jq, here, there) =
        let a = agent_of i p ip in let b = agent_of j q jq in
        let low = a.3.below horizon (below i) in let low' = b.3.below horizon (below j) in
        ⊎_elim
        (λ (less : tick < a.1). omega arith)
        (λ (past : a.1 ≤ tick). ⊎_elim
        (λ (less : tick < b.1). omega arith)
        (λ (past' : b.1 ≤ tick). absurd (goals i j (differ, a.0, b.0, a.2, b.2, sym (a.3.is_cost.rests tick past) ∙ here ∙ sym there ∙ b.3.is_cost.rests tick past')))
        (cases_lt tick b.1))
        (cases_lt tick a.1)
    conflict_early (Swap i j from to tick) (differ, moved, p, q, ip, jq, here, there) =
        let a = agent_of i p ip in let b = agent_of j q jq in
        let low = a.3.below horizon (below i) in let low' = b.3.below horizon (below j) in
        ⊎_elim
        (λ (less : tick < a.1). omega arith)
        (λ (past : a.1 ≤ tick). absurd (moved (sym here.0 ∙ a.3.is_cost.rests tick past ∙ sym (a.3.is_cost.rests (tick + 1) (omega arith)) ∙ here.1)))
        (cases_lt tick a.1)
