-- What the search for a replanned agent found is a child.
use Rattle.std.proofs.Common.{◌≡◌, ℕ, ◌-◌, ◌<◌, ◌≤◌, ◌∷◌, [], zero, suc, true, List, Option, Some, Contains, length, sum, slice_get, refl, sym, ◌∙◌, ap, subst, ⊎_elim, arith, nat_eq, eq-eqb}
use Rattle.std.proofs.lemmas.Option.{same_Some}
use Rattle.std.proofs.lemmas.List.Sums.{sum_by-cons}
use Rattle.mapf_model.specs.declared.bar.Bar.{Bar}
use Rattle.mapf_model.specs.declared.constraint.Constraint.{Constraint}
use Rattle.mapf_model.specs.declared.problem.Agent.{Agent}
use Rattle.mapf_model.specs.declared.label.Entry.{Entry}
use Rattle.mapf_model.specs.declared.label.Label.TheVariants.{Ticks, Never}
use Rattle.mapf_model.specs.Blocks.{LabelBlock}
use Rattle.mapf_model.specs.Distance.{IsDistance}
use Rattle.mapf_model.specs.Grid.{GridMap}
use Rattle.mapf_model.specs.Path.{at, IsCost}
use Rattle.mapf_model.specs.Labels.{entries_of, IsLabel}
use Rattle.mapf_model.specs.Laws.{AreSameBars}
use Rattle.mapf_model.specs.Plan.{Instance}
use Rattle.mapf_model.specs.Tree.{child_context}
use Rattle.mapf_model.proofs.DecidedLemmas.{cost_unique}
use Rattle.mapf_model.proofs.ContainsLemmas.{Contains-cons_cases, Contains-cons_old}
use Rattle.mapf_spacetime.specs.declared.found.Found.{Found}
use Rattle.mapf_spacetime.specs.declared.found.Found.TheVariants.{Arrives, Dead}
use Rattle.mapf_spacetime.specs.Answer.{IsPathAnswer}
use Rattle.mapf_spacetime.specs.Task.{task_of}
use Rattle.mapf_cbs.specs.BoundBlocks.{AreBlocksOfBound, AreBlocksFor}
use Rattle.mapf_cbs.specs.CheapestPath.{IsCheapestPath, HasNoPath}
use Rattle.mapf_cbs.specs.Search.{View, IsLive, bound_blocks, live_child, dead_child}
use Rattle.mapf_cbs.specs.GeneratedChild.{EndsAt, IsTotal, IsGeneratedChild}
use Rattle.mapf_cbs.proofs.CheapestPathLemmas.{cheapest_of, distance_bound, none_of}
use Rattle.mapf_cbs.proofs.ViewLemmas.{agent_path_of}
use Rattle.mapf_cbs.proofs.ChildLemmas.{good_same, IsCheapestPath-same, HasNoPath-same, dead_child_dead, live_child_live, live_child_sum}

part_within : (xs : List ℕ) (i x : ℕ) → slice_get xs i ≡ Some x → x ≤ sum xs
part_within [] i x is = absurd cc
part_within (y ∷ xs) zero x is = let e : y ≡ x = same_Some y x is in rw sum_by-cons (omega arith)
part_within (y ∷ xs) (suc i) x is = let h = part_within xs i x is in rw sum_by-cons (omega arith)

pub found_ends : (problem : Instance) (agent : Agent) (bars : List Bar) (found : Found (List Entry)) → IsPathAnswer (task_of problem.grid agent bars) found → EndsAt found agent.goal
found_ends problem agent bars (Arrives path labels) is = is.lawful.goal
found_ends problem agent bars (Dead labels) is = tt

-- the same constraints, with one more
pub bars_with : (all front more : List Bar) (bar : Bar) → AreSameBars all front → AreSameBars more (bar ∷ front) → AreSameBars more (bar ∷ all)
bars_with all front more bar same added b = (
  λ in_more. ⊎_elim
      (λ (e : bar ≡ b). (0, omega arith, e))
      (λ (h : Contains front b). Contains-cons_old bar b all ((same b).1 h))
      (Contains-cons_cases bar b front ((added b).0 in_more)),
  λ in_all. ⊎_elim
      (λ (e : bar ≡ b). (added b).1 (0, omega arith, e))
      (λ (h : Contains all b). (added b).1 (Contains-cons_old bar b front ((same b).0 h)))
      (Contains-cons_cases bar b all in_all),
)

module _ (problem : Instance) (view : View) (live : IsLive problem view) (i : ℕ) (agent : Agent) (known : slice_get problem.agents i ≡ Some agent) (path : List ℕ) (path_is : slice_get view.paths i ≡ Some path) where
  pub ends_there : at path (length path - 1) ≡ agent.goal
  ends_there =
      let r = agent_path_of problem view live.counted i agent known in
      (live.each i agent path r.1 known path_is r.3).lawful.goal

  module _ (old : ℕ) (old_is : IsCost agent.goal path old) where
    old_cost : slice_get view.costs i ≡ Some old
    old_cost =
        let r = agent_path_of problem view live.counted i agent known in
        let p : r.0 ≡ path = same_Some r.0 path (sym r.2 ∙ path_is) in
        let is : IsCost agent.goal path r.1 = subst (λ x. IsCost agent.goal x r.1) p (live.each i agent r.0 r.1 known r.2 r.3).is_cost in
        r.3 ∙ ap Some (cost_unique agent.goal path r.1 old is old_is)

    pub old_within : old ≤ sum view.costs
    old_within = part_within view.costs i old old_cost

-- the blocks of the replanned agent, whether it arrives or not
module _ (grid : GridMap) (agent : Agent) (bars : List Bar) (bound : ℕ) where
  arrives_bound : (path : List ℕ) (cost : ℕ) (es : List Entry) → IsCheapestPath grid agent bars path cost (entries_of es) → (1 ≤ length es → (distance : ℕ) × IsDistance grid agent.goal agent.start distance × (distance < cost)) → AreBlocksOfBound grid agent bars bound (bound_blocks bound es)
  arrives_bound path cost [] cheapest needed = record { path = path; cost = cost; lawful = cheapest.lawful; satisfies = cheapest.satisfies; is_cost = cheapest.is_cost; distance = cheapest.start }
  arrives_bound path cost (e ∷ es) cheapest needed = (
    refl,
    λ kept.
        let (distance, is, less) = needed (omega arith) in
        let low = cheapest.least kept.path kept.cost kept.lawful kept.satisfies kept.is_cost in
        let short = kept.distance.least distance is.walk in
        omega arith,
    Ticks cost,
    record { path = path; lawful = cheapest.lawful; satisfies = cheapest.satisfies; is_cost = cheapest.is_cost; least = cheapest.least },
    cheapest.start,
  )

  dead_bound : (es : List Entry) → HasNoPath grid agent bars (entries_of es) → (es ≡ [] → ⊥) → AreBlocksOfBound grid agent bars bound (bound_blocks bound es)
  dead_bound [] blocked some = absurd (some refl)
  dead_bound (e ∷ es) blocked some = (refl, λ kept. blocked.none kept.path kept.lawful kept.satisfies, Never, blocked.none, blocked.start)

module _ (problem : Instance) (view : View) (live : IsLive problem view) (constraint : Constraint) (agent : Agent) (known : slice_get problem.agents constraint.agent ≡ Some agent) (bars : List Bar) (same : AreSameBars bars (constraint.bar ∷ view.context.bars constraint.agent))
    (old : ℕ) (path : List ℕ) (path_is : slice_get view.paths constraint.agent ≡ Some path) (old_is : IsCost agent.goal path old)
  where
    -- the constraints of the replanned agent at the child
    bound_there : (blocks : List LabelBlock) → AreBlocksOfBound problem.grid agent (constraint.bar ∷ view.context.bars constraint.agent) constraint.agent blocks → AreBlocksFor problem (child_context view.context view.blocks constraint) (Some constraint.agent) blocks
    bound_there blocks are = (agent, known, let here : nat_eq constraint.agent constraint.agent ≡ true = eq-eqb constraint.agent constraint.agent refl in rw here are)

    -- an agent that arrived before and now can't has labels
    some_labels : (labels : List Entry) → HasNoPath problem.grid agent (constraint.bar ∷ view.context.bars constraint.agent) (entries_of labels) → labels ≡ [] → ⊥
    some_labels labels blocked none =
        let r = agent_path_of problem view live.counted constraint.agent agent known in
        let before = live.each constraint.agent agent r.0 r.1 known r.2 r.3 in
        distance_bound problem.grid agent (view.context.bars constraint.agent) r.0 r.1 Never before.lawful before.satisfies before.is_cost (subst (λ xs. IsLabel problem.grid agent.goal (entries_of xs) agent.start 0 Never) none blocked.start)

    pub generated : (found : Found (List Entry)) → IsPathAnswer (task_of problem.grid agent bars) found → (total : Option ℕ) → old ≤ sum view.costs → IsTotal found agent.goal (sum view.costs - old) total → IsGeneratedChild problem view constraint found total
    generated (Arrives new labels) arrival total less (cost', is', fits, total_is) =
        let cost = arrival.cost in
        let agent_path = cheapest_of problem.grid agent bars new labels arrival in
        let agent_path' = IsCheapestPath-same problem.grid agent bars (constraint.bar ∷ view.context.bars constraint.agent) new cost (entries_of labels) same agent_path in
        let good = good_same problem.grid agent bars (constraint.bar ∷ view.context.bars constraint.agent) labels same arrival.labels in
        let one : cost' ≡ cost = cost_unique agent.goal new cost' cost is' agent_path.is_cost in
        let sums = live_child_sum problem view live constraint agent known labels good new cost agent_path' old (old_cost problem view live constraint.agent agent known path path_is old old_is) in
        let a = sums.0 in let b = sums.1 in
        subst (λ t. IsGeneratedChild problem view constraint (Arrives new labels) t) (sym total_is) (record {
          child = live_child view constraint new cost labels;
          is_child = (cost, refl);
          context = refl;
          bound = bound_there (bound_blocks constraint.agent labels) (arrives_bound problem.grid agent (constraint.bar ∷ view.context.bars constraint.agent) constraint.agent new cost labels agent_path' arrival.needed);
          state = (live_child_live problem view live constraint agent known labels good new cost agent_path', omega arith, omega arith, omega arith);
        })
    generated (Dead labels) death total less total_is =
        let blocked = HasNoPath-same problem.grid agent bars (constraint.bar ∷ view.context.bars constraint.agent) (entries_of labels) same (none_of problem.grid agent bars labels death) in
        subst (λ t. IsGeneratedChild problem view constraint (Dead labels) t) (sym total_is) (record {
          child = dead_child view constraint labels;
          is_child = refl;
          context = refl;
          bound = bound_there (bound_blocks constraint.agent labels) (dead_bound problem.grid agent (constraint.bar ∷ view.context.bars constraint.agent) constraint.agent labels blocked (some_labels labels blocked));
          state = dead_child_dead problem view live constraint agent known labels (good_same problem.grid agent bars (constraint.bar ∷ view.context.bars constraint.agent) labels same death.labels) blocked;
        })
