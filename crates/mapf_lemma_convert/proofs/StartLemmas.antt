-- Labels of the agents' starts, and their sum.
use Rattle.std.proofs.Common.{◌≡◌, ◌⊎◌, ℕ, ◌<◌, List, [], ◌∷◌, Option, Some, None, Contains, length, map, sum_by, slice_get, zero-add, refl, sym, ◌∙◌, ap, subst, inl, inr, ⊎_elim, arith}
use Rattle.std.proofs.lemmas.List.{length-map}
use Rattle.std.proofs.lemmas.List.FromFn.{length-range_with_len, get_or-range_with_len}
use Rattle.std.proofs.lemmas.List.Sums.{sum_by-cons}
use Rattle.std.proofs.lemmas.Option.{same_Some, slice_get-map, slice_get-get_or, slice_get_within}
use Rattle.mapf_model.specs.declared.item.Claim.{Claim}
use Rattle.mapf_model.specs.declared.item.Claim.TheVariants.{Cost, Bound, Impossible}
use Rattle.mapf_model.specs.declared.label.Label.{Label}
use Rattle.mapf_model.specs.declared.label.Label.TheVariants.{Ticks, Never}
use Rattle.mapf_model.specs.declared.problem.Agent.{Agent}
use Rattle.mapf_model.specs.Distance.{IsDistance, IsUnreachable}
use Rattle.mapf_model.specs.Grid.{GridMap}
use Rattle.mapf_model.specs.Labels.{Entries, IsAtMost, IsEntryOrDistance, IsLabel, label_plus, label_sum}
use Rattle.mapf_model.specs.Plan.{Instance}
use Rattle.mapf_model.specs.Tree.{AreStartLabels, StartsReach, StartsShow}
use Rattle.mapf_model.proofs.ClaimLemmas.{slice_get_inside}
use Rattle.mapf_model.proofs.ContainsLemmas.{Contains-cons_new, Contains-cons_old}
use Rattle.mapf_model.proofs.DecidedLemmas.{label_unique, same_list}
use Rattle.mapf_laws.proofs.ReachLemmas.{distance_or_none}
use Rattle.mapf_lemmas.specs.Groups.{ticks_of}
use Rattle.mapf_lemmas.specs.Lemmas.{all_agents, target_of}

-- each state has a label
pub some_label : (grid : GridMap) (goal : ℕ) (entries : Entries) (cell tick : ℕ) → (label : Label) × IsLabel grid goal entries cell tick label
some_label grid goal entries cell tick = by (entries cell tick)
  where
    by : (entry : Option Label) → (label : Label) × IsEntryOrDistance grid goal cell entry label
    by (Some listed) = (listed, refl)
    by None = ⊎_elim
        (λ (found : (distance : ℕ) × IsDistance grid goal cell distance). (Ticks found.0, found.1))
        (λ (none : IsUnreachable grid goal cell). (Never, none))
        (distance_or_none grid cell goal)

-- labels of the starts of all agents
abbrev pub AreFloors : Instance → (ℕ → Entries) → (ℕ → Label) → Type 0
AreFloors problem entries floor =
    (i : ℕ) (agent : Agent) → slice_get problem.agents i ≡ Some agent → IsLabel problem.grid agent.goal (entries i) agent.start 0 (floor i)

-- labels are infinite if one is, or add up
sum_cases : (floor : ℕ → Label) (agents : List ℕ) → ((agent : ℕ) × Contains agents agent × (floor agent ≡ Never)) ⊎ (label_sum (map floor agents) ≡ Ticks (sum_by (λ agent. ticks_of (floor agent)) agents))
sum_cases floor [] = inr refl
sum_cases floor (agent ∷ agents) = by (floor agent) refl (sum_cases floor agents)
  where
    by : (first : Label) → floor agent ≡ first → ((one : ℕ) × Contains agents one × (floor one ≡ Never)) ⊎ (label_sum (map floor agents) ≡ Ticks (sum_by (λ one. ticks_of (floor one)) agents)) →
        ((one : ℕ) × Contains (agent ∷ agents) one × (floor one ≡ Never)) ⊎ (label_plus (floor agent) (label_sum (map floor agents)) ≡ Ticks (sum_by (λ one. ticks_of (floor one)) (agent ∷ agents)))
    by Never is rest = inl (agent, Contains-cons_new agent agents, is)
    by (Ticks n) is (inl (one, held, never)) = inl (one, Contains-cons_old agent one agents held, never)
    by (Ticks n) is (inr same) = inr (rw (sum_by-cons (λ one. ticks_of (floor one)) agent agents, same, is) refl)

module _ (problem : Instance) where
  pub agent_of_all : (i : ℕ) → i < length problem.agents → Contains (all_agents problem) i
  agent_of_all i within =
      let long = length-range_with_len 0 (length problem.agents) in
      (i, omega (arith, long), get_or-range_with_len 0 (length problem.agents) i i within ∙ zero-add i)

  pub within_all : (i : ℕ) → Contains (all_agents problem) i → i < length problem.agents
  within_all i (k, within, is) =
      let long = length-range_with_len 0 (length problem.agents) in
      let inside : k < length problem.agents = omega (arith, long, within) in
      let same = get_or-range_with_len 0 (length problem.agents) k i inside in
      omega (arith, same, is, inside)

module _ (problem : Instance) (entries : ℕ → Entries) (floor : ℕ → Label) (floors : AreFloors problem entries floor) where
  abbrev sum_of_ticks : ℕ
  sum_of_ticks = sum_by (λ agent. ticks_of (floor agent)) (all_agents problem)

  -- some agent's label is infinite
  abbrev SomeNever : Type 0
  SomeNever = (agent : ℕ) × Contains (all_agents problem) agent × (floor agent ≡ Never)

  start_labels_are : (labels : List Label) → AreStartLabels problem entries labels → labels ≡ map floor (all_agents problem)
  start_labels_are labels starts =
      let count = starts.count in
      let long = length-range_with_len 0 (length problem.agents) in
      let mapped = length-map (all_agents problem) floor in
      same_list labels (map floor (all_agents problem)) (omega (arith, count, long, mapped)) (λ i x y this other.
      let within = slice_get_within labels i x this in
      let inside : i < length problem.agents = omega (arith, count, within) in
      let found = slice_get_inside problem.agents i inside in
      let listed : slice_get (all_agents problem) i ≡ Some i =
      slice_get-get_or (all_agents problem) i i (omega (arith, inside, long)) ∙ ap Some (get_or-range_with_len 0 (length problem.agents) i i inside ∙ zero-add i) in
      let same_floor : Some (floor i) ≡ Some y = sym (slice_get-map floor (all_agents problem) i ∙ rw listed refl) ∙ other in
      label_unique problem.grid found.0.goal (entries i) found.0.start 0 x (floor i) (starts.each i found.0 x found.1 this) (floors i found.0 found.1) ∙ same_Some (floor i) y same_floor)

  reach_of : (total : ℕ) → StartsReach problem total entries → SomeNever ⊎ IsAtMost (Ticks total) (Ticks sum_of_ticks)
  reach_of total (labels, starts, enough) = ⊎_elim
      (λ (never : SomeNever). inl never)
      (λ (same : label_sum (map floor (all_agents problem)) ≡ Ticks sum_of_ticks).
      inr (subst (IsAtMost (Ticks total)) same (subst (λ l. IsAtMost (Ticks total) (label_sum l)) (start_labels_are labels starts) enough)))
      (sum_cases floor (all_agents problem))

  pub shown_by_starts : (claim : Claim) → StartsShow problem claim entries → SomeNever ⊎ IsAtMost (target_of claim) (Ticks sum_of_ticks)
  shown_by_starts (Cost cost) shows = reach_of cost shows
  shown_by_starts (Bound bound) shows = reach_of bound shows
  shown_by_starts Impossible (i, agent, is, never) =
      inl (i, agent_of_all problem i (slice_get_within problem.agents i agent is), label_unique problem.grid agent.goal (entries i) agent.start 0 (floor i) Never (floors i agent is) never)
