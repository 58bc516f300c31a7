-- How a group is judged, use by use.
use Rattle.std.proofs.Common.{◌≡◌, ◌⊎◌, ℕ, ◌+◌, ◌*◌, ◌<◌, ◌≤◌, List, [], ◌∷◌, ◌++◌, Option, All, Contains, length, take, get_or, slice_index_or, refl, sym, ◌∙◌, ap, subst, arith}
use Rattle.std.proofs.lemmas.List.{get_or_default, take_all, take_more}
use Rattle.std.proofs.lemmas.List.Elements.{All-contains, All-more}
use Rattle.std.proofs.lemmas.Nat.{mul-le}
use Rattle.std.proofs.lemmas.Option.{get_or_from_slice_get, slice_get_within}
use Rattle.mapf_cases.specs.declared.loads.Loads.{Loads}
use Rattle.mapf_cases.specs.Floors.{agents_of, labels_of}
use Rattle.mapf_cases.specs.Leaves.{divided_label, use_worth}
use Rattle.mapf_cases.specs.Loads.{AreLoads, IsOverloaded}
use Rattle.mapf_cases.specs.Places.{LeafPlace, IsUsable, MayUse, AreGroups, IsFirstBadUse, cut_group, cut_groups, no_group, weight_at, weight_on}
use Rattle.mapf_cases.specs.Ranges.{IsGroupInRange, IsStatementInRange, IsWeightInRange, greatest_counted, greatest_unit}
use Rattle.mapf_cases.specs.Totals.{label_total}
use Rattle.mapf_cases.proofs.FloorLemmas.{agents_are}
use Rattle.mapf_cases.proofs.LoadLemmas.{next_group, same_loads}
use Rattle.mapf_cases.proofs.TotalLemmas.{total_more}
use Rattle.mapf_cases.proofs.WeightLemmas.{bad_agent, bad_lemma, divided_label_small, group_more, sum_small, weight_more}
use Rattle.mapf_lemmas.specs.declared.leaf.Use.{Use}
use Rattle.mapf_lemmas.specs.Groups.{Group, occurrences, ticks_of}
use Rattle.mapf_lemmas.specs.Statements.{Statement}
use Rattle.mapf_model.specs.declared.label.Label.{Label}
use Rattle.mapf_model.specs.Labels.{label_plus}
use Rattle.mapf_model.specs.Limits.{most_agents}

-- no use
abbrev pub no_use : Use
no_use = record { lemma = 0; weight = 0 }

-- the agents of a statement that may be used have a property that those of the scope have
pub all_inside : (P : ℕ → Type 0) (scope agents list : List ℕ) → list ≡ agents → All (Contains scope) agents → All P scope → All P list
all_inside P scope agents list same inside all = subst (All P) (sym same) (λ k d within. All-contains P scope (slice_index_or agents k d) all (inside k d within))

pub known_in_range : (place : LeafPlace) (number : Option ℕ) (lemma : ℕ) (statement : Statement) → All IsStatementInRange place.known → IsUsable place number lemma statement → IsStatementInRange statement
known_in_range place number lemma statement small is =
    subst IsStatementInRange (get_or_from_slice_get place.known lemma statement statement is.named) (small lemma statement (slice_get_within place.known lemma statement is.named))

module _
    (place : LeafPlace) (number : Option ℕ) (groups : List Group) (count : ℕ) (within : count < length groups)
    (group : Group) (same : group ≡ slice_index_or groups count no_group) (range : All IsGroupInRange groups)
    (before : AreGroups place number (take count groups))
    (k : ℕ) (usable : All (λ used. MayUse place number used.lemma) (take k group.uses)) (loads : Loads)
    (are : AreLoads place.agents (weight_at place.known groups) count (weight_on place.known (cut_group k group)) group.divisor loads)
  where
    group_range : IsGroupInRange group
    group_range = subst IsGroupInRange (sym same) (range count no_group within)

    pub positive : 1 ≤ group.divisor
    positive = group_range.some

    -- the sum of what the uses are worth is small
    pub first_worth : (unit : ℕ) (amounts : List Label) → unit ≤ greatest_unit → All IsStatementInRange place.known →
        ticks_of (label_total (use_worth (labels_of place.known unit amounts)) (take k group.uses)) ≤ greatest_counted * (length place.agents * group.divisor)
    first_worth unit amounts few small = sum_small place number (weight_at place.known groups) count (cut_group k group) loads usable are unit amounts few small

    pub first_worth_fits : (unit : ℕ) (amounts : List Label) (sum : Label) → unit ≤ greatest_unit → All IsStatementInRange place.known → length place.agents ≤ most_agents →
        sum ≡ label_total (use_worth (labels_of place.known unit amounts)) (take k group.uses) → ticks_of sum ≤ 4000000000000000000
    first_worth_fits unit amounts sum few small scope is =
        let bound = first_worth unit amounts few small in
        let product = mul-le (length place.agents) group.divisor most_agents greatest_unit scope group_range.few in
        let ticks = ap ticks_of is in
        omega (arith, bound, product, ticks)

    pub worth_small : (unit : ℕ) (amounts : List Label) (sum : Label) → unit ≤ greatest_unit → All IsStatementInRange place.known → length place.agents ≤ most_agents →
        sum ≡ label_total (use_worth (labels_of place.known unit amounts)) (take k group.uses) → ticks_of (divided_label sum group.divisor) ≤ most_agents * greatest_counted
    worth_small unit amounts sum few small scope is =
        let bound = first_worth unit amounts few small in
        let ticks = ap ticks_of is in
        let turned : greatest_counted * (length place.agents * group.divisor) ≡ group.divisor * (length place.agents * greatest_counted) = omega arith in
        let less = divided_label_small sum group.divisor (length place.agents * greatest_counted) positive (omega (arith, bound, ticks, turned)) in
        omega (arith, less, scope)

    before_cut : AreGroups place number (cut_groups groups count k)
    before_cut = subst (λ g. AreGroups place number (take count groups ++ cut_group k g ∷ [])) same
        (group_more place number (weight_at place.known groups) count (cut_group k group) loads usable are groups (omega arith) (λ j agent low. refl) before)

    module _ (inside : k < length group.uses) (used : Use) (used_is : used ≡ get_or group.uses k used) where
      inside_there : k < length (slice_index_or groups count no_group).uses
      inside_there = subst (λ g. k < length g.uses) same inside

      pub used_here : used ≡ get_or group.uses k no_use
      used_here = used_is ∙ get_or_default group.uses k used no_use inside

      used_there : used ≡ get_or (slice_index_or groups count no_group).uses k no_use
      used_there = used_here ∙ ap (λ g. get_or g.uses k no_use) same

      pub use_range : IsWeightInRange used
      use_range = subst IsWeightInRange (sym used_here) (group_range.weights k no_use inside)

      pub first_bad_lemma : (MayUse place number used.lemma → ⊥) → IsFirstBadUse place number groups count k
      first_bad_lemma bad = bad_lemma place number groups count within k inside_there before_cut (subst (λ u. MayUse place number u.lemma → ⊥) used_there bad)

      module _ (statement : Statement) (is : IsUsable place number used.lemma statement) (agents : List ℕ) (agents_same : agents ≡ statement.agents) where
        list_is : agents ≡ agents_of place.known used.lemma
        list_is = agents_same ∙ sym (agents_are place number used.lemma statement is)

        pub agents_there : All (Contains place.agents) agents
        agents_there = subst (All (Contains place.agents)) (sym agents_same) is.inside

        pub first_bad_agent : IsOverloaded agents (weight_at place.known groups) count (λ agent. weight_on place.known (cut_group k group) agent + used.weight * occurrences agent agents) group.divisor →
            IsFirstBadUse place number groups count k
        first_bad_agent (agent, held, why) =
            let listed = subst (λ l. ((j : ℕ) × (j < count) × (1 ≤ weight_at place.known groups j agent)) ⊎ (group.divisor < weight_on place.known (cut_group k group) agent + used.weight * occurrences agent l)) list_is why in
            let there = subst (λ u. ((j : ℕ) × (j < count) × (1 ≤ weight_at place.known groups j agent)) ⊎ (group.divisor < weight_on place.known (cut_group k group) agent + u.weight * occurrences agent (agents_of place.known u.lemma))) used_there listed in
            let last : Use = get_or (slice_index_or groups count no_group).uses k no_use in
            let final = subst (λ g. ((j : ℕ) × (j < count) × (1 ≤ weight_at place.known groups j agent)) ⊎ (g.divisor < weight_on place.known (cut_group k g) agent + last.weight * occurrences agent (agents_of place.known last.lemma))) same there in
            bad_agent place number groups count within k inside_there before_cut agent (subst (λ u. 1 ≤ u.weight) used_there use_range.some)
            (subst (λ u. Contains (agents_of place.known u.lemma) agent) used_there (subst (λ l. Contains l agent) list_is held)) final

        -- one more use
        pub usable_more : All (λ one. MayUse place number one.lemma) (take (k + 1) group.uses)
        usable_more = All-more (λ one. MayUse place number one.lemma) group.uses k no_use inside usable (subst (λ u. MayUse place number u.lemma) used_here (statement, is))

        pub loads_after : (new : Loads) → AreLoads place.agents (weight_at place.known groups) count (λ agent. weight_on place.known (cut_group k group) agent + used.weight * occurrences agent agents) group.divisor new →
            AreLoads place.agents (weight_at place.known groups) count (weight_on place.known (cut_group (k + 1) group)) group.divisor new
        loads_after new added = same_loads place.agents (weight_at place.known groups) count (λ agent. weight_on place.known (cut_group k group) agent + used.weight * occurrences agent agents) (weight_on place.known (cut_group (k + 1) group)) group.divisor new
            (λ agent. ap (λ l. weight_on place.known (cut_group k group) agent + used.weight * occurrences agent l) list_is
            ∙ ap (λ u. weight_on place.known (cut_group k group) agent + u.weight * occurrences agent (agents_of place.known u.lemma)) used_here
            ∙ sym (weight_more place.known group k no_use agent inside)) added

        pub total_after : (unit : ℕ) (amounts : List Label) (sum worth after : Label) → sum ≡ label_total (use_worth (labels_of place.known unit amounts)) (take k group.uses) →
            worth ≡ use_worth (labels_of place.known unit amounts) used → after ≡ label_plus sum worth → after ≡ label_total (use_worth (labels_of place.known unit amounts)) (take (k + 1) group.uses)
        total_after unit amounts sum worth after sum_is worth_is after_is =
            after_is ∙ ap (λ l. label_plus l worth) sum_is
            ∙ ap (label_plus (label_total (use_worth (labels_of place.known unit amounts)) (take k group.uses))) (worth_is ∙ ap (use_worth (labels_of place.known unit amounts)) used_here)
            ∙ sym (total_more (use_worth (labels_of place.known unit amounts)) group.uses k no_use inside)

    -- after all uses
    module _ (all : length group.uses ≤ k) where
      whole : cut_group k group ≡ group
      whole = ap (λ u. record { divisor = group.divisor; uses = u }) (take_all k group.uses all)

      are_whole : AreLoads place.agents (weight_at place.known groups) count (weight_on place.known group) group.divisor loads
      are_whole = subst (λ g. AreLoads place.agents (weight_at place.known groups) count (weight_on place.known g) group.divisor loads) whole are

      pub groups_after : AreGroups place number (take (count + 1) groups)
      groups_after = subst (AreGroups place number) (sym (take_more groups count no_group within))
          (subst (λ g. AreGroups place number (take count groups ++ g ∷ [])) same
          (group_more place number (weight_at place.known groups) count group loads (subst (All (λ used. MayUse place number used.lemma)) (take_all k group.uses all) usable) are_whole groups (omega arith) (λ j agent low. refl) before))

      pub loads_next : AreLoads place.agents (weight_at place.known groups) (count + 1) (λ agent. 0) 0 loads
      loads_next = next_group place.agents (weight_at place.known groups) count (weight_on place.known group) group.divisor loads are_whole (λ agent. ap (λ g. weight_on place.known g agent) (sym same))
