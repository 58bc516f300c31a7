-- What a leaf shows, from what its judge finds.
use Rattle.std.proofs.Common.{◌≡◌, ◌≢◌, ◌⊎◌, ◌↔◌, ℕ, suc, ◌+◌, ◌*◌, ◌-◌, ◌<◌, ◌≤◌, Bool, true, false, List, [], ◌∷◌, Option, None, Some, All, Contains, length, take, get_or, slice_index_or, sum_by, refl, sym, ◌∙◌, ap, subst, inl, inr, ⊎_elim, arith}
use Rattle.std.proofs.lemmas.List.{get_or-take, get_or_default, length-take}
use Rattle.std.proofs.lemmas.List.Elements.{All-contains, All-take, All-push}
use Rattle.std.proofs.lemmas.List.Quantifiers.{all_pairs_push}
use Rattle.std.proofs.lemmas.List.Sums.{sum_by-cons}
use Rattle.std.proofs.lemmas.Option.{get_or_from_slice_get, slice_get-get_or, slice_get_within}
use Rattle.mapf_cases.specs.declared.floors.Floors.{Floors}
use Rattle.mapf_cases.specs.declared.known.LeafList.{LeafList}
use Rattle.mapf_cases.specs.declared.known.LeafProblem.{LeafProblem}
use Rattle.mapf_cases.specs.declared.known.ListTotal.{ListTotal}
use Rattle.mapf_cases.specs.declared.leaf_fault.UsePlace.{UsePlace}
use Rattle.mapf_cases.specs.declared.leaf_fault.UsePlace.TheVariants.{Single, InGroup}
use Rattle.mapf_cases.specs.Floors.{AreFloors, IsFloorOf, agents_of, counted_by, counted_under, distance_worth, floor_at, labels_of, no_statement}
use Rattle.mapf_cases.specs.Leaves.{AreTotalsOf, IsFirstBadIn, IsLeafList, IsScopeOf, IsUnitInRange, divided_label, excess_label, group_worth, label_less, use_worth}
use Rattle.mapf_cases.specs.Places.{LeafPlace, IsUsable, MayUse, AreApart, AreGroups, AreSingles, IsFirstBadSingle, IsFirstBadUse, IsGroupAllowed, cut_group, cut_groups, no_group, place_of, weight_on}
use Rattle.mapf_cases.specs.Ranges.{IsGroupInRange, greatest_unit}
use Rattle.mapf_cases.specs.Standing.{constraints_after}
use Rattle.mapf_cases.specs.Totals.{label_total}
use Rattle.mapf_cases.proofs.FloorLemmas.{agents_are}
use Rattle.mapf_cases.proofs.ListLemmas.{pairs_first}
use Rattle.mapf_cases.proofs.TotalLemmas.{total_finite, total_never, total_ticks}
use Rattle.mapf_cases.proofs.WeightLemmas.{weight_first}
use Rattle.mapf_distance.specs.Distances.{IsDistanceOrNone}
use Rattle.mapf_distance.specs.Tables.{AreStartDistances}
use Rattle.mapf_lemmas.specs.declared.leaf.Use.{Use}
use Rattle.mapf_lemmas.specs.Groups.{Group, LeafUses, LeafLabels, Scope, Counts, IsFloor, IsGroup, IsInfinite, IsNamed, IsProperLeaf, LeafShows, added, divided, excess, leaf_bound, load, occurrences, ticks_of, times}
use Rattle.mapf_lemmas.specs.Laws.{LeafLabelsDecide}
use Rattle.mapf_lemmas.specs.Prices.{PriceList, no_list, total_price}
use Rattle.mapf_lemmas.specs.Statements.{Statement, IsListOf}
use Rattle.mapf_model.specs.declared.label.Label.{Label}
use Rattle.mapf_model.specs.declared.label.Label.TheVariants.{Ticks, Never}
use Rattle.mapf_model.specs.declared.problem.Agent.{Agent}
use Rattle.mapf_model.specs.Grid.{GridMap}
use Rattle.mapf_model.specs.Labels.{IsAtMost, IsDistanceLabel, label_plus}
use Rattle.mapf_model.specs.Plan.{Instance}
use Rattle.mapf_model.proofs.ClaimLemmas.{slice_get_inside}

sum_by_same : {X : Type 0} (f g : X → ℕ) (xs : List X) → All (λ x. f x ≡ g x) xs → sum_by f xs ≡ sum_by g xs
sum_by_same f g [] same = refl
sum_by_same f g (x ∷ xs) same = rw (sum_by-cons f x xs, sum_by-cons g x xs) (omega (arith, same 0 x (omega arith), sum_by_same f g xs (λ k d within. same (suc k) d (omega arith))))

all_held : {X : Type 0} (P : X → Type 0) (xs : List X) → ((x : X) → Contains xs x → P x) → All P xs
all_held P xs each k d within = each (slice_index_or xs k d) (k, within, get_or_default xs k (slice_index_or xs k d) d within)

at_most_never : (label : Label) → IsAtMost label Never
at_most_never (Ticks n) = tt
at_most_never Never = tt

some_none : (n : ℕ) → ◌≡◌ {A = Option ℕ} (Some n) None → ⊥
some_none n is = cc

-- what a bound counts, in the words of the definition of leaves
counts_by : (number : Option ℕ) (unit : ℕ) (list : Option ℕ) (bound : Label) → (list ≡ number) ⊎ (list ≡ None) →
    ((list ≡ number) × (counted_under list unit bound ≡ bound)) ⊎ ((list ≡ None) × (counted_under list unit bound ≡ times unit bound))
counts_by number unit (Some n) bound (inl same) = inl (same, refl)
counts_by number unit (Some n) bound (inr none) = absurd (some_none n none)
counts_by number unit None bound fits = inr (refl, refl)

-- what a distance is worth, in the words of the definition of leaves
far : (unit : ℕ) (grid : GridMap) (goal start : ℕ) (distance : Option ℕ) → IsDistanceOrNone grid goal start distance →
    (label : Label) × IsDistanceLabel grid goal start label × (distance_worth unit distance ≡ times unit label)
far unit grid goal start (Some n) is = (Ticks n, is, refl)
far unit grid goal start None is = (Never, is, refl)

-- what rule 8 asks of all uses, it asks of the first ones
singles_first : (place : LeafPlace) (number : Option ℕ) (singles : List ℕ) (k : ℕ) → AreSingles place number singles → AreSingles place number (take k singles)
singles_first place number singles k are = record {
  usable = All-take (MayUse place number) k singles are.usable;
  alone = All-take (λ lemma. (agent : ℕ) × (agents_of place.known lemma ≡ agent ∷ [])) k singles are.alone;
  different = pairs_first (λ one other. agents_of place.known one ≢ agents_of place.known other) singles k are.different;
}

groups_cut : (place : LeafPlace) (number : Option ℕ) (groups : List Group) (count k : ℕ) → count < length groups → AreGroups place number groups → AreGroups place number (cut_groups groups count k)
groups_cut place number groups count k within are =
    let last : Group = slice_index_or groups count no_group in
    let whole : IsGroupAllowed place number last = are.each count no_group within in
    record {
      each = All-push (IsGroupAllowed place number) (take count groups) (cut_group k last) (All-take (IsGroupAllowed place number) count groups are.each) (record {
        usable = All-take (λ used. MayUse place number used.lemma) k last.uses whole.usable;
        balanced = λ agent. let less = weight_first place.known last k agent in let fits = whole.balanced agent in omega (arith, less, fits);
      });
      apart = all_pairs_push (AreApart place.known) (take count groups) (cut_group k last) (pairs_first (AreApart place.known) groups count are.apart) (λ j d inside.
          let short = length-take count groups in
          let low : j < count = omega (arith, short, inside) in
          let is : get_or (take count groups) j d ≡ get_or groups j no_group = get_or-take count groups j d low ∙ get_or_default groups j d no_group (omega arith) in
          subst (λ one. AreApart place.known one (cut_group k last)) (sym is) (λ agent. ⊎_elim
          (λ (none : weight_on place.known (get_or groups j no_group) agent ≡ 0). inl none)
          (λ (none : weight_on place.known last agent ≡ 0). inr (let less = weight_first place.known last k agent in omega (arith, less, none)))
          (are.apart j count no_group low within agent)));
    }

module _ (problem : Instance) (lists : List PriceList) (place : LeafPlace) (uses : LeafUses) where
  abbrev there : Scope
  there = record { problem = problem; lists = lists; known = place.known; agents = place.agents }

  -- what a proper leaf says of rule 8
  module _ (list : PriceList) (labels : LeafLabels) (proper : IsProperLeaf there place.constraints uses list labels) where
    named_usable : (lemma : ℕ) (is : IsNamed there place.constraints uses list.unit labels lemma) → IsUsable place uses.list_number lemma is.statement
    named_usable lemma is = record {
      named = is.named;
      inside = is.usable.inside;
      met = is.usable.met;
      fits = ⊎_elim
          (λ (own : (is.statement.list_number ≡ uses.list_number) × (labels.counted lemma ≡ is.statement.bound)). inl own.0)
          (λ (none : (is.statement.list_number ≡ None) × (labels.counted lemma ≡ times list.unit is.statement.bound)). inr none.0)
          is.counts;
    }

    named_may : (lemma : ℕ) → IsNamed there place.constraints uses list.unit labels lemma → MayUse place uses.list_number lemma
    named_may lemma is = (is.statement, named_usable lemma is)

    named_agents : (lemma : ℕ) → IsNamed there place.constraints uses list.unit labels lemma → labels.agents lemma ≡ agents_of place.known lemma
    named_agents lemma is = is.same_agents ∙ sym (agents_are place uses.list_number lemma is.statement (named_usable lemma is))

    proper_singles : AreSingles place uses.list_number uses.singles
    proper_singles = record {
      usable = λ k d within. named_may (slice_index_or uses.singles k d) (proper.each k d within);
      alone = λ k d within. let is = proper.alone k d within in (is.0, sym (named_agents (slice_index_or uses.singles k d) (proper.each k d within)) ∙ is.1);
      different = λ i j d before within. λ same. proper.different i j d before within
          (named_agents (slice_index_or uses.singles i d) (proper.each i d (omega arith)) ∙ same ∙ sym (named_agents (slice_index_or uses.singles j d) (proper.each j d within)));
    }

    load_is : (group : Group) (agent : ℕ) → IsGroup there place.constraints uses list.unit labels group → load labels group agent ≡ weight_on place.known group agent
    load_is group agent is = sum_by_same (λ used. used.weight * occurrences agent (labels.agents used.lemma)) (λ used. used.weight * occurrences agent (agents_of place.known used.lemma)) group.uses
        (λ k d within. let used : Use = slice_index_or group.uses k d in ap (λ l. used.weight * occurrences agent l) (named_agents used.lemma (is.each k d within)))

    proper_groups : AreGroups place uses.list_number uses.groups
    proper_groups = record {
      each = λ k d within. let group : Group = slice_index_or uses.groups k d in let is = proper.each_group k d within in record {
        usable = λ j e inside. named_may (slice_index_or group.uses j e).lemma (is.each j e inside);
        balanced = λ agent. subst (λ n. n ≤ group.divisor) (load_is group agent is) (is.balanced agent);
      };
      apart = λ i j d before within agent.
          let one : Group = slice_index_or uses.groups i d in
          let other : Group = slice_index_or uses.groups j d in
          ⊎_elim
          (λ (none : load labels one agent ≡ 0). inl (sym (load_is one agent (proper.each_group i d (omega arith))) ∙ none))
          (λ (none : load labels other agent ≡ 0). inr (sym (load_is other agent (proper.each_group j d within)) ∙ none))
          (proper.apart i j d before within agent);
    }

  bad_single_there : (target : Label) (k : ℕ) → IsFirstBadSingle place uses.list_number uses.singles k → LeafShows there place.constraints uses target → ⊥
  bad_single_there target k bad (list, labels, proper, shows) = bad.bad (singles_first place uses.list_number uses.singles (k + 1) (proper_singles list labels proper))

  bad_use_there : (target : Label) (group k : ℕ) → IsFirstBadUse place uses.list_number uses.groups group k → LeafShows there place.constraints uses target → ⊥
  bad_use_there target group k bad (list, labels, proper, shows) = bad.bad (groups_cut place uses.list_number uses.groups group (k + 1) bad.within (proper_groups list labels proper))

  -- a leaf to which rule 8 is kept, with its floors
  module _
      (list : PriceList) (is_list : IsListOf lists uses.list_number list) (unit_positive : 1 ≤ list.unit)
      (range : All IsGroupInRange uses.groups)
      (distances : List (Option ℕ)) (are_distances : AreStartDistances problem distances) (agents_range : All (λ agent. agent < length distances) place.agents)
      (floors : Floors) (singles : AreSingles place uses.list_number uses.singles)
      (are_floors : AreFloors place.known list.unit distances uses.singles place.agents floors)
      (groups : AreGroups place uses.list_number uses.groups)
    where
      abbrev labels : LeafLabels
      labels = labels_of place.known list.unit floors.amounts.items

      may_named : (lemma : ℕ) → MayUse place uses.list_number lemma → IsNamed there place.constraints uses list.unit labels lemma
      may_named lemma (statement, is) = record {
        statement = statement;
        named = is.named;
        usable = record { inside = is.inside; met = is.met };
        same_agents = agents_are place uses.list_number lemma statement is;
        counts = subst (Counts uses.list_number list.unit statement) (sym (ap (counted_by list.unit) (get_or_from_slice_get place.known lemma statement no_statement is.named)))
            (counts_by uses.list_number list.unit statement.list_number statement.bound is.fits);
      }

      floor_by : (agent : ℕ) → Contains place.agents agent → (b : Bool) → IsFloorOf place.known list.unit distances uses.singles agent (floor_at floors.amounts.items agent) b → IsFloor there uses list.unit labels agent
      floor_by agent held true is = inl is
      floor_by agent held false (none, is) =
          let within = All-contains (λ a. a < length distances) place.agents agent agents_range held in
          let count = are_distances.count in
          let found = slice_get_inside problem.agents agent (omega (arith, within, count)) in
          let a : Agent = found.0 in
          let is_a = found.1 in
          let distance = slice_get-get_or distances agent None within in
          let (label, is_label, worth) = far list.unit problem.grid a.goal a.start (slice_index_or distances agent None) (are_distances.each agent a (slice_index_or distances agent None) is_a distance) in
          inr (none, a, label, is_a, is_label, is ∙ worth)

      group_is : (group : Group) → IsGroupInRange group → IsGroupAllowed place uses.list_number group → IsGroup there place.constraints uses list.unit labels group
      group_is group small allowed = record {
        positive = small.some;
        balanced = allowed.balanced;
        weights = λ k d within. (small.weights k d within).some;
        each = λ k d within. may_named (slice_index_or group.uses k d).lemma (allowed.usable k d within);
      }

      is_proper : IsProperLeaf there place.constraints uses list labels
      is_proper = record {
        is_list = is_list;
        positive = unit_positive;
        alone = singles.alone;
        different = singles.different;
        each = λ k d within. may_named (slice_index_or uses.singles k d) (singles.usable k d within);
        floors = λ agent held. floor_by agent held (slice_index_or floors.named.items agent false) (are_floors agent held);
        each_group = λ k d within. group_is (slice_index_or uses.groups k d) (range k d within) (groups.each k d within);
        apart = groups.apart;
      }

      -- what the groups are worth
      use_ticks : (used : Use) (counted : Label) → labels.counted used.lemma ≡ counted → ticks_of (times used.weight (excess_label labels used.lemma counted)) ≡ used.weight * excess labels used.lemma
      use_ticks used (Ticks n) is = refl
      use_ticks used Never is =
          let none : excess labels used.lemma ≡ 0 = (let zero_ticks = ap ticks_of is in omega (arith, zero_ticks)) in
          rw none (omega arith)

      group_ticks : (group : Group) (total : Label) → label_total (use_worth labels) group.uses ≡ total → total ≢ Never → ticks_of (divided_label total group.divisor) ≡ added labels group
      group_ticks group (Ticks n) is finite =
          let sum = total_ticks (use_worth labels) group.uses n is in
          let each = sum_by_same (λ used. ticks_of (use_worth labels used)) (λ used. used.weight * excess labels used.lemma) group.uses (λ k d within. let used : Use = slice_index_or group.uses k d in use_ticks used (labels.counted used.lemma) refl) in
          ap (λ m. divided m group.divisor) (sum ∙ each)
      group_ticks group Never is finite = absurd (finite refl)

      never_divided : (total : Label) (divisor : ℕ) → divided_label total divisor ≡ Never → total ≡ Never
      never_divided (Ticks n) divisor is = absurd (cc is)
      never_divided Never divisor is = refl

      never_counted : (used : Use) (counted : Label) → times used.weight (excess_label labels used.lemma counted) ≡ Never → counted ≡ Never
      never_counted used (Ticks n) is = absurd (cc is)
      never_counted used Never is = refl

      abbrev floor_total : Label
      floor_total = label_total (floor_at floors.amounts.items) place.agents

      abbrev group_total : Label
      group_total = label_total (group_worth labels) uses.groups

      groups_sum : (n : ℕ) → group_total ≡ Ticks n → n ≡ sum_by (added labels) uses.groups
      groups_sum n is = total_ticks (group_worth labels) uses.groups n is
          ∙ sum_by_same (λ group. ticks_of (group_worth labels group)) (added labels) uses.groups (all_held (λ group. ticks_of (group_worth labels group) ≡ added labels group) uses.groups
          (λ group held. group_ticks group (label_total (use_worth labels) group.uses) refl (λ never. total_finite (group_worth labels) uses.groups n is group held (ap (λ l. divided_label l group.divisor) never))))

      infinite_floor : floor_total ≡ Never → IsInfinite there uses labels
      infinite_floor is = let (agent, held, never) = total_never (floor_at floors.amounts.items) place.agents is in inl (agent, held, never)

      infinite_group : group_total ≡ Never → IsInfinite there uses labels
      infinite_group is =
          let (group, held, never) = total_never (group_worth labels) uses.groups is in
          let (used, used_held, used_never) = total_never (use_worth labels) group.uses (never_divided (label_total (use_worth labels) group.uses) group.divisor never) in
          inr (group, used, held, used_held, never_counted used (labels.counted used.lemma) used_never)

      never_total : (group : Group) (used : Use) → Contains group.uses used → labels.counted used.lemma ≡ Never → (total : Label) → label_total (use_worth labels) group.uses ≡ total → label_total (use_worth labels) group.uses ≡ Never
      never_total group used used_held never (Ticks k) is = absurd (total_finite (use_worth labels) group.uses k is used used_held (ap (λ l. times used.weight (excess_label labels used.lemma l)) never))
      never_total group used used_held never Never is = is

      finite : (m n : ℕ) → floor_total ≡ Ticks m → group_total ≡ Ticks n → IsInfinite there uses labels → ⊥
      finite m n is_m is_n (inl (agent, held, never)) = total_finite (floor_at floors.amounts.items) place.agents m is_m agent held never
      finite m n is_m is_n (inr (group, used, held, used_held, never)) =
          total_finite (group_worth labels) uses.groups n is_n group held (ap (λ l. divided_label l group.divisor) (never_total group used used_held never (label_total (use_worth labels) group.uses) refl))

      abbrev bound_by : Label → Label → Label
      bound_by one other = divided_label (label_less (label_plus one other) (total_price list.prices)) list.unit

      abbrev IsEnough : Label → Type 0
      IsEnough target = IsInfinite there uses labels ⊎ IsAtMost target (Ticks (leaf_bound there uses list labels))

      decide_by : (target one other : Label) → floor_total ≡ one → group_total ≡ other → IsAtMost target (bound_by one other) ↔ IsEnough target
      decide_by target (Ticks m) (Ticks n) is_m is_n =
          let sum = total_ticks (floor_at floors.amounts.items) place.agents m is_m in
          let more = groups_sum n is_n in
          let bound : divided (m + n - total_price list.prices) list.unit ≡ leaf_bound there uses list labels =
          ap (λ k. divided (k + n - total_price list.prices) list.unit) sum
          ∙ ap (λ k. divided (sum_by (λ agent. ticks_of (floor_at floors.amounts.items agent)) place.agents + k - total_price list.prices) list.unit) more in (
            λ enough. inr (subst (λ k. IsAtMost target (Ticks k)) bound enough),
            ⊎_elim
                (λ (infinite : IsInfinite there uses labels). absurd (finite m n is_m is_n infinite))
                (λ (enough : IsAtMost target (Ticks (leaf_bound there uses list labels))). subst (λ k. IsAtMost target (Ticks k)) (sym bound) enough),
          )
      decide_by target (Ticks m) Never is_m is_n = (λ enough. inl (infinite_group is_n), λ either. at_most_never target)
      decide_by target Never other is_m is_n = (λ enough. inl (infinite_floor is_m), λ either. at_most_never target)

      decided_there : LeafLabelsDecide → (target : Label) → IsAtMost target (bound_by floor_total group_total) ↔ LeafShows there place.constraints uses target
      decided_there law target =
          let here = decide_by target floor_total group_total refl refl in
          let labelled = law there place.constraints uses list labels target is_proper in
          (λ enough. labelled.1 (here.0 enough), λ shows. here.1 (labelled.0 shows))

-- the price list that the leaf names
chosen : (lists : List PriceList) (totals : List ListTotal) (number : Option ℕ) (list : LeafList) → AreTotalsOf lists totals → IsLeafList totals number list →
    (price : PriceList) × IsListOf lists number price × (price.unit ≡ list.unit) × (total_price price.prices ≡ list.total)
chosen lists totals None list are is = (no_list, refl, sym is.1, sym is.2)
chosen lists totals (Some number) list are is =
    let within = slice_get_within totals number _ is.1 in
    let count = are.count in
    let (price, is_price) = slice_get_inside lists number (omega (arith, within, count)) in
    let same = are.each number price _ is_price is.1 in
    (price, is_price, same.0, same.1)

pub unit_range : (totals : List ListTotal) (number : Option ℕ) (list : LeafList) → All IsUnitInRange totals → IsLeafList totals number list → (1 ≤ list.unit) × (list.unit ≤ greatest_unit)
unit_range totals None list units is = let one = is.1 in (omega (arith, one), omega (arith, one))
unit_range totals (Some number) list units is =
    let range = subst IsUnitInRange (get_or_from_slice_get totals number _ (record { unit = list.unit; total = list.total }) is.1) (units number (record { unit = list.unit; total = list.total }) (slice_get_within totals number _ is.1)) in
    (range.some, range.few)

pub number_is : (totals : List ListTotal) (number : Option ℕ) (list : LeafList) → IsLeafList totals number list → list.list_number ≡ number
number_is totals None list is = is.0
number_is totals (Some number) list is = is.0

module _ (leaf : LeafProblem) (scope : Scope) (is : IsScopeOf leaf scope) (uses : LeafUses) where
  same_scope : there scope.problem scope.lists (place_of leaf) uses ≡ scope
  same_scope =
      ap (λ (k : List Statement). record { problem = scope.problem; lists = scope.lists; known = k; agents = leaf.agents.now }) (sym is.known)
      ∙ ap (λ (a : List ℕ). record { problem = scope.problem; lists = scope.lists; known = scope.known; agents = a }) (sym is.agents)

  pub bad_single_refuted : (target : Label) (k : ℕ) → IsFirstBadSingle (place_of leaf) uses.list_number uses.singles k → LeafShows scope (constraints_after leaf.standing.now) uses target → ⊥
  bad_single_refuted target k bad shows = bad_single_there scope.problem scope.lists (place_of leaf) uses target k bad (subst (λ s. LeafShows s (constraints_after leaf.standing.now) uses target) (sym same_scope) shows)

  pub bad_use_refuted : (target : Label) (group k : ℕ) → IsFirstBadUse (place_of leaf) uses.list_number uses.groups group k → LeafShows scope (constraints_after leaf.standing.now) uses target → ⊥
  bad_use_refuted target group k bad shows = bad_use_there scope.problem scope.lists (place_of leaf) uses target group k bad (subst (λ s. LeafShows s (constraints_after leaf.standing.now) uses target) (sym same_scope) shows)

  pub bad_in_refuted : (target : Label) (use_place : UsePlace) → IsFirstBadIn (place_of leaf) uses.list_number uses.groups use_place → LeafShows scope (constraints_after leaf.standing.now) uses target → ⊥
  bad_in_refuted target (Single index) bad shows = bad
  bad_in_refuted target (InGroup group index) bad shows = bad_use_refuted target group index bad shows

  pub leaf_decided : LeafLabelsDecide → (list : LeafList) (floors : Floors) (target bound : Label) → IsLeafList leaf.list_totals.now uses.list_number list → All IsUnitInRange leaf.list_totals.now →
      All IsGroupInRange uses.groups → All (λ agent. agent < length leaf.start_distances.now) leaf.agents.now → AreSingles (place_of leaf) uses.list_number uses.singles → AreGroups (place_of leaf) uses.list_number uses.groups →
      AreFloors leaf.known.now list.unit leaf.start_distances.now uses.singles leaf.agents.now floors →
      bound ≡ divided_label (label_less (label_plus (label_total (floor_at floors.amounts.items) leaf.agents.now) (label_total (group_worth (labels_of leaf.known.now list.unit floors.amounts.items)) uses.groups)) list.total) list.unit →
      IsAtMost target bound ↔ LeafShows scope (constraints_after leaf.standing.now) uses target
  leaf_decided law list floors target bound is_list units range agents singles groups are_floors is_bound =
      let (price, is_price, unit_is, total_is) = chosen scope.lists leaf.list_totals.now uses.list_number list is.lists is_list in
      let positive = (unit_range leaf.list_totals.now uses.list_number list units is_list).0 in
      let value : ℕ → ℕ → Label = λ unit total. divided_label (label_less (label_plus (label_total (floor_at floors.amounts.items) leaf.agents.now) (label_total (group_worth (labels_of leaf.known.now unit floors.amounts.items)) uses.groups)) total) unit in
      let here = decided_there scope.problem scope.lists (place_of leaf) uses price is_price (omega (arith, positive, unit_is)) range leaf.start_distances.now is.distances agents floors singles
      (subst (λ u. AreFloors leaf.known.now u leaf.start_distances.now uses.singles leaf.agents.now floors) (sym unit_is) are_floors) groups law target in
      let same : value price.unit (total_price price.prices) ≡ bound = ap (λ u. value u (total_price price.prices)) unit_is ∙ ap (value list.unit) total_is ∙ sym is_bound in
      subst (λ s. IsAtMost target bound ↔ LeafShows s (constraints_after leaf.standing.now) uses target) same_scope
      (subst (λ l. IsAtMost target l ↔ LeafShows (there scope.problem scope.lists (place_of leaf) uses) (constraints_after leaf.standing.now) uses target) same here)
