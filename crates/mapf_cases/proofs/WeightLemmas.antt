-- The weights of agents in a group, and what a group is worth.
use Rattle.std.proofs.Common.{◌≡◌, ◌⊎◌, ℕ, zero, suc, ◌+◌, ◌*◌, ◌-◌, ◌<◌, ◌≤◌, true, false, cond, List, [], ◌∷◌, ◌++◌, Option, None, Some, All, Contains, length, take, get_or, slice_get, slice_index, slice_index_or, sum_by, refl, sym, ◌∙◌, ap, subst, inl, inr, ⊎_elim, arith}
use Rattle.std.specs.Prelude.{◌==◌}
use Rattle.std.proofs.lemmas.Bool.{cases_eq, cases_lt, eq-eqb, ne_eqb}
use Rattle.std.proofs.lemmas.List.{get_or-take, get_or_default, length-take, length-take-le, take_all}
use Rattle.std.proofs.lemmas.List.Elements.{All-contains, All-push, Contains-push}
use Rattle.std.proofs.lemmas.List.Quantifiers.{all_pairs_push}
use Rattle.std.proofs.lemmas.List.Sums.{sum_by-cons, sum_by_more, sum_by-le, sum_by-take-le}
use Rattle.std.proofs.lemmas.Nat.{mul-le, div_below}
use Rattle.std.proofs.lemmas.Option.{same_Some, get_or_from_slice_get, slice_get_within}
use Rattle.mapf_cases.specs.declared.loads.Loads.{Loads}
use Rattle.mapf_cases.specs.Floors.{agents_of, counted_by, counted_of, counted_under, floor_at, labels_of, no_statement}
use Rattle.mapf_cases.specs.Leaves.{divided_label, excess_label, use_worth}
use Rattle.mapf_cases.specs.Loads.{AreLoads}
use Rattle.mapf_cases.specs.Places.{LeafPlace, MayUse, AreApart, AreGroups, IsFirstBadUse, IsGroupAllowed, cut_group, cut_groups, no_group, weight_at, weight_on}
use Rattle.mapf_cases.specs.Ranges.{IsStatementInRange, greatest_bound, greatest_counted, greatest_unit}
use Rattle.mapf_cases.specs.Totals.{label_total}
use Rattle.mapf_cases.proofs.FloorLemmas.{agents_are}
use Rattle.mapf_cases.proofs.ListLemmas.{last_of, pairs_last}
use Rattle.mapf_cases.proofs.LoadLemmas.{once, weight_of_none}
use Rattle.mapf_cases.proofs.TotalLemmas.{total_within}
use Rattle.mapf_lemmas.specs.Amounts.{units_in}
use Rattle.mapf_lemmas.specs.declared.leaf.Use.{Use}
use Rattle.mapf_lemmas.specs.Groups.{Group, LeafLabels, divided, excess, occurrences, ticks_of, times}
use Rattle.mapf_lemmas.specs.Statements.{Statement}
use Rattle.mapf_lemmas.proofs.GroupLemmas.{spread}
use Rattle.mapf_lemmas.proofs.PlanLemmas.{sum_by-scale}
use Rattle.mapf_lemmas.proofs.PriceLemmas.{sum_by-plus, sum_by-at_most}
use Rattle.mapf_model.specs.declared.label.Label.{Label}
use Rattle.mapf_model.specs.declared.label.Label.TheVariants.{Ticks, Never}

pub sum_by_less : {X : Type 0} (f g : X → ℕ) (xs : List X) → All (λ x. f x ≤ g x) xs → sum_by f xs ≤ sum_by g xs
sum_by_less f g [] less = omega arith
sum_by_less f g (x ∷ xs) less = rw (sum_by-cons f x xs, sum_by-cons g x xs) (omega (arith, less 0 x (omega arith), sum_by_less f g xs (λ k d within. less (suc k) d (omega arith))))

-- an agent occurs in a list exactly if the list has it
pub occurs : (a : ℕ) (agents : List ℕ) → 1 ≤ occurrences a agents → Contains agents a
occurs a [] some = absurd (omega arith)
occurs a (b ∷ agents) some = ⊎_elim
    (λ (same : b ≡ a). (0, omega arith, same))
    (λ (other : b ≡ a → ⊥).
    let differ : (b == a) ≡ false = ne_eqb b a other in
    let none : once b a ≡ 0 = rw differ refl in
    let both = sum_by-cons (λ x. cond (x == a) 1 0) b agents in
    let (k, within, is) = occurs a agents (omega (arith, both, none)) in
    (suc k, omega arith, is))
    (cases_eq b a)

pub counts : (a : ℕ) (agents : List ℕ) → Contains agents a → 1 ≤ occurrences a agents
counts a [] (k, within, is) = absurd (omega arith)
counts a (b ∷ agents) (zero, within, is) =
    let same : (b == a) ≡ true = eq-eqb b a is in
    let one : once b a ≡ 1 = rw same refl in
    let both = sum_by-cons (λ x. cond (x == a) 1 0) b agents in
    omega (arith, both, one)
counts a (b ∷ agents) (suc k, within, is) =
    let rest = counts a agents (k, omega arith, is) in
    let both = sum_by-cons (λ x. cond (x == a) 1 0) b agents in
    omega (arith, both, rest)

module _ (known : List Statement) where
  abbrev weight_by : ℕ → Use → ℕ
  weight_by a used = used.weight * occurrences a (agents_of known used.lemma)

  -- one more use
  pub weight_more : (group : Group) (k : ℕ) (d : Use) (a : ℕ) → k < length group.uses → weight_on known (cut_group (k + 1) group) a ≡ weight_on known (cut_group k group) a + (get_or group.uses k d).weight * occurrences a (agents_of known (get_or group.uses k d).lemma)
  weight_more group k d a within = sum_by_more (weight_by a) group.uses k d within

  -- all uses
  pub weight_whole : (group : Group) (k : ℕ) (a : ℕ) → length group.uses ≤ k → weight_on known (cut_group k group) a ≡ weight_on known group a
  weight_whole group k a all = ap (sum_by (weight_by a)) (take_all k group.uses all)

  pub weight_first : (group : Group) (k : ℕ) (a : ℕ) → weight_on known (cut_group k group) a ≤ weight_on known group a
  weight_first group k a = sum_by-take-le (weight_by a) group.uses k

  -- an agent with a weight is of the scope
  pub some_weight : (scope : List ℕ) (uses : List Use) (a : ℕ) → All (λ used. All (Contains scope) (agents_of known used.lemma)) uses → 1 ≤ sum_by (weight_by a) uses → Contains scope a
  some_weight scope [] a inside some = absurd (omega arith)
  some_weight scope (used ∷ uses) a inside some = ⊎_elim
      (λ (none : occurrences a (agents_of known used.lemma) ≡ 0).
      let zero_weight : weight_by a used ≡ 0 = rw none (omega arith) in
      let both = sum_by-cons (weight_by a) used uses in
      some_weight scope uses a (λ k d within. inside (suc k) d (omega arith)) (omega (arith, both, zero_weight)))
      (λ (is_there : occurrences a (agents_of known used.lemma) ≡ 0 → ⊥).
      All-contains (Contains scope) (agents_of known used.lemma) a (inside 0 used (omega arith)) (occurs a (agents_of known used.lemma) (omega arith)))
      (cases_eq (occurrences a (agents_of known used.lemma)) 0)

  -- the weights add up to at most those of all agents of the scope
  ones : (agents : List ℕ) → length agents ≡ sum_by (λ (agent : ℕ). 1) agents
  ones [] = omega arith
  ones (agent ∷ agents) = let rest = ones agents in let both = sum_by-cons (λ (one : ℕ). 1) agent agents in omega (arith, rest, both)

  pub weights_within : (scope : List ℕ) (uses : List Use) → All (λ used. All (Contains scope) (agents_of known used.lemma)) uses → All (λ used. 1 ≤ length (agents_of known used.lemma)) uses →
      sum_by (λ used. used.weight) uses ≤ sum_by (λ agent. sum_by (weight_by agent) uses) scope
  weights_within scope [] inside some = omega arith
  weights_within scope (used ∷ uses) inside some =
      let agents : List ℕ = agents_of known used.lemma in
      let over = spread (λ agent. 1) scope agents (inside 0 used (omega arith)) in
      let less = sum_by-at_most (λ agent. 1 * occurrences agent agents) (λ agent. occurrences agent agents) (λ agent. omega arith) scope in
      let at_least = some 0 used (omega arith) in
      let count = ones agents in
      let first = mul-le used.weight 1 used.weight (sum_by (λ agent. occurrences agent agents) scope) (omega arith) (omega (arith, over, less, at_least, count)) in
      let scaled = sum_by-scale (λ agent. occurrences agent agents) used.weight scope in
      let rest = weights_within scope uses (λ k d within. inside (suc k) d (omega arith)) (λ k d within. some (suc k) d (omega arith)) in
      let both = sum_by-plus (λ agent. sum_by (weight_by agent) (used ∷ uses)) (λ agent. weight_by agent used) (λ agent. sum_by (weight_by agent) uses) (λ agent. sum_by-cons (weight_by agent) used uses) scope in
      rw (sum_by-cons (λ one. one.weight) used uses) (omega (arith, first, scaled, rest, both))

-- the agents of the lemmas of uses that are allowed are of the scope
pub agents_inside : (place : LeafPlace) (number : Option ℕ) (lemma : ℕ) → MayUse place number lemma → All (Contains place.agents) (agents_of place.known lemma)
agents_inside place number lemma (statement, is) = subst (All (Contains place.agents)) (sym (agents_are place number lemma statement is)) is.inside

pub in_range : (place : LeafPlace) (number : Option ℕ) (lemma : ℕ) → All IsStatementInRange place.known → MayUse place number lemma → IsStatementInRange (slice_index_or place.known lemma no_statement)
in_range place number lemma small (statement, is) = small lemma no_statement (slice_get_within place.known lemma statement is.named)

-- a group of which some uses are allowed, and the marks that it leaves
module _
    (place : LeafPlace) (number : Option ℕ) (earlier : ℕ → ℕ → ℕ) (count : ℕ) (group : Group) (loads : Loads)
    (usable : All (λ used. MayUse place number used.lemma) group.uses)
    (are : AreLoads place.agents earlier count (weight_on place.known group) group.divisor loads)
  where
    inside : All (λ used. All (Contains place.agents) (agents_of place.known used.lemma)) group.uses
    inside k d within = agents_inside place number (slice_index_or group.uses k d).lemma (usable k d within)

    pub balanced : (agent : ℕ) → weight_on place.known group agent ≤ group.divisor
    balanced agent = ⊎_elim
        (λ (some : 0 < weight_on place.known group agent). (are agent (some_weight place.known place.agents group.uses agent inside (omega arith))).within)
        (λ (none : weight_on place.known group agent ≤ 0). omega arith)
        (cases_lt 0 (weight_on place.known group agent))

    pub apart : (k : ℕ) → k < count → (agent : ℕ) → (earlier k agent ≡ 0) ⊎ (weight_on place.known group agent ≡ 0)
    apart k before agent = ⊎_elim
        (λ (some : 0 < weight_on place.known group agent).
        let load = are agent (some_weight place.known place.agents group.uses agent inside (omega arith)) in
        let mark : ℕ = slice_index loads.marks.items agent in
        ⊎_elim
        (λ (here : mark ≡ count + 1). inl (load.is_free (inr here) k before))
        (λ (elsewhere : mark ≡ count + 1 → ⊥).
        let none = weight_of_none count mark (slice_index loads.weights.items agent) elsewhere in
        let is = load.is_weight in absurd (omega (arith, none, is, some)))
        (cases_eq mark (count + 1)))
        (λ (none : weight_on place.known group agent ≤ 0). inr (omega arith))
        (cases_lt 0 (weight_on place.known group agent))

    pub allowed : IsGroupAllowed place number group
    allowed = record { usable = usable; balanced = balanced }

    pub group_more : (groups : List Group) → count ≤ length groups → ((k agent : ℕ) → k < count → weight_at place.known groups k agent ≡ earlier k agent) → AreGroups place number (take count groups) →
        AreGroups place number (take count groups ++ group ∷ [])
    group_more groups few same before = record {
      each = All-push (IsGroupAllowed place number) (take count groups) group before.each allowed;
      apart = all_pairs_push (AreApart place.known) (take count groups) group before.apart (λ k d within.
          let short = length-take count groups in
          let low : k < count = omega (arith, short, within) in
          let is : get_or (take count groups) k d ≡ get_or groups k no_group = get_or-take count groups k d low ∙ get_or_default groups k d no_group (omega arith) in
          subst (λ one. AreApart place.known one group) (sym is) (λ agent. ⊎_elim
          (λ (none : earlier k agent ≡ 0). inl (same k agent low ∙ none))
          (λ (none : weight_on place.known group agent ≡ 0). inr none)
          (apart k low agent)));
    }

    -- what the uses are worth is small
    counted_small : (list : Option ℕ) (unit : ℕ) (bound : Label) → unit ≤ greatest_unit → ticks_of bound ≤ greatest_bound list → ticks_of (counted_under list unit bound) ≤ greatest_counted
    counted_small (Some other) unit bound few small = small
    counted_small None unit (Ticks n) few small = let product = mul-le unit n greatest_unit 20000000000 few small in omega (arith, product)
    counted_small None unit Never few small = omega arith

    worth_by : (labels : LeafLabels) (used : Use) (counted : Label) → ticks_of (times used.weight (excess_label labels used.lemma counted)) ≤ used.weight * excess labels used.lemma
    worth_by labels used (Ticks n) = omega arith
    worth_by labels used Never = omega arith

    pub sum_small : (unit : ℕ) (amounts : List Label) → unit ≤ greatest_unit → All IsStatementInRange place.known →
        ticks_of (label_total (use_worth (labels_of place.known unit amounts)) group.uses) ≤ greatest_counted * (length place.agents * group.divisor)
    sum_small unit amounts few small =
        let labels : LeafLabels = labels_of place.known unit amounts in
        let total = total_within (use_worth labels) group.uses in
        let each : All (λ used. ticks_of (use_worth labels used) ≤ greatest_counted * used.weight) group.uses = λ k d within.
        let used : Use = slice_index_or group.uses k d in
        let range = in_range place number used.lemma small (usable k d within) in
        let bound = counted_small (slice_index_or place.known used.lemma no_statement).list_number unit (slice_index_or place.known used.lemma no_statement).bound few range.small in
        let less : excess labels used.lemma ≤ greatest_counted = omega (arith, bound) in
        let worth = worth_by labels used (labels.counted used.lemma) in
        let product = mul-le used.weight (excess labels used.lemma) used.weight greatest_counted (omega arith) less in
        omega (arith, worth, product) in
        let sum = sum_by_less (λ used. ticks_of (use_worth labels used)) (λ used. greatest_counted * used.weight) group.uses each in
        let scaled = sum_by-scale (λ used. used.weight) greatest_counted group.uses in
        let some : All (λ used. 1 ≤ length (agents_of place.known used.lemma)) group.uses = λ k d within. (in_range place number (slice_index_or group.uses k d).lemma small (usable k d within)).some in
        let weights = weights_within place.known place.agents group.uses inside some in
        let loads_small = sum_by-le (weight_on place.known group) group.divisor place.agents (λ k d within. balanced (slice_index_or place.agents k d)) in
        let all = mul-le greatest_counted (sum_by (λ used. used.weight) group.uses) greatest_counted (length place.agents * group.divisor) (omega arith) (omega (arith, weights, loads_small)) in
        omega (arith, total, sum, scaled, all)

pub divided_small : (n d m : ℕ) → 1 ≤ d → n ≤ d * m → divided n d ≤ m
divided_small n d m positive small =
    let whole : (m + 1) * d ≡ d * m + d = omega arith in
    let below = div_below (n + (d - 1)) d (m + 1) (omega arith) (omega (arith, whole)) in
    omega (arith, below)

pub divided_label_small : (label : Label) (d m : ℕ) → 1 ≤ d → ticks_of label ≤ d * m → ticks_of (divided_label label d) ≤ m
divided_label_small (Ticks n) d m positive small = divided_small n d m positive small
divided_label_small Never d m positive small = omega arith

-- the units of an amount
pub units_some : (label : Label) (n : ℕ) → ◌≡◌ {A = Option ℕ} (Some n) (units_in label) → label ≡ Ticks n
units_some (Ticks m) n is = ap Ticks (same_Some m n (sym is))
units_some Never n is = absurd (cc is)

pub units_none : (label : Label) → ◌≡◌ {A = Option ℕ} None (units_in label) → label ≡ Never
units_none (Ticks m) is = absurd (cc is)
units_none Never is = refl

-- what a use is worth
module _ (known : List Statement) (unit : ℕ) (amounts : List Label) (used : Use) (statement : Statement) (named : slice_get known used.lemma ≡ Some statement) where
  statement_is : slice_index_or known used.lemma no_statement ≡ statement
  statement_is = get_or_from_slice_get known used.lemma statement no_statement named

  pub use_worth_is : (n : ℕ) → counted_by unit statement ≡ Ticks n → use_worth (labels_of known unit amounts) used ≡ Ticks (used.weight * (n - sum_by (λ agent. ticks_of (floor_at amounts agent)) statement.agents))
  use_worth_is n is =
      let labels : LeafLabels = labels_of known unit amounts in
      let counted : counted_of known unit used.lemma ≡ Ticks n = ap (counted_by unit) statement_is ∙ is in
      let agents : agents_of known used.lemma ≡ statement.agents = ap (λ s. s.agents) statement_is in
      let more : excess labels used.lemma ≡ n - sum_by (λ agent. ticks_of (floor_at amounts agent)) statement.agents =
      ap (λ l. ticks_of l - sum_by (λ agent. ticks_of (floor_at amounts agent)) (agents_of known used.lemma)) counted
      ∙ ap (λ list. n - sum_by (λ agent. ticks_of (floor_at amounts agent)) list) agents in
      ap (λ l. times used.weight (excess_label labels used.lemma l)) counted ∙ ap (λ m. Ticks (used.weight * m)) more

  pub use_worth_never : counted_by unit statement ≡ Never → use_worth (labels_of known unit amounts) used ≡ Never
  use_worth_never is =
      let labels : LeafLabels = labels_of known unit amounts in
      let counted : counted_of known unit used.lemma ≡ Never = ap (counted_by unit) statement_is ∙ is in
      ap (λ l. times used.weight (excess_label labels used.lemma l)) counted

-- the first use of a group that isn't allowed
module _ (place : LeafPlace) (number : Option ℕ) (groups : List Group) (count : ℕ) (within : count < length groups) (k : ℕ) (inside : k < length (slice_index_or groups count no_group).uses)
    (before : AreGroups place number (cut_groups groups count k)) where
  abbrev present : Group
  present = slice_index_or groups count no_group

  abbrev used : Use
  used = get_or present.uses k (record { lemma = 0; weight = 0 })

  last_allowed : AreGroups place number (cut_groups groups count (k + 1)) → IsGroupAllowed place number (cut_group (k + 1) present)
  last_allowed more = All-contains (IsGroupAllowed place number) (cut_groups groups count (k + 1)) (cut_group (k + 1) present) more.each (Contains-push (take count groups) (cut_group (k + 1) present))

  pub bad_lemma : (MayUse place number used.lemma → ⊥) → IsFirstBadUse place number groups count k
  bad_lemma bad = record {
    within = within;
    inside = inside;
    before = before;
    bad = λ more. bad (last_of present.uses k (record { lemma = 0; weight = 0 }) inside (λ one. MayUse place number one.lemma) (last_allowed more).usable);
  }

  pub bad_agent : (agent : ℕ) → 1 ≤ used.weight → Contains (agents_of place.known used.lemma) agent →
      ((j : ℕ) × (j < count) × (1 ≤ weight_at place.known groups j agent)) ⊎ (present.divisor < weight_on place.known (cut_group k present) agent + used.weight * occurrences agent (agents_of place.known used.lemma)) →
      IsFirstBadUse place number groups count k
  bad_agent agent some held why =
      let more_weight = weight_more place.known present k (record { lemma = 0; weight = 0 }) agent inside in
      record {
        within = within;
        inside = inside;
        before = before;
        bad = λ more. ⊎_elim
            (λ (taken : (j : ℕ) × (j < count) × (1 ≤ weight_at place.known groups j agent)).
            let j : ℕ = taken.0 in
            let short = length-take-le count groups (omega arith) in
            let low : j < count = taken.1 in
            let pair = pairs_last (AreApart place.known) (take count groups) (cut_group (k + 1) present) more.apart j no_group (omega (arith, short, low)) agent in
            let is : get_or (take count groups) j no_group ≡ get_or groups j no_group = get_or-take count groups j no_group low in
            let there = counts agent (agents_of place.known used.lemma) held in
            let one = mul-le 1 1 used.weight (occurrences agent (agents_of place.known used.lemma)) some there in
            let first_weight = ap (λ g. weight_on place.known g agent) is in
            let earlier_weight = taken.2 in
            ⊎_elim
            (λ (none : weight_on place.known (get_or (take count groups) j no_group) agent ≡ 0). absurd (omega (arith, none, first_weight, earlier_weight)))
            (λ (none : weight_on place.known (cut_group (k + 1) present) agent ≡ 0). absurd (omega (arith, none, more_weight, one)))
            pair)
            (λ (over : present.divisor < weight_on place.known (cut_group k present) agent + used.weight * occurrences agent (agents_of place.known used.lemma)).
            let fits = (last_allowed more).balanced agent in absurd (omega (arith, over, more_weight, fits)))
            why;
      }
