-- The lower bound of a leaf.
use Rattle.std.proofs.Common.{◌≡◌, ℕ, zero, suc, ◌+◌, ◌-◌, ◌*◌, ◌≤◌, min, true, cond, List, [], ◌∷◌, Some, None, All, Contains, sum_by, slice_get, slice_index, slice_index_or, refl, sym, ◌∙◌, ap, subst, inl, inr, ⊎_elim, arith}
use Rattle.std.specs.Prelude.{◌==◌}
use native.Mathlib.Nat.{mul-add}
use Rattle.std.proofs.Math.Nat.{mul_comm, mul_left_comm}
use Rattle.std.proofs.lemmas.Bool.{eq-eqb}
use Rattle.std.proofs.lemmas.List.Elements.{All-contains, Contains-get_or}
use Rattle.std.proofs.lemmas.List.Sums.{sum_by-cons, get_or-le-sum_by}
use Rattle.std.proofs.lemmas.Nat.{mul-le, div_below}
use Rattle.std.proofs.lemmas.Option.{slice_get_within, get_or_from_slice_get}
use Rattle.mapf_lemmas.specs.declared.constraint.PathConstraint.{PathConstraint}
use Rattle.mapf_lemmas.specs.declared.constraint.PathConstraint.TheVariants.{NotAt, NotMove, Clear, Most, Least}
use Rattle.mapf_lemmas.specs.Constraints.{Satisfies}
use Rattle.mapf_lemmas.specs.Lemmas.{AreDifferentAgents}
use Rattle.mapf_lemmas.specs.Prices.{PriceList, no_list, total_price}
use Rattle.mapf_lemmas.specs.Statements.{Statement, IsListOf, priced_cost_of, AllSatisfy, IsCosted, StatementHolds, Meets}
use Rattle.mapf_lemmas.specs.declared.leaf.Use.{Use}
use Rattle.mapf_lemmas.specs.Groups.{Group, LeafUses, Scope, times, MayBeUsed, LeafLabels, IsNamed, IsFloor, ticks_of, occurrences, load, excess, divided, added, IsGroup, IsProperLeaf, IsInfinite, leaf_bound, LeafShows}
use Rattle.mapf_lemmas.proofs.PriceLemmas.{sum_by-plus, sum_by-at_most}
use Rattle.mapf_lemmas.proofs.PlanLemmas.{sum_by-one, sum_by-scale, path_of, lawful_of, cost_of, priced_bound}
use Rattle.mapf_model.specs.declared.label.Label.{Label}
use Rattle.mapf_model.specs.declared.label.Label.TheVariants.{Ticks, Never}
use Rattle.mapf_model.specs.Labels.{IsAtMost}
use Rattle.mapf_model.specs.Path.{at}
use Rattle.mapf_model.proofs.LabelLemmas.{lawful_bound}

pub stands_satisfies : (path : List ℕ) (cost : ℕ) (one other : PathConstraint) → Meets one other → Satisfies path cost one → Satisfies path cost other
stands_satisfies path cost (NotAt there then) (NotAt cell tick) (same, now) holds = λ is. holds (ap (at path) now ∙ is ∙ sym same)
stands_satisfies path cost (Clear there from) (NotAt cell tick) (same, before) holds = λ is. holds tick before (is ∙ sym same)
stands_satisfies path cost (NotMove a b then) (NotMove from to tick) same holds = λ both.
    holds (ap (at path) same.2 ∙ both.0 ∙ sym same.0, ap (λ k. at path (k + 1)) same.2 ∙ both.1 ∙ sym same.1)
stands_satisfies path cost (Clear there from) (Clear cell tick) (same, before) holds = λ later after is. holds later (omega arith) (is ∙ sym same)
stands_satisfies path cost (Most less) (Most ticks) fewer holds = omega arith
stands_satisfies path cost (Least more) (Least ticks) fewer holds = omega arith
stands_satisfies path cost one other none holds = absurd none

times_bound : (unit m n : ℕ) (label : Label) → IsAtMost label (Ticks m) → unit * m ≤ n → IsAtMost (times unit label) (Ticks n)
times_bound unit m n (Ticks k) p q = let worth = mul-le unit k unit m (omega arith) p in omega arith
times_bound unit m n Never p q = p

at_most_ticks : (label : Label) (n : ℕ) → IsAtMost label (Ticks n) → ticks_of label ≤ n
at_most_ticks (Ticks k) n p = p
at_most_ticks Never n p = absurd p

at_most_than : (label : Label) (m n : ℕ) → IsAtMost label (Ticks m) → m ≤ n → IsAtMost label (Ticks n)
at_most_than (Ticks k) m n p q = omega arith
at_most_than Never m n p q = p

divided_bound : (n d m : ℕ) → 1 ≤ d → n ≤ d * m → divided n d ≤ m
divided_bound n d m positive small =
    let whole : (m + 1) * d ≡ d * m + d = omega arith in
    let below = div_below (n + (d - 1)) d (m + 1) (omega arith) (omega (arith, whole)) in
    omega (arith, below)

sum_by-less : {X : Type 0} (f g : X → ℕ) (xs : List X) → All (λ x. f x ≤ g x) xs → sum_by f xs ≤ sum_by g xs
sum_by-less f g [] less = omega arith
sum_by-less f g (x ∷ xs) less = rw (sum_by-cons f x xs, sum_by-cons g x xs) (omega (arith, less 0 x (omega arith), sum_by-less f g xs (λ k d within. less (suc k) d (omega arith))))

-- a sum over some agents of the scope, as a sum over the scope
module _ (x : ℕ → ℕ) (scope : List ℕ) where
  one_of : (b : ℕ) → Contains scope b → x b ≤ sum_by (λ a. x a * cond (b == a) 1 0) scope
  one_of b (k, within, is) =
      let term = get_or-le-sum_by (λ a. x a * cond (b == a) 1 0) scope k b within in
      let here : (b == slice_index_or scope k b) ≡ true = eq-eqb b (slice_index_or scope k b) (sym is) in
      let value : x (slice_index_or scope k b) * cond (b == slice_index_or scope k b) 1 0 ≡ x b = rw (here, is) (omega arith) in
      omega (arith, term, value)

  pub spread : (agents : List ℕ) → All (Contains scope) agents → sum_by x agents ≤ sum_by (λ a. x a * occurrences a agents) scope
  spread [] inside = omega arith
  spread (b ∷ agents) inside =
      let first = one_of b (inside 0 b (omega arith)) in
      let rest = spread agents (λ k d within. inside (suc k) d (omega arith)) in
      let both = sum_by-plus (λ a. x a * occurrences a (b ∷ agents)) (λ a. x a * cond (b == a) 1 0) (λ a. x a * occurrences a agents)
      (λ a. ap (λ n. x a * n) (sum_by-cons (λ other. cond (other == a) 1 0) b agents) ∙ mul-add (x a) (cond (b == a) 1 0) (occurrences a agents)) scope in
      rw (sum_by-cons x b agents) (omega (arith, first, rest, both))

module _
    (scope : Scope) (constraints : ℕ → List PathConstraint)
    (known : All (StatementHolds scope.problem scope.lists) scope.known)
    (plan : List (List ℕ)) (costs : List ℕ) (costed : IsCosted scope.problem plan costs)
    (obey : AllSatisfy plan costs constraints)
  where
    -- what a lemma that may be used says of the plan
    pub usable_true : (lemma : ℕ) (statement : Statement) → slice_get scope.known lemma ≡ Some statement → MayBeUsed scope constraints statement → (list : PriceList) → IsListOf scope.lists statement.list_number list →
        IsAtMost statement.bound (Ticks (sum_by (priced_cost_of list plan costs) statement.agents))
    usable_true lemma statement named usable list is_list =
        let truth : StatementHolds scope.problem scope.lists statement =
        subst (StatementHolds scope.problem scope.lists) (get_or_from_slice_get scope.known lemma statement statement named) (known lemma statement (slice_get_within scope.known lemma statement named)) in
        truth plan costs list costed (λ agent cost path path_is cost_is needed held.
        let found = usable.met agent needed held in
        stands_satisfies path cost found.0 needed found.2 (obey agent cost path path_is cost_is found.0 found.1)) is_list

module _
    (scope : Scope) (constraints : ℕ → List PathConstraint) (leaf : LeafUses) (list : PriceList) (labels : LeafLabels)
    (proper : IsProperLeaf scope constraints leaf list labels)
    (known : All (StatementHolds scope.problem scope.lists) scope.known)
    (plan : List (List ℕ)) (costs : List ℕ) (costed : IsCosted scope.problem plan costs)
    (obey : AllSatisfy plan costs constraints)
  where
    abbrev priced : ℕ → ℕ
    priced = priced_cost_of list plan costs

    abbrev floor : ℕ → ℕ
    floor agent = ticks_of (labels.floor agent)

    -- what an agent's path costs beyond the least that the leaf shows of it
    abbrev beyond : ℕ → ℕ
    beyond agent = priced agent - floor agent

    bare_worth : (agents : List ℕ) → list.unit * sum_by (priced_cost_of no_list plan costs) agents ≤ sum_by priced agents
    bare_worth agents =
        let scaled = sum_by-scale (priced_cost_of no_list plan costs) list.unit agents in
        let each = sum_by-at_most (λ agent. list.unit * priced_cost_of no_list plan costs agent) priced
        (λ agent. let bare : priced_cost_of no_list plan costs agent ≡ slice_index costs agent = omega arith in rw bare (omega arith)) agents in
        omega (arith, scaled, each)

    counted_true : (lemma : ℕ) → IsNamed scope constraints leaf list.unit labels lemma → IsAtMost (labels.counted lemma) (Ticks (sum_by priced (labels.agents lemma)))
    counted_true lemma used =
        let statement = used.statement in
        let truth = usable_true scope constraints known plan costs costed obey lemma statement used.named used.usable in
        rw used.same_agents (⊎_elim
        (λ (own : (statement.list_number ≡ leaf.list_number) × (labels.counted lemma ≡ statement.bound)). rw own.1 (truth list (rw own.0 proper.is_list)))
        (λ (none : (statement.list_number ≡ None) × (labels.counted lemma ≡ times list.unit statement.bound)).
        rw none.1 (times_bound list.unit (sum_by (priced_cost_of no_list plan costs) statement.agents) (sum_by priced statement.agents) statement.bound
        (truth no_list (rw none.0 refl)) (bare_worth statement.agents)))
        used.counts)

    floor_true : (agent : ℕ) → Contains scope.agents agent → IsAtMost (labels.floor agent) (Ticks (priced agent))
    floor_true agent held = by (proper.floors agent held)
      where
        by : IsFloor scope leaf list.unit labels agent → IsAtMost (labels.floor agent) (Ticks (priced agent))
        by (inl (lemma, named, alone, same)) =
            let counted = counted_true lemma (All-contains (IsNamed scope constraints leaf list.unit labels) leaf.singles lemma proper.each named) in
            rw same (at_most_than (labels.counted lemma) (sum_by priced (labels.agents lemma)) (priced agent) counted (rw alone (omega arith)))
        by (inr (none, a, distance, is, far, same)) =
            let cost : ℕ = slice_index costs agent in
            let lawful = lawful_of scope.problem plan costs costed agent a is in
            let bound = lawful_bound scope.problem.grid a [] (λ cell tick. None) (path_of scope.problem plan costs costed agent) cost (λ cell tick label found. cc) lawful
            (λ bar (k, within, e). absurd (omega arith)) (cost_of scope.problem plan costs costed agent a is).rests distance far in
            rw same (times_bound list.unit cost (priced agent) distance bound (omega arith))

    excess_bound : (lemma : ℕ) → IsNamed scope constraints leaf list.unit labels lemma → excess labels lemma ≤ sum_by beyond (labels.agents lemma)
    excess_bound lemma used =
        let counted = at_most_ticks (labels.counted lemma) _ (counted_true lemma used) in
        let both = sum_by-plus (λ agent. floor agent + beyond agent) floor beyond (λ agent. refl) (labels.agents lemma) in
        let more = sum_by-at_most priced (λ agent. floor agent + beyond agent) (λ agent. omega arith) (labels.agents lemma) in
        omega (arith, counted, both, more)

    abbrev loads : List Use → ℕ → ℕ
    loads uses agent = sum_by (λ used. used.weight * occurrences agent (labels.agents used.lemma)) uses

    weighted : (uses : List Use) → All (λ used. IsNamed scope constraints leaf list.unit labels used.lemma) uses →
        sum_by (λ used. used.weight * excess labels used.lemma) uses ≤ sum_by (λ agent. beyond agent * loads uses agent) scope.agents
    weighted [] each = omega arith
    weighted (used ∷ uses) each =
        let first_used = each 0 used (omega arith) in
        let inside : All (Contains scope.agents) (labels.agents used.lemma) = rw first_used.same_agents first_used.usable.inside in
        let over = spread beyond scope.agents (labels.agents used.lemma) inside in
        let first = mul-le used.weight (excess labels used.lemma) used.weight (sum_by (λ agent. beyond agent * occurrences agent (labels.agents used.lemma)) scope.agents) (omega arith) (omega (arith, over, excess_bound used.lemma first_used)) in
        let scaled = sum_by-scale (λ agent. beyond agent * occurrences agent (labels.agents used.lemma)) used.weight scope.agents in
        let rest = weighted uses (λ k d within. each (suc k) d (omega arith)) in
        let both = sum_by-plus (λ agent. beyond agent * loads (used ∷ uses) agent) (λ agent. used.weight * (beyond agent * occurrences agent (labels.agents used.lemma))) (λ agent. beyond agent * loads uses agent)
        (λ agent. ap (λ n. beyond agent * n) (sum_by-cons (λ one. one.weight * occurrences agent (labels.agents one.lemma)) used uses)
        ∙ mul-add (beyond agent) (used.weight * occurrences agent (labels.agents used.lemma)) (loads uses agent)
        ∙ ap (λ n. n + beyond agent * loads uses agent) (mul_left_comm (beyond agent) used.weight (occurrences agent (labels.agents used.lemma)))) scope.agents in
        rw (sum_by-cons (λ one. one.weight * excess labels one.lemma) used uses) (omega (arith, first, scaled, rest, both))

    -- whether the agent is in the group: 1 or 0
    abbrev mark : Group → ℕ → ℕ
    mark group agent = min (load labels group agent) 1

    loaded : (x load most : ℕ) → load ≤ most → x * load ≤ most * (x * min load 1)
    loaded x zero most fits = omega arith
    loaded x (suc n) most fits =
        let one : x * min (suc n) 1 ≡ x = (let is : min (suc n) 1 ≡ 1 = omega arith in rw is (omega arith)) in
        let product = mul-le x (suc n) x most (omega arith) fits in
        rw (one, mul_comm most x) product

    group_adds : (group : Group) → IsGroup scope constraints leaf list.unit labels group → added labels group ≤ sum_by (λ agent. beyond agent * mark group agent) scope.agents
    group_adds group is =
        let sum = weighted group.uses is.each in
        let each = sum_by-at_most (λ agent. beyond agent * load labels group agent) (λ agent. group.divisor * (beyond agent * mark group agent))
        (λ agent. loaded (beyond agent) (load labels group agent) group.divisor (is.balanced agent)) scope.agents in
        let scaled = sum_by-scale (λ agent. beyond agent * mark group agent) group.divisor scope.agents in
        divided_bound (sum_by (λ used. used.weight * excess labels used.lemma) group.uses) group.divisor _ is.positive (omega (arith, sum, each, scaled))

    abbrev marks : List Group → ℕ → ℕ
    marks groups agent = sum_by (λ group. mark group agent) groups

    groups_add : (groups : List Group) → All (IsGroup scope constraints leaf list.unit labels) groups → sum_by (added labels) groups ≤ sum_by (λ agent. beyond agent * marks groups agent) scope.agents
    groups_add [] each = omega arith
    groups_add (group ∷ groups) each =
        let first = group_adds group (each 0 group (omega arith)) in
        let rest = groups_add groups (λ k d within. each (suc k) d (omega arith)) in
        let both = sum_by-plus (λ agent. beyond agent * marks (group ∷ groups) agent) (λ agent. beyond agent * mark group agent) (λ agent. beyond agent * marks groups agent)
        (λ agent. ap (λ n. beyond agent * n) (sum_by-cons (λ one. mark one agent) group groups) ∙ mul-add (beyond agent) (mark group agent) (marks groups agent)) scope.agents in
        rw (sum_by-cons (added labels) group groups) (omega (arith, first, rest, both))

    one_group : (agent : ℕ) → marks leaf.groups agent ≤ 1
    one_group agent =
        sum_by-one (λ group. mark group agent) 1 leaf.groups (λ group. omega arith)
        (λ i j d lt within. ⊎_elim
        (λ (none : load labels (slice_index_or leaf.groups i d) agent ≡ 0). inl (rw none (omega arith)))
        (λ (none : load labels (slice_index_or leaf.groups j d) agent ≡ 0). inr (rw none (omega arith)))
        (proper.apart i j d lt within agent))

    floors_and_groups : sum_by floor scope.agents + sum_by (added labels) leaf.groups ≤ sum_by priced scope.agents
    floors_and_groups =
        let groups = groups_add leaf.groups proper.each_group in
        let once = sum_by-at_most (λ agent. beyond agent * marks leaf.groups agent) beyond
        (λ agent. let product = mul-le (beyond agent) (marks leaf.groups agent) (beyond agent) 1 (omega arith) (one_group agent) in omega (arith, product)) scope.agents in
        let both = sum_by-plus (λ agent. floor agent + beyond agent) floor beyond (λ agent. refl) scope.agents in
        let whole = sum_by-less (λ agent. floor agent + beyond agent) priced scope.agents
        (λ k d within. let agent : ℕ = slice_index_or scope.agents k d in
        let low = at_most_ticks (labels.floor agent) (priced agent) (floor_true agent (Contains-get_or scope.agents k d within)) in omega (arith, low)) in
        omega (arith, groups, once, both, whole)

    pub bound_true : AreDifferentAgents scope.problem scope.agents → leaf_bound scope leaf list labels ≤ sum_by (slice_index costs) scope.agents
    bound_true are =
        let paid = priced_bound scope.problem plan costs costed scope.agents are list in
        divided_bound (sum_by floor scope.agents + sum_by (added labels) leaf.groups - total_price list.prices) list.unit (sum_by (slice_index costs) scope.agents) proper.positive (omega (arith, floors_and_groups, paid))

    pub infinite_refuted : IsInfinite scope leaf labels → ⊥
    infinite_refuted (inl (agent, held, never)) = let bound : IsAtMost Never (Ticks (priced agent)) = rw never at (floor_true agent held) in bound
    infinite_refuted (inr (group, used, group_held, used_held, never)) =
        let is = All-contains (IsGroup scope constraints leaf list.unit labels) leaf.groups group proper.each_group group_held in
        let usable = All-contains (λ one. IsNamed scope constraints leaf list.unit labels one.lemma) group.uses used is.each used_held in
        let bound : IsAtMost Never (Ticks (sum_by priced (labels.agents used.lemma))) = rw never at (counted_true used.lemma usable) in bound

pub leaf_true : (scope : Scope) (constraints : ℕ → List PathConstraint) (leaf : LeafUses) (target : Label) → AreDifferentAgents scope.problem scope.agents → All (StatementHolds scope.problem scope.lists) scope.known →
    LeafShows scope constraints leaf target → (plan : List (List ℕ)) (costs : List ℕ) → IsCosted scope.problem plan costs → AllSatisfy plan costs constraints → IsAtMost target (Ticks (sum_by (slice_index costs) scope.agents))
leaf_true scope constraints leaf target are known (list, labels, proper, shows) plan costs costed obey = ⊎_elim
    (λ (infinite : IsInfinite scope leaf labels). absurd (infinite_refuted scope constraints leaf list labels proper known plan costs costed obey infinite))
    (λ (enough : IsAtMost target (Ticks (leaf_bound scope leaf list labels))). at_most_than target (leaf_bound scope leaf list labels) _ enough (bound_true scope constraints leaf list labels proper known plan costs costed obey are))
    shows
