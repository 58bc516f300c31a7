-- A leaf that uses the lemmas in force shows what the labels of the starts show.
use Rattle.std.proofs.Common.{◌≡◌, ◌≢◌, ℕ, ◌<◌, List, [], ◌∷◌, Option, Some, None, All, Contains, length, map, sum_by, slice_get, refl, sym, ◌∙◌, ap, subst, inl, inr, ⊎_elim, eqb-true, arith}
use Rattle.std.specs.Prelude.{◌==◌}
use Rattle.std.proofs.lemmas.Bool.{cond_both}
use Rattle.std.proofs.lemmas.List.Elements.{All-contains}
use Rattle.std.proofs.lemmas.Option.{slice_get_within}
use Rattle.mapf_model.specs.declared.bar.Bar.{Bar}
use Rattle.mapf_model.specs.declared.bar.Bar.TheVariants.{Cell, Move}
use Rattle.mapf_model.specs.declared.item.Claim.{Claim}
use Rattle.mapf_model.specs.declared.label.Entry.{Entry}
use Rattle.mapf_model.specs.declared.label.Label.{Label}
use Rattle.mapf_model.specs.declared.label.Label.TheVariants.{Ticks, Never}
use Rattle.mapf_model.specs.declared.problem.Agent.{Agent}
use Rattle.mapf_model.specs.Labels.{Entries, IsAtMost, IsEntryOrDistance, IsLabel, entries_of, label_plus}
use Rattle.mapf_model.specs.Plan.{Instance}
use Rattle.mapf_model.specs.Tree.{StartsShow}
use Rattle.mapf_model.proofs.ClaimLemmas.{slice_get_inside}
use Rattle.mapf_model.proofs.ContainsLemmas.{Contains-none, Contains-cons_new, Contains-cons_old, Contains-cons_cases}
use Rattle.mapf_model.proofs.DecidedLemmas.{label_unique}
use Rattle.mapf_lemmas.specs.declared.constraint.AgentConstraint.{AgentConstraint}
use Rattle.mapf_lemmas.specs.declared.constraint.PathConstraint.{PathConstraint}
use Rattle.mapf_lemmas.specs.Groups.{LeafUses, Scope, LeafLabels, MayBeUsed, IsNamed, IsFloor, IsProperLeaf, LeafShows, leaf_bound, times, ticks_of}
use Rattle.mapf_lemmas.specs.Lemmas.{Lemma, One, LemmasShow, OneShows, all_agents, scope_of, target_of}
use Rattle.mapf_lemmas.specs.Prices.{PriceList, no_list, cell_price}
use Rattle.mapf_lemmas.specs.SingleLabels.{IsSingleLabel}
use Rattle.mapf_lemmas.specs.Statements.{Statement, Meets, IsMet, constraints_of}
use Rattle.mapf_lemmas.proofs.SmallLists.{all_of_one}
use Rattle.mapf_lemma_convert.specs.declared.node_walk.NumberedLemma.{NumberedLemma}
use Rattle.mapf_lemma_convert.specs.Conversion.{path_constraint, path_constraints}
use Rattle.mapf_lemma_convert.proofs.InForceLemmas.{IsInForce, AreInForce, AreApart, IsNotOf, of_agent}
use Rattle.mapf_lemma_convert.proofs.ListLemmas.{all_of_contained, contains_map, contained_of_map, pairs_map}
use Rattle.mapf_lemma_convert.proofs.SoundLemmas.{single_is}
use Rattle.mapf_lemma_convert.proofs.StartLemmas.{some_label, AreFloors, agent_of_all, within_all, shown_by_starts}

meets_itself : (bar : Bar) → Meets (path_constraint bar) (path_constraint bar)
meets_itself (Cell cell tick) = (refl, refl)
meets_itself (Move from to tick) = (refl, refl, refl)

-- the constraint, of this agent
abbrev of_agent_i : ℕ → PathConstraint → AgentConstraint
of_agent_i i one = record { agent = i; constraint = one }

-- of constraints of one agent, each is of this agent
of_one : (i : ℕ) (constraints : List PathConstraint) (agent : ℕ) (needed : PathConstraint) → Contains (constraints_of (map (of_agent_i i) constraints) agent) needed → (i ≡ agent) × Contains constraints needed
of_one i [] agent needed = λ held. absurd (Contains-none needed held)
of_one i (first ∷ constraints) agent needed =
    let rest = constraints_of (map (of_agent_i i) constraints) agent in
    cond_both (i == agent) (first ∷ rest) rest (λ list. Contains list needed → (i ≡ agent) × Contains (first ∷ constraints) needed)
    (λ is found. (
      eqb-true i agent is,
      ⊎_elim
          (λ (here : first ≡ needed). subst (Contains (first ∷ constraints)) here (Contains-cons_new first constraints))
          (λ (later : Contains rest needed). Contains-cons_old first needed constraints (of_one i constraints agent needed later).1)
          (Contains-cons_cases first needed rest found),
    ))
    (λ is found. let (same, inside) = of_one i constraints agent needed found in (same, Contains-cons_old first needed constraints inside))

plus_none : (label : Label) → label_plus (Ticks 0) label ≡ label
plus_none (Ticks n) = ap Ticks (omega arith)
plus_none Never = refl

once : (label : Label) → times 1 label ≡ label
once (Ticks n) = ap Ticks (omega arith)
once Never = refl

agents_in : Option Statement → List ℕ
agents_in (Some statement) = statement.agents
agents_in None = []

bound_in : Option Statement → Label
bound_in (Some statement) = statement.bound
bound_in None = Never

module _ (problem : Instance) (lemmas : List Lemma) (statements : List Statement) (shown : LemmasShow problem [] lemmas statements) where
  abbrev scope : Scope
  scope = scope_of problem [] statements (all_agents problem)

  statement_of : (agent : ℕ) (constraints : List PathConstraint) (listed : List Entry) (number : ℕ) → slice_get lemmas number ≡ Some (One agent constraints None listed) →
      (statement : Statement) × (slice_get statements number ≡ Some statement) × OneShows problem [] agent constraints None listed statement
  statement_of agent constraints listed number is =
      let within = slice_get_within lemmas number (One agent constraints None listed) is in
      let count = shown.count in
      let found = slice_get_inside statements number (omega (arith, within, count)) in
      (found.0, found.1, shown.each number (One agent constraints None listed) found.0 is found.1)

  module _ (constraints : ℕ → List PathConstraint) (bars : ℕ → List Bar) (entries : ℕ → Entries) (above : List NumberedLemma)
      (are : AreInForce lemmas bars entries above) (same_constraints : (agent : ℕ) → constraints agent ≡ path_constraints (bars agent))
    where
      floor_in : ℕ → Option Agent → Label
      floor_in agent (Some a) = (some_label problem.grid a.goal (entries agent) a.start 0).0
      floor_in agent None = Never

      abbrev labels : LeafLabels
      labels = record {
        floor = λ agent. floor_in agent (slice_get problem.agents agent);
        agents = λ number. agents_in (slice_get statements number);
        counted = λ number. bound_in (slice_get statements number);
      }

      abbrev uses : LeafUses
      uses = record { list_number = None; singles = map (λ lemma. lemma.number) above; groups = [] }

      floors : AreFloors problem entries labels.floor
      unfolding floor_in
      floors i agent is = rw is (some_label problem.grid agent.goal (entries i) agent.start 0).1

      -- what is known of a lemma in force
      record IsUsed (lemma : NumberedLemma) : Type 0 where
        statement : Statement
        named : slice_get statements lemma.number ≡ Some statement
        agents_are : statement.agents ≡ lemma.agent ∷ []
        unlisted : statement.list_number ≡ None
        usable : MayBeUsed scope constraints statement
        bound_is : statement.bound ≡ labels.floor lemma.agent

      usable_of : (lemma : NumberedLemma) (one : IsInForce lemmas bars entries lemma) (bound : Label) → lemma.agent < length problem.agents →
          MayBeUsed scope constraints (record { agents = lemma.agent ∷ []; constraints = map (of_agent_i lemma.agent) (path_constraints one.held); list_number = None; bound = bound })
      usable_of lemma one bound within = record {
        inside = all_of_one (Contains (all_agents problem)) lemma.agent (agent_of_all problem lemma.agent within);
        met = λ agent needed held.
            let (same, inside) = of_one lemma.agent (path_constraints one.held) agent needed held in
            let (bar, stands, is) = contained_of_map path_constraint one.held needed inside in
            let there = contains_map path_constraint (bars lemma.agent) bar (one.stand bar stands) in
            let here : Contains (constraints lemma.agent) (path_constraint bar) = subst (λ list. Contains list (path_constraint bar)) (sym (same_constraints lemma.agent)) there in
            subst (λ a. IsMet (constraints a) needed) same (subst (IsMet (constraints lemma.agent)) is (path_constraint bar, here, meets_itself bar));
      }

      used : (lemma : NumberedLemma) → Contains above lemma → IsUsed lemma
      used lemma held =
          let one = All-contains (IsInForce lemmas bars entries) above lemma are.each held in
          let (statement, named, shows) = statement_of lemma.agent (path_constraints one.held) one.listed lemma.number one.is_lemma in
          let within = slice_get_within problem.agents lemma.agent shows.a shows.is_agent in
          let single : IsSingleLabel (record { grid = problem.grid; list = no_list; agent = shows.a; constraints = path_constraints one.held }) (entries_of one.listed) shows.a.start 0 shows.label =
          subst (λ list. IsSingleLabel (record { grid = problem.grid; list = list; agent = shows.a; constraints = path_constraints one.held }) (entries_of one.listed) shows.a.start 0 shows.label) shows.is_list shows.is_label in
          let plain = single_is problem.grid shows.a one.held (entries_of one.listed) shows.a.start 0 shows.label single in
          let here : IsLabel problem.grid shows.a.goal (entries lemma.agent) shows.a.start 0 shows.label =
          subst (λ entry. IsEntryOrDistance problem.grid shows.a.goal shows.a.start entry shows.label) (sym (one.same shows.a.start 0)) plain in
          let label_is = label_unique problem.grid shows.a.goal (entries lemma.agent) shows.a.start 0 shows.label (labels.floor lemma.agent) here (floors lemma.agent shows.a shows.is_agent) in
          let unpriced : cell_price shows.list.prices shows.a.start 0 ≡ 0 = ap (λ (list : PriceList). cell_price list.prices shows.a.start 0) shows.is_list in
          record {
            statement = statement;
            named = named;
            agents_are = ap (λ s. s.agents) shows.is_statement;
            unlisted = ap (λ s. s.list_number) shows.is_statement;
            usable = subst (MayBeUsed scope constraints) (sym shows.is_statement) (usable_of lemma one _ within);
            bound_is = ap (λ s. s.bound) shows.is_statement ∙ ap (λ n. label_plus (Ticks n) shows.label) unpriced ∙ plus_none shows.label ∙ label_is;
          }

      agents_are_of : (lemma : NumberedLemma) → Contains above lemma → labels.agents lemma.number ≡ lemma.agent ∷ []
      unfolding agents_in
      agents_are_of lemma held = let one = used lemma held in ap agents_in one.named ∙ one.agents_are

      counted_is : (lemma : NumberedLemma) → Contains above lemma → labels.counted lemma.number ≡ labels.floor lemma.agent
      unfolding bound_in
      counted_is lemma held = let one = used lemma held in ap bound_in one.named ∙ one.bound_is

      named_of : (lemma : NumberedLemma) → Contains above lemma → IsNamed scope constraints uses 1 labels lemma.number
      unfolding agents_in bound_in
      named_of lemma held =
          let one = used lemma held in
          record { statement = one.statement; named = one.named; usable = one.usable; same_agents = ap agents_in one.named; counts = inl (one.unlisted, ap bound_in one.named) }

      -- what holds of each lemma in force holds of each that the leaf uses
      each_used : (P : ℕ → Type 0) → ((lemma : NumberedLemma) → Contains above lemma → P lemma.number) → All P uses.singles
      each_used P each = all_of_contained P uses.singles (λ number held.
          let (lemma, inside, same) = contained_of_map (λ l. l.number) above number held in
          subst P same (each lemma inside))

      floor_of : (agent : ℕ) → agent < length problem.agents → IsFloor scope uses 1 labels agent
      floor_of agent within = ⊎_elim
          (λ (found : (lemma : NumberedLemma) × Contains above lemma × (lemma.agent ≡ agent)).
          let (lemma, held, same) = found in
          inl (
            lemma.number,
            contains_map (λ l. l.number) above lemma held,
            agents_are_of lemma held ∙ ap (λ a. a ∷ []) same,
            ap labels.floor (sym same) ∙ sym (counted_is lemma held),
          ))
          (λ (none : IsNotOf agent above).
          let (a, is) = slice_get_inside problem.agents agent within in
          let label = floors agent a is in
          let unlisted = are.others agent none a.start 0 in
          inr (
            λ number held same.
                let (lemma, inside, is_number) = contained_of_map (λ l. l.number) above number held in
                let both : lemma.agent ∷ [] ≡ agent ∷ [] = sym (agents_are_of lemma inside) ∙ ap labels.agents is_number ∙ same in
                let equal : lemma.agent ≡ agent = cc in
                none lemma inside equal,
            a,
            labels.floor agent,
            is,
            subst (λ entry. IsEntryOrDistance problem.grid a.goal a.start entry (labels.floor agent)) unlisted label,
            sym (once (labels.floor agent)),
          ))
          (of_agent agent above)

      leaf_is_proper : IsProperLeaf scope constraints uses no_list labels
      leaf_is_proper = record {
        is_list = refl;
        positive = omega arith;
        alone = each_used (λ number. (agent : ℕ) × (labels.agents number ≡ agent ∷ [])) (λ lemma held. (lemma.agent, agents_are_of lemma held));
        different = pairs_map (λ lemma. lemma.number) (λ one other. labels.agents one ≢ labels.agents other) AreApart above are.apart (λ x y first second apart same.
            let both : x.agent ∷ [] ≡ y.agent ∷ [] = sym (agents_are_of x first) ∙ same ∙ agents_are_of y second in
            let equal : x.agent ≡ y.agent = cc in
            apart equal);
        each = each_used (IsNamed scope constraints uses 1 labels) named_of;
        floors = λ agent held. floor_of agent (within_all problem agent held);
        each_group = λ n d within. absurd (omega arith);
        apart = λ i j d before within. absurd (omega arith);
      }

      pub leaf_shows : (claim : Claim) → StartsShow problem claim entries → LeafShows scope constraints uses (target_of claim)
      leaf_shows claim shows = (
        no_list,
        labels,
        leaf_is_proper,
        ⊎_elim
            (λ never. inl (inl never))
            (λ (enough : IsAtMost (target_of claim) (Ticks (sum_by (λ agent. ticks_of (labels.floor agent)) (all_agents problem)))).
            inr (subst (λ n. IsAtMost (target_of claim) (Ticks n)) whole enough))
            (shown_by_starts problem entries labels.floor floors claim shows),
      )
        where
          whole : sum_by (λ agent. ticks_of (labels.floor agent)) (all_agents problem) ≡ leaf_bound scope uses no_list labels
          whole = omega arith
