-- Every lemma is true, and so is the claim of a certificate.
use Rattle.std.proofs.Common.{◌≡◌, ℕ, zero, suc, ◌+◌, ◌<◌, ◌≤◌, List, [], ◌∷◌, Option, Some, None, All, length, map, take, sum, sum_by, slice_get, slice_index, slice_index_or, true, refl, sym, ◌∙◌, ap, subst, ⊎_elim, arith}
use Rattle.std.specs.List.{range_with_len}
use Rattle.std.specs.Prelude.{◌==◌}
use Rattle.std.proofs.lemmas.Bool.{eq-eqb, cases_lt}
use Rattle.std.proofs.lemmas.List.Sums.{sum_by-cons}
use Rattle.std.proofs.lemmas.List.FromFn.{get_or-range_with_len, length-range_with_len}
use Rattle.std.proofs.lemmas.List.{get_or-take, length-take}
use Rattle.std.proofs.lemmas.Option.{slice_get_within, slice_get-get_or, same_Some}
use Rattle.mapf_lemmas.specs.declared.constraint.PathConstraint.{PathConstraint}
use Rattle.mapf_lemmas.specs.declared.constraint.AgentConstraint.{AgentConstraint}
use Rattle.mapf_lemmas.specs.Constraints.{SatisfiesAll}
use Rattle.mapf_lemmas.specs.JointLabels.{PairEntries}
use Rattle.mapf_lemmas.specs.declared.joint.JointCell.{JointCell}
use Rattle.mapf_lemmas.specs.Lemmas.{Lemma, One, Two, NeverArrive, ByCases, pair_of, OneShows, TwoShow, NeverShows, CasesShow, LemmaShows, LemmasShow, AreDifferentAgents, all_agents, target_of, scope_of, CertificateShows}
use Rattle.mapf_lemmas.specs.Prices.{PriceList, no_list, cell_price, priced_cost}
use Rattle.mapf_lemmas.specs.Statements.{Statement, IsListOf, constraints_of, IsCosted, StatementHolds, priced_cost_of}
use Rattle.mapf_lemmas.specs.Cases.{CaseTree}
use Rattle.mapf_lemmas.proofs.CaseLemmas.{tree_true}
use Rattle.mapf_lemmas.proofs.JointLemmas.{both_start, closed_refuted}
use Rattle.mapf_lemmas.proofs.PlanLemmas.{path_of, path_is, cost_is, lawful_of, cost_of, apart_of}
use Rattle.mapf_lemmas.proofs.PriceLemmas.{sum_by-at_most}
use Rattle.mapf_lemmas.proofs.SingleLemmas.{start_bound}
use Rattle.mapf_model.specs.declared.item.Claim.{Claim}
use Rattle.mapf_model.specs.declared.item.Claim.TheVariants.{Cost, Bound, Impossible}
use Rattle.mapf_model.specs.declared.label.Entry.{Entry}
use Rattle.mapf_model.specs.declared.label.Label.{Label}
use Rattle.mapf_model.specs.declared.label.Label.TheVariants.{Ticks, Never}
use Rattle.mapf_model.specs.Labels.{IsAtMost, label_plus, entries_of}
use Rattle.mapf_model.specs.Plan.{Instance, IsValid}
use Rattle.mapf_model.specs.Tree.{Holds}
use Rattle.mapf_model.proofs.ContainsLemmas.{Contains-none}
use Rattle.mapf_model.proofs.SumLemmas.{some_sum}
use Rattle.mapf_model.proofs.ClaimLemmas.{Bounds, holds_of_plans, slice_get_inside}

-- of constraints of one agent, those of the agent are all
all_of_one : (agent : ℕ) (constraints : List PathConstraint) → constraints_of (map (λ one. record { agent = agent; constraint = one }) constraints) agent ≡ constraints
all_of_one agent [] = refl
all_of_one agent (one ∷ constraints) =
    let same : (agent == agent) ≡ true = eq-eqb agent agent refl in
    rw (same, all_of_one agent constraints) refl

pub same_list_of : (lists : List PriceList) (number : Option ℕ) (one other : PriceList) → IsListOf lists number one → IsListOf lists number other → one ≡ other
same_list_of lists None one other is_one is_other = is_one ∙ sym is_other
same_list_of lists (Some number) one other is_one is_other = same_Some one other (sym is_one ∙ is_other)

at_most_same : (label : Label) (m n : ℕ) → m ≡ n → IsAtMost label (Ticks m) → IsAtMost label (Ticks n)
at_most_same label m n same = subst (λ k. IsAtMost label (Ticks k)) same

at_most_more : (label : Label) (m n : ℕ) → IsAtMost label (Ticks m) → m ≤ n → IsAtMost label (Ticks n)
at_most_more (Ticks k) m n p q = omega arith
at_most_more Never m n p q = p

module _ (problem : Instance) (lists : List PriceList) where
  one_true : (agent : ℕ) (constraints : List PathConstraint) (number : Option ℕ) (entries : List Entry) (statement : Statement) → OneShows problem lists agent constraints number entries statement → StatementHolds problem lists statement
  one_true agent constraints number entries statement shows = rw shows.is_statement (λ plan costs list costed obey is_list.
      let cost : ℕ = slice_index costs agent in
      let path = path_of problem plan costs costed agent in
      let within = slice_get_within problem.agents agent shows.a shows.is_agent in
      let lawful = lawful_of problem plan costs costed agent shows.a shows.is_agent in
      let obeys : SatisfiesAll path cost constraints =
      subst (SatisfiesAll path cost) (all_of_one agent constraints) (obey agent cost path (path_is problem plan costs costed agent within) (cost_is problem plan costs costed agent within)) in
      let bound = start_bound (record { grid = problem.grid; list = shows.list; agent = shows.a; constraints = constraints }) (entries_of entries) path cost shows.sound lawful.is_path.steps obeys
      (cost_of problem plan costs costed agent shows.a shows.is_agent).rests lawful.start shows.label shows.is_label in
      at_most_same (label_plus (Ticks (cell_price shows.list.prices shows.a.start 0)) shows.label) _ _
      (ap (λ l. priced_cost l path cost) (same_list_of lists number shows.list list shows.is_list is_list) ∙ omega arith) bound)

  two_true : (i j : ℕ) (constraints : List AgentConstraint) (number : Option ℕ) (entries : PairEntries) (statement : Statement) → TwoShow problem lists i j constraints number entries statement → StatementHolds problem lists statement
  two_true i j constraints number entries statement shows = rw shows.is_statement (λ plan costs list costed obey is_list.
      let c : ℕ = slice_index costs i in
      let d : ℕ = slice_index costs j in
      let p = path_of problem plan costs costed i in
      let q = path_of problem plan costs costed j in
      let within_i = slice_get_within problem.agents i shows.a shows.is_first in
      let within_j = slice_get_within problem.agents j shows.b shows.is_second in
      let p_lawful = lawful_of problem plan costs costed i shows.a shows.is_first in
      let q_lawful = lawful_of problem plan costs costed j shows.b shows.is_second in
      let bound = both_start (pair_of problem shows.list i j shows.a shows.b constraints) entries p q c d shows.sound p_lawful.is_path.steps q_lawful.is_path.steps
      (obey i c p (path_is problem plan costs costed i within_i) (cost_is problem plan costs costed i within_i)) (obey j d q (path_is problem plan costs costed j within_j) (cost_is problem plan costs costed j within_j))
      (cost_of problem plan costs costed i shows.a shows.is_first).rests (cost_of problem plan costs costed j shows.b shows.is_second).rests
      (apart_of problem plan costs costed i j shows.differ within_i within_j) p_lawful.start q_lawful.start shows.label shows.is_label in
      at_most_same (label_plus (Ticks (cell_price shows.list.prices shows.a.start 0 + cell_price shows.list.prices shows.b.start 0)) shows.label) _ _
      (ap (λ l. priced_cost l p c + priced_cost l q d) (same_list_of lists number shows.list list shows.is_list is_list) ∙ omega arith) bound)

  never_true : (i j : ℕ) (cells : List JointCell) (statement : Statement) → NeverShows problem i j cells statement → StatementHolds problem lists statement
  never_true i j cells statement shows = rw shows.is_statement (λ plan costs list costed obey is_list.
      absurd (closed_refuted problem.grid shows.a shows.b cells (path_of problem plan costs costed i) (path_of problem plan costs costed j) shows.closed
      (lawful_of problem plan costs costed i shows.a shows.is_first) (lawful_of problem plan costs costed j shows.b shows.is_second)
      (apart_of problem plan costs costed i j shows.differ (slice_get_within problem.agents i shows.a shows.is_first) (slice_get_within problem.agents j shows.b shows.is_second))))

  cases_true : (known : List Statement) → All (StatementHolds problem lists) known → (agents : List ℕ) (constraints : List AgentConstraint) (target : Label) (tree : CaseTree) (statement : Statement) →
      CasesShow problem lists known agents constraints target tree statement → StatementHolds problem lists statement
  cases_true known holds agents constraints target tree statement shows = rw shows.is_statement (λ plan costs list costed obey is_list.
      let bound = tree_true (scope_of problem lists known agents) plan costs costed holds shows.are_agents target tree (constraints_of constraints) obey shows.shows in
      let least = sum_by-at_most (slice_index costs) (priced_cost_of no_list plan costs) (λ agent. omega arith) agents in
      rw is_list (at_most_more target _ _ bound least))

  lemma_true : (known : List Statement) → All (StatementHolds problem lists) known → (lemma : Lemma) (statement : Statement) → LemmaShows problem lists known lemma statement → StatementHolds problem lists statement
  lemma_true known holds (One agent constraints list entries) statement shows = one_true agent constraints list entries statement shows
  lemma_true known holds (Two i j constraints list first second joint) statement shows = two_true i j constraints list _ statement shows.1
  lemma_true known holds (NeverArrive i j cells) statement shows = never_true i j cells statement shows
  lemma_true known holds (ByCases agents constraints target tree) statement shows = cases_true known holds agents constraints target tree statement shows

  module _ (lemmas : List Lemma) (statements : List Statement) (show : LemmasShow problem lists lemmas statements) where
    before_true : (n : ℕ) (d : Statement) → (k : ℕ) → k < n → k < length statements → StatementHolds problem lists (slice_index_or statements k d)
    before_true zero d k below within = absurd (omega arith)
    before_true (suc n) d k below within = ⊎_elim
        (λ (earlier : k < n). before_true n d k earlier within)
        (λ (last : n ≤ k).
        let count = show.count in
        let lemma : (lemma : Lemma) × (slice_get lemmas k ≡ Some lemma) = slice_get_inside lemmas k (omega arith) in
        lemma_true (take k statements) (λ j e inside.
        let short = length-take k statements in
        rw (get_or-take k statements j e (omega arith)) (before_true n e j (omega arith) (omega arith))) lemma.0 (slice_index_or statements k d) (show.each k lemma.0 (slice_index_or statements k d) lemma.1 (slice_get-get_or statements k d within)))
        (cases_lt k n)

    pub all_true : All (StatementHolds problem lists) statements
    all_true k d within = before_true (suc k) d k (omega arith) within

sum_by-same : {X : Type 0} (f g : X → ℕ) → ((x : X) → f x ≡ g x) → (xs : List X) → sum_by f xs ≡ sum_by g xs
sum_by-same f g same [] = refl
sum_by-same f g same (x ∷ xs) = rw (sum_by-cons f x xs, sum_by-cons g x xs) (omega (arith, same x, sum_by-same f g same xs))

-- the sum of a list by its indexes
sum_shifted : (f : ℕ → ℕ) (a n : ℕ) → sum_by f (range_with_len (a + 1) n) ≡ sum_by (λ i. f (i + 1)) (range_with_len a n)
sum_shifted f a zero = refl
sum_shifted f a (suc n) = rw (sum_by-cons f (a + 1) (range_with_len (a + 1 + 1) n), sum_by-cons (λ i. f (i + 1)) a (range_with_len (a + 1) n)) (ap (λ s. f (a + 1) + s) (sum_shifted f (a + 1) n))

sum_by_index : (xs : List ℕ) → sum_by (slice_index xs) (range_with_len 0 (length xs)) ≡ sum xs
sum_by_index [] = refl
sum_by_index (x ∷ xs) =
    let shifted = sum_shifted (slice_index (x ∷ xs)) 0 (length xs) in
    let same = sum_by-same (λ i. slice_index (x ∷ xs) (i + 1)) (slice_index xs) (λ i. let next : i + 1 ≡ suc i = omega arith in rw next refl) (range_with_len 0 (length xs)) in
    rw (sum_by-cons (slice_index (x ∷ xs)) 0 (range_with_len 1 (length xs)), sum_by-cons (λ n. n) x xs) (omega (arith, shifted, same, sum_by_index xs))

module _ (problem : Instance) (lists : List PriceList) (lemmas : List Lemma) (tree : CaseTree) (claim : Claim) (shows : CertificateShows problem lists lemmas tree claim) where
  all_different : AreDifferentAgents problem (all_agents problem)
  all_different = (
    λ i j d lt within same.
        let short = length-range_with_len 0 (length problem.agents) in
        let first = get_or-range_with_len 0 (length problem.agents) i d (omega arith) in
        let second = get_or-range_with_len 0 (length problem.agents) j d (omega arith) in
        absurd (omega arith),
    λ k d within.
        let short = length-range_with_len 0 (length problem.agents) in
        let is = get_or-range_with_len 0 (length problem.agents) k d (omega arith) in
        omega arith,
  )

  costs_reach : (plan : List (List ℕ)) (costs : List ℕ) → IsCosted problem plan costs → IsAtMost (target_of claim) (Ticks (sum costs))
  costs_reach plan costs costed =
      let bound = tree_true (scope_of problem lists shows.statements (all_agents problem)) plan costs costed (all_true problem lists lemmas shows.statements shows.each) all_different
      (target_of claim) tree (λ agent. []) (λ agent cost path path_is cost_is one held. absurd (Contains-none one held)) shows.shows in
      let count = costed.valid.count in
      let so_many = costed.are_costs.count in
      let all : length problem.agents ≡ length costs = omega arith in
      at_most_same (target_of claim) _ _ (ap (λ n. sum_by (slice_index costs) (range_with_len 0 n)) all ∙ sum_by_index costs) bound

pub certificate_holds : (problem : Instance) (lists : List PriceList) (lemmas : List Lemma) (tree : CaseTree) (claim : Claim) → CertificateShows problem lists lemmas tree claim → Holds problem claim
certificate_holds problem lists lemmas tree claim shows = holds_of_plans problem claim (by claim shows)
  where
    by : (claim : Claim) → CertificateShows problem lists lemmas tree claim → (plan : List (List ℕ)) → IsValid problem plan → Bounds problem claim plan
    by (Cost cost) shows plan valid = λ total sum. rw sum.2 (costs_reach problem lists lemmas tree (Cost cost) shows plan sum.0 (record { valid = valid; are_costs = sum.1 }))
    by (Bound bound) shows plan valid = λ total sum. rw sum.2 (costs_reach problem lists lemmas tree (Bound bound) shows plan sum.0 (record { valid = valid; are_costs = sum.1 }))
    by Impossible shows plan valid =
        let found = some_sum problem plan valid in
        costs_reach problem lists lemmas tree Impossible shows plan found.1.0 (record { valid = valid; are_costs = found.1.1 })
