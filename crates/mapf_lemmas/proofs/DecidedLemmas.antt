-- Labels, statements and the bounds of leaves are unique.
use Rattle.std.proofs.Common.{◌≡◌, ◌⊎◌, ◌↔◌, ℕ, suc, ◌+◌, ◌-◌, ◌*◌, ◌<◌, ◌≤◌, max, List, [], ◌∷◌, Option, Some, None, All, Contains, length, map, sum_by, slice_index_or, refl, sym, ◌∙◌, ap, subst, inl, inr, ⊎_elim, arith}
use Rattle.std.proofs.lemmas.Bool.{cases_lt}
use Rattle.std.proofs.lemmas.List.{get_or_default}
use Rattle.std.proofs.lemmas.List.Elements.{All-contains, Contains-get_or}
use Rattle.std.proofs.lemmas.List.Sums.{sum_by-cons}
use Rattle.std.proofs.lemmas.Option.{same_Some}
use Rattle.mapf_lemmas.specs.declared.constraint.PathConstraint.{PathConstraint}
use Rattle.mapf_lemmas.specs.Constraints.{demanded_cost}
use Rattle.mapf_lemmas.specs.Prices.{PriceList, no_list, total_price, cell_price}
use Rattle.mapf_lemmas.specs.declared.constraint.AgentConstraint.{AgentConstraint}
use Rattle.mapf_lemmas.specs.Statements.{Statement, IsListOf}
use Rattle.mapf_lemmas.specs.SingleLabels.{Task, IsDefault, IsListedOr, IsSingleLabel}
use Rattle.mapf_lemmas.specs.declared.joint.JointState.{JointState}
use Rattle.mapf_lemmas.specs.declared.joint.JointState.TheVariants.{Both, FirstAlone, SecondAlone}
use Rattle.mapf_lemmas.specs.JointLabels.{PairTask, PairEntries, first_task, second_task, IsJointDefault, IsJointLabel}
use Rattle.mapf_lemmas.specs.Groups.{Group, LeafUses, Scope, times, Counts, LeafLabels, IsNamed, IsFloor, ticks_of, excess, divided, added, IsGroup, IsProperLeaf, IsInfinite, leaf_bound, LeafShows}
use Rattle.mapf_lemmas.specs.Lemmas.{Lemma, One, Two, NeverArrive, ByCases, pair_of, OneShows, TwoShow, LemmaShows}
use Rattle.mapf_lemmas.proofs.CertificateLemmas.{same_list_of}
use Rattle.mapf_model.proofs.DecidedLemmas.{label_unique}
use Rattle.mapf_model.specs.declared.label.Label.{Label}
use Rattle.mapf_model.specs.declared.label.Label.TheVariants.{Ticks, Never}
use Rattle.mapf_model.specs.declared.problem.Agent.{Agent}
use Rattle.mapf_model.specs.Plan.{Instance}
use Rattle.mapf_model.specs.declared.label.Entry.{Entry}
use Rattle.mapf_model.specs.Labels.{Entries, entries_of, IsAtMost, label_plus}

default_unique : (task : Task) (cell tick : ℕ) (a b : Label) → IsDefault task cell tick a → IsDefault task cell tick b → a ≡ b
default_unique task cell tick (Ticks m) (Ticks n) (d, is_d, same_m) (e, is_e, same_n) =
    let low = is_d.least e is_e.walk in
    let high = is_e.least d is_d.walk in
    let same : d ≡ e = omega arith in
    ap Ticks (same_m ∙ ap (λ k. task.list.unit * max k (demanded_cost task.constraints - tick)) same ∙ sym same_n)
default_unique task cell tick (Ticks m) Never (d, is_d, same_m) none = absurd (none d is_d.walk)
default_unique task cell tick Never (Ticks n) none (e, is_e, same_n) = absurd (none e is_e.walk)
default_unique task cell tick Never Never p q = refl

listed_unique : (listed : Option Label) (IsOther : Label → Type 0) (a b : Label) → (IsOther a → IsOther b → a ≡ b) → IsListedOr listed IsOther a → IsListedOr listed IsOther b → a ≡ b
listed_unique (Some label) IsOther a b unique p q = p ∙ sym q
listed_unique None IsOther a b unique p q = unique p q

pub single_unique : (task : Task) (entries : Entries) (cell tick : ℕ) (a b : Label) → IsSingleLabel task entries cell tick a → IsSingleLabel task entries cell tick b → a ≡ b
single_unique task entries cell tick a b p q = listed_unique (entries cell tick) (IsDefault task cell tick) a b (default_unique task cell tick a b) p q

joint_default_unique : (pair : PairTask) (entries : PairEntries) (state : JointState) (tick : ℕ) (a b : Label) → IsJointDefault pair entries state tick a → IsJointDefault pair entries state tick b → a ≡ b
joint_default_unique pair entries (Both u v) tick a b (l, m, is_l, is_m, same_a) (n, o, is_n, is_o, same_b) =
    let first = single_unique (first_task pair) entries.first u tick l n is_l is_n in
    let second = single_unique (second_task pair) entries.second v tick m o is_m is_o in
    same_a ∙ ap (λ x. label_plus x m) first ∙ ap (λ x. label_plus n x) second ∙ sym same_b
joint_default_unique pair entries (FirstAlone u) tick a b p q = single_unique (first_task pair) entries.first u tick a b p q
joint_default_unique pair entries (SecondAlone v) tick a b p q = single_unique (second_task pair) entries.second v tick a b p q

pub joint_unique : (pair : PairTask) (entries : PairEntries) (state : JointState) (tick : ℕ) (a b : Label) → IsJointLabel pair entries state tick a → IsJointLabel pair entries state tick b → a ≡ b
joint_unique pair entries state tick a b p q = listed_unique (entries.joint state tick) (IsJointDefault pair entries state tick) a b (joint_default_unique pair entries state tick a b) p q

-- the labels of two proper readings of a leaf agree where the leaf looks at them
module _
    (scope : Scope) (constraints : ℕ → List PathConstraint) (leaf : LeafUses) (list : PriceList) (one other : LeafLabels)
    (p : IsProperLeaf scope constraints leaf list one) (q : IsProperLeaf scope constraints leaf list other)
  where
    named_agents : (lemma : ℕ) → IsNamed scope constraints leaf list.unit one lemma → IsNamed scope constraints leaf list.unit other lemma → one.agents lemma ≡ other.agents lemma
    named_agents lemma a b = a.same_agents ∙ ap (λ s. s.agents) (same_Some a.statement b.statement (sym a.named ∙ b.named)) ∙ sym b.same_agents

    once : (label : Label) → times 1 label ≡ label
    once (Ticks n) = ap Ticks (omega arith)
    once Never = refl

    counts_once : (number : Option ℕ) (statement : Statement) (a b : Label) → IsListOf scope.lists number list → Counts number list.unit statement a → Counts number list.unit statement b → a ≡ b
    counts_once number statement a b is_list (inl x) (inl y) = x.1 ∙ sym y.1
    counts_once number statement a b is_list (inr x) (inr y) = x.1 ∙ sym y.1
    counts_once number statement a b is_list (inl x) (inr y) =
        let same : list ≡ no_list = subst (λ n. IsListOf scope.lists n list) (sym x.0 ∙ y.0) is_list in
        x.1 ∙ sym (once statement.bound) ∙ ap (λ l. times l.unit statement.bound) (sym same) ∙ sym y.1
    counts_once number statement a b is_list (inr x) (inl y) =
        let same : list ≡ no_list = subst (λ n. IsListOf scope.lists n list) (sym y.0 ∙ x.0) is_list in
        x.1 ∙ ap (λ l. times l.unit statement.bound) same ∙ once statement.bound ∙ sym y.1

    named_counted : (lemma : ℕ) → IsNamed scope constraints leaf list.unit one lemma → IsNamed scope constraints leaf list.unit other lemma → one.counted lemma ≡ other.counted lemma
    named_counted lemma a b =
        let same = same_Some a.statement b.statement (sym a.named ∙ b.named) in
        counts_once leaf.list_number a.statement (one.counted lemma) (other.counted lemma) p.is_list a.counts (rw same b.counts)

    each_named : (lemma : ℕ) → Contains leaf.singles lemma → IsNamed scope constraints leaf list.unit one lemma × IsNamed scope constraints leaf list.unit other lemma
    each_named lemma held = (All-contains (IsNamed scope constraints leaf list.unit one) leaf.singles lemma p.each held, All-contains (IsNamed scope constraints leaf list.unit other) leaf.singles lemma q.each held)

    -- one lemma at most is of an agent alone
    one_alone : (agent l m : ℕ) → Contains leaf.singles l → Contains leaf.singles m → one.agents l ≡ agent ∷ [] → one.agents m ≡ agent ∷ [] → l ≡ m
    one_alone agent l m (i, within_i, is_l) (j, within_j, is_m) of_l of_m = ⊎_elim
        (λ (less : i < j). absurd (p.different i j l less within_j (ap one.agents is_l ∙ of_l ∙ sym of_m ∙ ap one.agents (at_default j m l within_j is_m))))
        (λ (not_less : j ≤ i). ⊎_elim
        (λ (less : j < i). absurd (p.different j i l less within_i (ap one.agents (sym (at_default j m l within_j is_m)) ∙ of_m ∙ sym of_l ∙ ap one.agents (sym is_l))))
        (λ (not_more : i ≤ j). let same : i ≡ j = omega arith in sym is_l ∙ ap (λ k. slice_index_or leaf.singles k l) same ∙ sym (at_default j m l within_j is_m))
        (cases_lt j i))
        (cases_lt i j)
      where
        at_default : (k x d : ℕ) → k < length leaf.singles → slice_index_or leaf.singles k x ≡ x → x ≡ slice_index_or leaf.singles k d
        at_default k x d within is = sym is ∙ get_or_default leaf.singles k x d within

    floors_agree : (agent : ℕ) → Contains scope.agents agent → one.floor agent ≡ other.floor agent
    floors_agree agent held = by (p.floors agent held) (q.floors agent held)
      where
        by : IsFloor scope leaf list.unit one agent → IsFloor scope leaf list.unit other agent → one.floor agent ≡ other.floor agent
        by (inl (l, held_l, of_l, is_l)) (inl (m, held_m, of_m, is_m)) =
            let named_m = each_named m held_m in
            let same = one_alone agent l m held_l held_m of_l (named_agents m named_m.0 named_m.1 ∙ of_m) in
            is_l ∙ ap one.counted same ∙ named_counted m named_m.0 named_m.1 ∙ sym is_m
        by (inl (l, held_l, of_l, is_l)) (inr far) =
            let named_l = each_named l held_l in
            absurd (far.0 l held_l (sym (named_agents l named_l.0 named_l.1) ∙ of_l))
        by (inr far) (inl (m, held_m, of_m, is_m)) =
            let named_m = each_named m held_m in
            absurd (far.0 m held_m (named_agents m named_m.0 named_m.1 ∙ of_m))
        by (inr (none, a, d, is_a, is_d, is_one)) (inr (none', b, e, is_b, is_e, is_other)) =
            let same = same_Some a b (sym is_a ∙ is_b) in
            let distance = label_unique scope.problem.grid b.goal (λ cell tick. None) b.start 0 d e (rw (sym same) is_d) is_e in
            is_one ∙ ap (times list.unit) distance ∙ sym is_other

    sum_by-agree : {X : Type 0} (f g : X → ℕ) (xs : List X) → All (λ x. f x ≡ g x) xs → sum_by f xs ≡ sum_by g xs
    sum_by-agree f g [] same = refl
    sum_by-agree f g (x ∷ xs) same = rw (sum_by-cons f x xs, sum_by-cons g x xs) (omega (arith, same 0 x (omega arith), sum_by-agree f g xs (λ k d within. same (suc k) d (omega arith))))

    excess_agrees : (lemma : ℕ) → IsNamed scope constraints leaf list.unit one lemma → IsNamed scope constraints leaf list.unit other lemma → excess one lemma ≡ excess other lemma
    excess_agrees lemma a b =
        let counted = ap ticks_of (named_counted lemma a b) in
        let agents = named_agents lemma a b in
        let floors = sum_by-agree (λ agent. ticks_of (one.floor agent)) (λ agent. ticks_of (other.floor agent)) a.statement.agents
        (λ k d within. ap ticks_of (floors_agree (slice_index_or a.statement.agents k d) (a.usable.inside k d within))) in
        let first = ap (sum_by (λ agent. ticks_of (one.floor agent))) a.same_agents in
        let second = ap (sum_by (λ agent. ticks_of (other.floor agent))) (sym agents ∙ a.same_agents) in
        omega (arith, counted, floors, first, second)

    added_agrees : (group : Group) → IsGroup scope constraints leaf list.unit one group → IsGroup scope constraints leaf list.unit other group → added one group ≡ added other group
    added_agrees group a b =
        ap (λ n. divided n group.divisor) (sum_by-agree (λ used. used.weight * excess one used.lemma) (λ used. used.weight * excess other used.lemma) group.uses
        (λ k d within. let used = slice_index_or group.uses k d in ap (λ n. used.weight * n) (excess_agrees used.lemma (a.each k d within) (b.each k d within))))

    bounds_agree : leaf_bound scope leaf list one ≡ leaf_bound scope leaf list other
    bounds_agree =
        let floors = sum_by-agree (λ agent. ticks_of (one.floor agent)) (λ agent. ticks_of (other.floor agent)) scope.agents
        (λ k d within. ap ticks_of (floors_agree (slice_index_or scope.agents k d) (Contains-get_or scope.agents k d within))) in
        let groups = sum_by-agree (added one) (added other) leaf.groups (λ k d within. added_agrees (slice_index_or leaf.groups k d) (p.each_group k d within) (q.each_group k d within)) in
        ap (λ n. divided (n - total_price list.prices) list.unit) (omega (arith, floors, groups))

    pub infinite_agrees : IsInfinite scope leaf one → IsInfinite scope leaf other
    infinite_agrees (inl (agent, held, never)) = inl (agent, held, sym (floors_agree agent held) ∙ never)
    infinite_agrees (inr (group, used, group_held, used_held, never)) =
        let a = All-contains (λ u. IsNamed scope constraints leaf list.unit one u.lemma) group.uses used (All-contains (IsGroup scope constraints leaf list.unit one) leaf.groups group p.each_group group_held).each used_held in
        let b = All-contains (λ u. IsNamed scope constraints leaf list.unit other u.lemma) group.uses used (All-contains (IsGroup scope constraints leaf list.unit other) leaf.groups group q.each_group group_held).each used_held in
        inr (group, used, group_held, used_held, sym (named_counted used.lemma a b) ∙ never)

    pub shows_agree : (target : Label) → IsInfinite scope leaf one ⊎ IsAtMost target (Ticks (leaf_bound scope leaf list one)) → IsInfinite scope leaf other ⊎ IsAtMost target (Ticks (leaf_bound scope leaf list other))
    shows_agree target = ⊎_elim
        (λ (infinite : IsInfinite scope leaf one). inl (infinite_agrees infinite))
        (λ (enough : IsAtMost target (Ticks (leaf_bound scope leaf list one))). inr (subst (λ n. IsAtMost target (Ticks n)) bounds_agree enough))

pub leaf_decides : (scope : Scope) (constraints : ℕ → List PathConstraint) (leaf : LeafUses) (list : PriceList) (labels : LeafLabels) (target : Label) → IsProperLeaf scope constraints leaf list labels →
    LeafShows scope constraints leaf target ↔ (IsInfinite scope leaf labels ⊎ IsAtMost target (Ticks (leaf_bound scope leaf list labels)))
leaf_decides scope constraints leaf list labels target proper = (
  λ (found, others, is_proper, shows).
      let same = same_list_of scope.lists leaf.list_number found list is_proper.is_list proper.is_list in
      shows_agree scope constraints leaf list others labels (subst (λ l. IsProperLeaf scope constraints leaf l others) same is_proper) proper target
      (subst (λ l. IsInfinite scope leaf others ⊎ IsAtMost target (Ticks (leaf_bound scope leaf l others))) same shows),
  λ shows. (list, labels, proper, shows),
)

module _ (problem : Instance) (lists : List PriceList) where
  one_unique : (agent : ℕ) (constraints : List PathConstraint) (number : Option ℕ) (entries : List Entry) (one other : Statement) →
      OneShows problem lists agent constraints number entries one → OneShows problem lists agent constraints number entries other → one ≡ other
  one_unique agent constraints number entries one other p q =
      let lists_same = same_list_of lists number p.list q.list p.is_list q.is_list in
      let agents_same = same_Some p.a q.a (sym p.is_agent ∙ q.is_agent) in
      let task : PriceList → Agent → Task = λ list a. record { grid = problem.grid; list = list; agent = a; constraints = constraints } in
      let first = subst (λ l. IsSingleLabel (task l p.a) (entries_of entries) p.a.start 0 p.label) lists_same p.is_label in
      let second = subst (λ a. IsSingleLabel (task q.list a) (entries_of entries) a.start 0 p.label) agents_same first in
      let labels_same = single_unique (task q.list q.a) (entries_of entries) q.a.start 0 p.label q.label second q.is_label in
      let bound : PriceList → Agent → Label → Label = λ list a label. label_plus (Ticks (cell_price list.prices a.start 0)) label in
      let bounds_same : bound p.list p.a p.label ≡ bound q.list q.a q.label =
      ap (λ l. bound l p.a p.label) lists_same ∙ ap (λ a. bound q.list a p.label) agents_same ∙ ap (bound q.list q.a) labels_same in
      p.is_statement ∙ ap (λ b. record { agents = agent ∷ []; constraints = map (λ one. record { agent = agent; constraint = one }) constraints; list_number = number; bound = b }) bounds_same ∙ sym q.is_statement

  two_unique : (i j : ℕ) (constraints : List AgentConstraint) (number : Option ℕ) (entries : PairEntries) (one other : Statement) →
      TwoShow problem lists i j constraints number entries one → TwoShow problem lists i j constraints number entries other → one ≡ other
  two_unique i j constraints number entries one other p q =
      let lists_same = same_list_of lists number p.list q.list p.is_list q.is_list in
      let first_same = same_Some p.a q.a (sym p.is_first ∙ q.is_first) in
      let second_same = same_Some p.b q.b (sym p.is_second ∙ q.is_second) in
      let pair : PriceList → Agent → Agent → PairTask = λ list a b. pair_of problem list i j a b constraints in
      let first = subst (λ l. IsJointLabel (pair l p.a p.b) entries (Both p.a.start p.b.start) 0 p.label) lists_same p.is_label in
      let second = subst (λ a. IsJointLabel (pair q.list a p.b) entries (Both a.start p.b.start) 0 p.label) first_same first in
      let third = subst (λ b. IsJointLabel (pair q.list q.a b) entries (Both q.a.start b.start) 0 p.label) second_same second in
      let labels_same = joint_unique (pair q.list q.a q.b) entries (Both q.a.start q.b.start) 0 p.label q.label third q.is_label in
      let bound : PriceList → Agent → Agent → Label → Label = λ list a b label. label_plus (Ticks (cell_price list.prices a.start 0 + cell_price list.prices b.start 0)) label in
      let bounds_same : bound p.list p.a p.b p.label ≡ bound q.list q.a q.b q.label =
      ap (λ l. bound l p.a p.b p.label) lists_same ∙ ap (λ a. bound q.list a p.b p.label) first_same ∙ ap (λ b. bound q.list q.a b p.label) second_same ∙ ap (bound q.list q.a q.b) labels_same in
      p.is_statement ∙ ap (λ b. record { agents = i ∷ j ∷ []; constraints = constraints; list_number = number; bound = b }) bounds_same ∙ sym q.is_statement

  pub statement_unique : (known : List Statement) (lemma : Lemma) (one other : Statement) → LemmaShows problem lists known lemma one → LemmaShows problem lists known lemma other → one ≡ other
  statement_unique known (One agent constraints list entries) one other p q = one_unique agent constraints list entries one other p q
  statement_unique known (Two i j constraints list first second joint) one other p q = two_unique i j constraints list _ one other p.1 q.1
  statement_unique known (NeverArrive i j cells) one other p q = p.is_statement ∙ sym q.is_statement
  statement_unique known (ByCases agents constraints target tree) one other p q = p.is_statement ∙ sym q.is_statement
