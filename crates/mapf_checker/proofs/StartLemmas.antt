-- The labels of the starts, added up.
use Rattle.std.proofs.Common.{◌≡◌, ◌⊎◌, ℕ, zero, suc, ◌+◌, ◌<◌, ◌≤◌, ◌↔◌, ◌&&◌, Bool, true, false, List, [], ◌∷◌, ◌++◌, Option, None, Some, Contains, AllPairs, slice_get, slice_index_or, length, refl, sym, ◌∙◌, ap, subst, inl, inr, ⊎_elim, eq-eqb, arith}
use Rattle.std.proofs.lemmas.Bool.{cases_eq, cases_lt, ne_eqb}
use Rattle.std.proofs.lemmas.Option.{same_Some}
use Rattle.std.proofs.lemmas.List.{length_push}
use Rattle.mapf_model.proofs.ClaimLemmas.{slice_get_inside}
use Rattle.mapf_model.specs.declared.problem.Agent.{Agent}
use Rattle.mapf_model.specs.declared.label.Label.{Label}
use Rattle.mapf_model.specs.declared.label.Label.TheVariants.{Ticks, Never}
use Rattle.mapf_model.specs.Blocks.{LabelBlock}
use Rattle.mapf_model.specs.Grid.{GridMap}
use Rattle.mapf_model.specs.Labels.{Entries, IsLabel, IsEntryOrDistance, label_plus, label_sum}
use Rattle.mapf_model.specs.Plan.{Instance}
use Rattle.mapf_model.specs.declared.item.Claim.{Claim}
use Rattle.mapf_model.specs.declared.item.Claim.TheVariants.{Cost, Bound, Impossible}
use Rattle.mapf_model.specs.Laws.{StartLabelsDecide, StartLabelsDecideImpossible}
use Rattle.mapf_model.specs.Tree.{StartsReach, StartsShow, block_of, with_blocks}
use Rattle.mapf_distance.specs.Distances.{IsDistanceOrNone}
use Rattle.mapf_distance.specs.Tables.{AreStartDistances}
use Rattle.mapf_checker.specs.Starts.{IsKept}
use Rattle.mapf_checker.specs.Leaf.{IsPlaceOfAgent, IsStartLabel, IsStartOf, IsStartTotal, IsEnough, is_finite, label_of_total, ticks_in, TakesBlock, LeavesBlock}

-- labels of the first starts
abbrev pub AreLabelsBelow : Instance → List LabelBlock → (ℕ → Entries) → List Label → Type 0
AreLabelsBelow problem blocks before labels = (i : ℕ) (agent : Agent) (label : Label) → slice_get problem.agents i ≡ Some agent → slice_get labels i ≡ Some label → IsLabel problem.grid agent.goal (with_blocks blocks before i) agent.start 0 label

label_plus-assoc : (a b c : Label) → label_plus a (label_plus b c) ≡ label_plus (label_plus a b) c
label_plus-assoc (Ticks a) (Ticks b) (Ticks c) = ap Ticks (omega arith)
label_plus-assoc (Ticks a) (Ticks b) Never = refl
label_plus-assoc (Ticks a) Never c = refl
label_plus-assoc Never b c = refl

label_plus-zero : (a : Label) → label_plus a (Ticks 0) ≡ label_plus (Ticks 0) a
label_plus-zero (Ticks a) = ap Ticks (omega arith)
label_plus-zero Never = refl

pub label_sum-push : (labels : List Label) (label : Label) → label_sum (labels ++ label ∷ []) ≡ label_plus (label_sum labels) label
label_sum-push [] label = label_plus-zero label
label_sum-push (x ∷ labels) label = ap (λ s. label_plus x s) (label_sum-push labels label) ∙ label_plus-assoc x (label_sum labels) label

-- an element of a list with one more
slice_get-push : {X : Type 0} (xs : List X) (x y : X) (i : ℕ) → slice_get (xs ++ x ∷ []) i ≡ Some y → (slice_get xs i ≡ Some y) ⊎ ((i ≡ length xs) × (x ≡ y))
slice_get-push [] x y zero e = inr (refl, same_Some x y e)
slice_get-push [] x y (suc i) e = absurd cc
slice_get-push (z ∷ xs) x y zero e = inl e
slice_get-push (z ∷ xs) x y (suc i) e = ⊎_elim (λ (p : slice_get xs i ≡ Some y). inl p) (λ (q : (i ≡ length xs) × (x ≡ y)). inr (ap suc q.0, q.1)) (slice_get-push xs x y i e)

pub AreLabelsBelow-push : (problem : Instance) (blocks : List LabelBlock) (before : ℕ → Entries) (labels : List Label) (agent : Agent) (label : Label) → AreLabelsBelow problem blocks before labels →
    slice_get problem.agents (length labels) ≡ Some agent → IsLabel problem.grid agent.goal (with_blocks blocks before (length labels)) agent.start 0 label → AreLabelsBelow problem blocks before (labels ++ label ∷ [])
AreLabelsBelow-push problem blocks before labels agent label below is_agent is_label i agent' label' is_agent' is_label' = ⊎_elim
    (λ (old : slice_get labels i ≡ Some label'). below i agent' label' is_agent' old)
    (λ (new : (i ≡ length labels) × (label ≡ label')).
    let same : agent ≡ agent' = same_Some agent agent' (sym is_agent ∙ subst (λ k. slice_get problem.agents k ≡ Some agent') new.0 is_agent') in
    subst (λ k. IsLabel problem.grid agent'.goal (with_blocks blocks before k) agent'.start 0 label') (sym new.0)
    (subst (λ l. IsLabel problem.grid agent'.goal (with_blocks blocks before (length labels)) agent'.start 0 l) new.1
    (subst (λ (a : Agent). IsLabel problem.grid a.goal (with_blocks blocks before (length labels)) a.start 0 label) same is_label)))
    (slice_get-push labels label label' i is_label')

-- the block of an agent, by its index
pub block_of-at : (blocks : List LabelBlock) (agent k : ℕ) (block : LabelBlock) → AllPairs (λ a b. a.agent < b.agent) blocks → k < length blocks → ((d : LabelBlock) → slice_index_or blocks k d ≡ block) → block.agent ≡ agent → block_of blocks agent ≡ Some block
block_of-at [] agent k block rising within at is = absurd (omega arith)
block_of-at (b ∷ blocks) agent zero block rising within at is = let same : b ≡ block = at b in rw (eq-eqb b.agent agent (ap (λ (x : LabelBlock). x.agent) same ∙ is)) (ap Some same)
block_of-at (b ∷ blocks) agent (suc k) block rising within at is =
    let less : b.agent < block.agent = subst (λ (x : LabelBlock). b.agent < x.agent) (at b) (rising 0 (suc k) b (omega arith) within) in
    let differ : b.agent ≡ agent → ⊥ = λ e. omega (arith, e, is) in
    rw (ne_eqb b.agent agent differ) (block_of-at blocks agent k block (λ i j d order inside. rising (suc i) (suc j) d (omega arith) (omega arith)) (omega arith) at is)

pub block_of-none : (blocks : List LabelBlock) (agent : ℕ) → ((k : ℕ) (d : LabelBlock) → k < length blocks → (slice_index_or blocks k d).agent ≡ agent → ⊥) → block_of blocks agent ≡ None
block_of-none [] agent none = refl
block_of-none (b ∷ blocks) agent none = rw (ne_eqb b.agent agent (none 0 b (omega arith))) (block_of-none blocks agent (λ k d within. none (suc k) d (omega arith)))

-- the index of an agent's block
pub block_of-found : (blocks : List LabelBlock) (agent : ℕ) (block : LabelBlock) → block_of blocks agent ≡ Some block → (k : ℕ) × (k < length blocks) × ((d : LabelBlock) → slice_index_or blocks k d ≡ block) × (block.agent ≡ agent)
block_of-found [] agent block e = absurd cc
block_of-found (b ∷ blocks) agent block e = elim (cases_eq b.agent agent) [
  | inl same ↦ let is : b ≡ block = same_Some b block (rw (eq-eqb b.agent agent same) at e) in (0, omega arith, λ d. is, ap (λ (x : LabelBlock). x.agent) (sym is) ∙ same)
  | inr other ↦
      let (k, within, at, is) = block_of-found blocks agent block (rw (ne_eqb b.agent agent other) at e) in
      (suc k, omega arith, at, is)
]

pub label_sum-never : (labels : List Label) → Contains labels Never → label_sum labels ≡ Never
label_sum-never [] (k, within, is) = absurd (omega arith)
label_sum-never (Never ∷ labels) there = refl
label_sum-never (Ticks n ∷ labels) (zero, within, is) = absurd cc
label_sum-never (Ticks n ∷ labels) (suc k, within, is) = ap (λ s. label_plus (Ticks n) s) (label_sum-never labels (k, omega arith, is))

pub Contains-never : (labels : List Label) → label_sum labels ≡ Never → Contains labels Never
Contains-never [] e = absurd cc
Contains-never (Never ∷ labels) e = (0, omega arith, refl)
Contains-never (Ticks n ∷ labels) e = let (k, within, is) = Contains-never labels (rest (label_sum labels) e) in (suc k, omega arith, is) where
  rest : (s : Label) → label_plus (Ticks n) s ≡ Never → s ≡ Never
  rest (Ticks m) e = absurd cc
  rest Never e = refl

module _ (blocks : List LabelBlock) (place agent : ℕ) (rising : AllPairs (λ a b. a.agent < b.agent) blocks) (cut : IsPlaceOfAgent blocks place agent) where
  pub takes_block : (block : LabelBlock) → place < length blocks → ((d : LabelBlock) → slice_index_or blocks place d ≡ block) → block.agent ≡ agent → TakesBlock blocks place agent
  takes_block block inside at is = record {
    inside = inside;
    is = λ d. block_of-at blocks agent place block rising inside at is ∙ ap Some (sym (at d));
    cut = record {
      before = λ k d less. ⊎_elim
          (λ (early : k < place). let h = cut.before k d early in omega (arith, h))
          (λ (past : place ≤ k). let same : k ≡ place = omega arith in subst (λ (x : LabelBlock). x.agent < agent + 1) (sym (ap (λ j. slice_index_or blocks j d) same ∙ at d)) (omega (arith, is)))
          (cases_lt k place);
      from = λ k d after within. let h : block.agent < (slice_index_or blocks k d).agent = subst (λ (x : LabelBlock). x.agent < (slice_index_or blocks k d).agent) (at d) (rising place k d (omega arith) within) in omega (arith, h, is);
    };
  }

  none_here : ((k : ℕ) (d : LabelBlock) → place ≤ k → k < length blocks → agent < (slice_index_or blocks k d).agent) → LeavesBlock blocks place agent
  none_here later = record {
    none = block_of-none blocks agent (λ k d within same. ⊎_elim
        (λ (early : k < place). let h = cut.before k d early in omega (arith, h, same))
        (λ past. let h = later k d past within in omega (arith, h, same))
        (cases_lt k place));
    cut = record {
      before = λ k d less. let h = cut.before k d less in omega (arith, h);
      from = λ k d past within. let h = later k d past within in omega (arith, h);
    };
  }

  pub leaves_end : length blocks ≤ place → LeavesBlock blocks place agent
  leaves_end past = none_here (λ k d from within. absurd (omega arith))

  pub leaves_block : (block : LabelBlock) → place < length blocks → ((d : LabelBlock) → slice_index_or blocks place d ≡ block) → (block.agent ≡ agent → ⊥) → LeavesBlock blocks place agent
  leaves_block block inside at differ =
      let above : agent < block.agent = let h : agent ≤ block.agent = subst (λ (x : LabelBlock). agent ≤ x.agent) (at block) (cut.from place block (omega arith) inside) in omega (arith, h, differ) in
      none_here (λ k d from within. ⊎_elim
      (λ (later : place < k). let h : block.agent < (slice_index_or blocks k d).agent = subst (λ (x : LabelBlock). x.agent < (slice_index_or blocks k d).agent) (at d) (rising place k d later within) in omega (arith, h, above))
      (λ now. let same : k ≡ place = omega arith in rw (ap (λ j. slice_index_or blocks j d) same ∙ at d) above)
      (cases_lt place k))

-- the label of an agent's start, by its entry
module _ (problem : Instance) (blocks : List LabelBlock) (before : ℕ → Entries) (agent start : ℕ) (is_start : IsStartOf problem agent start) (distances : List (Option ℕ)) (are : AreStartDistances problem distances) (distance : Option ℕ) (is_distance : slice_get distances agent ≡ Some distance) (entry : Option Label) (label : Label) (is_label : (grid : GridMap) (goal cell : ℕ) → IsDistanceOrNone grid goal cell distance → IsEntryOrDistance grid goal cell entry label) where
  start_by_entry : with_blocks blocks before agent start 0 ≡ entry → IsStartLabel problem blocks before agent label
  start_by_entry same b is_b =
      let (a, is_a, at) = is_start in
      let this : IsEntryOrDistance problem.grid a.goal a.start entry label = is_label problem.grid a.goal a.start (are.each agent a distance is_a is_distance) in
      subst (λ (x : Agent). IsLabel problem.grid x.goal (with_blocks blocks before agent) x.start 0 label) (same_Some a b (sym is_a ∙ is_b))
      (subst (λ (e : Option Label). IsEntryOrDistance problem.grid a.goal a.start e label) (sym (ap (λ s. with_blocks blocks before agent s 0) at ∙ same)) this)

  pub start_from_above : block_of blocks agent ≡ None → IsKept before agent entry → IsStartLabel problem blocks before agent label
  start_from_above none kept = start_by_entry (rw none (kept start 0))

-- the sum of labels of which all are finite or not
abbrev pub sum_of : Bool → ℕ → Option ℕ
sum_of true sum = Some sum
sum_of false sum = None

sum_more : (finite : Bool) (sum : ℕ) (label : Label) → label_of_total (sum_of (finite && is_finite label) (sum + ticks_in label)) ≡ label_plus (label_of_total (sum_of finite sum)) label
sum_more true sum (Ticks n) = refl
sum_more true sum Never = refl
sum_more false sum (Ticks n) = refl
sum_more false sum Never = refl

-- one label more
pub start_more : (problem : Instance) (blocks : List LabelBlock) (before : ℕ → Entries) (i : ℕ) (finite : Bool) (sum : ℕ) (label : Label) → i < length problem.agents →
    (labels : List Label) × (length labels ≡ i) × AreLabelsBelow problem blocks before labels × (label_sum labels ≡ label_of_total (sum_of finite sum)) →
    IsStartLabel problem blocks before i label →
    (labels : List Label) × (length labels ≡ i + 1) × AreLabelsBelow problem blocks before labels × (label_sum labels ≡ label_of_total (sum_of (finite && is_finite label) (sum + ticks_in label)))
start_more problem blocks before i finite sum label inside (labels, count, below, adds) is_label =
    let (agent, is_agent) = slice_get_inside problem.agents i inside in (
      labels ++ label ∷ [],
      omega (arith, length_push labels label, count),
      AreLabelsBelow-push problem blocks before labels agent label below (subst (λ k. slice_get problem.agents k ≡ Some agent) (sym count) is_agent) (subst (λ k. IsLabel problem.grid agent.goal (with_blocks blocks before k) agent.start 0 label) (sym count) (is_label agent is_agent)),
      label_sum-push labels label ∙ ap (λ s. label_plus s label) adds ∙ sym (sum_more finite sum label),
    )

-- a sum, None where it is infinite, is at least this
abbrev pub IsAtLeast : ℕ → Option ℕ → Type 0
IsAtLeast least None = Unit {0}
IsAtLeast least (Some total) = least ≤ total

-- the labels of the starts add up to at least this if and only if their sum is at least this
reach_decide : StartLabelsDecide → (problem : Instance) (least : ℕ) (blocks : List LabelBlock) (before : ℕ → Entries) (total : Option ℕ) → IsStartTotal problem blocks before total →
    StartsReach problem least (with_blocks blocks before) ↔ IsAtLeast least total
reach_decide law problem least blocks before None (labels, are, adds) = (λ _. tt, λ _. (law problem (with_blocks blocks before) labels least are).1 (rw adds tt))
reach_decide law problem least blocks before (Some total) (labels, are, adds) =
    let both = law problem (with_blocks blocks before) labels least are in
    (λ shows. rw adds at (both.0 shows), λ enough. both.1 (rw adds enough))

-- the labels of the starts show a claim if and only if their sum does
pub starts_decide : StartLabelsDecide → StartLabelsDecideImpossible → (problem : Instance) (claim : Claim) (blocks : List LabelBlock) (before : ℕ → Entries) (total : Option ℕ) → IsStartTotal problem blocks before total →
    StartsShow problem claim (with_blocks blocks before) ↔ IsEnough claim total
starts_decide law never problem (Cost cost) blocks before None total = reach_decide law problem cost blocks before None total
starts_decide law never problem (Cost cost) blocks before (Some sum) total = reach_decide law problem cost blocks before (Some sum) total
starts_decide law never problem (Bound bound) blocks before None total = reach_decide law problem bound blocks before None total
starts_decide law never problem (Bound bound) blocks before (Some sum) total = reach_decide law problem bound blocks before (Some sum) total
starts_decide law never problem Impossible blocks before None (labels, are, adds) = (λ _. tt, λ _. (never problem (with_blocks blocks before) labels are).1 (Contains-never labels adds))
starts_decide law never problem Impossible blocks before (Some total) (labels, are, adds) = (
  λ shows. let e = label_sum-never labels ((never problem (with_blocks blocks before) labels are).0 shows) in absurd (finite labels total adds e),
  λ none. absurd none,
) where
  finite : (labels : List Label) (total : ℕ) → label_sum labels ≡ Ticks total → label_sum labels ≡ Never → ⊥
  finite labels total a b = cc
