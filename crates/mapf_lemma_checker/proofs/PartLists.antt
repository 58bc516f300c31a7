-- What the lists of a part say, which are in their ranges and orders.
use Rattle.std.proofs.Common.{◌≡◌, ◌⊎◌, ℕ, ◌*◌, ◌<◌, ◌≤◌, List, [], ◌∷◌, All, AllPairs, Contains, map, slice_index_or, refl, sym, ◌∙◌, subst, inl, inr, ⊎_elim, arith}
use Rattle.std.proofs.lemmas.Bool.{eq-eqb}
use Rattle.std.proofs.lemmas.List.Elements.{All-weaker, All-cons, All-head, All-tail, All-map, All-nil}
use Rattle.mapf_joint_labels.specs.JointOrder.{IsJointBefore, IsStateBefore}
use Rattle.mapf_joint_labels.specs.Runs.{IsCellBefore}
use Rattle.mapf_lemmas.specs.Constraints.{IsConstraintOn}
use Rattle.mapf_lemmas.specs.declared.constraint.AgentConstraint.{AgentConstraint}
use Rattle.mapf_lemmas.specs.declared.constraint.PathConstraint.{PathConstraint}
use Rattle.mapf_lemmas.specs.declared.joint.JointCell.{JointCell}
use Rattle.mapf_lemmas.specs.declared.joint.JointEntry.{JointEntry}
use Rattle.mapf_lemmas.specs.declared.joint.JointState.{JointState}
use Rattle.mapf_lemmas.specs.declared.joint.JointState.TheVariants.{Both, FirstAlone, SecondAlone}
use Rattle.mapf_lemmas.specs.Lemmas.{AreConstraintsOn}
use Rattle.mapf_lemmas.specs.Statements.{constraints_of}
use Rattle.mapf_lemma_checker.specs.LemmaParts.{AreSizesOf}
use Rattle.mapf_lemma_texts.specs.declared.line.LemmaLine.TheVariants as lines
use Rattle.mapf_lemma_texts.specs.declared.sizes.LineSizes.{LineSizes}
use Rattle.mapf_lemma_texts.specs.Lines.{cells_of}
use Rattle.mapf_lemma_texts.specs.Listing.{AreListed, IsListed, FitsAnyhow, IsOfAgents}
use Rattle.mapf_lemma_texts.specs.Parts.{AreConstraints, AreEntries, AreJointEntries}
use Rattle.mapf_lemma_texts.specs.Places.{IsBefore as IsPlaceBefore, cells_place, entry_place, joint_place, state_place}
use Rattle.mapf_lemma_texts.specs.Ranges.{IsAmountTo}
use Rattle.mapf_model.specs.declared.label.Entry.{Entry}
use Rattle.mapf_model.specs.declared.label.Label.{Label}
use Rattle.mapf_model.specs.declared.label.Label.TheVariants.{Ticks, Never}
use Rattle.mapf_model.specs.Grid.{GridMap}
use Rattle.mapf_model.specs.Limits.{greatest_cost}
use Rattle.mapf_model.specs.Plan.{Instance}
use Rattle.mapf_model.specs.Printed.{IsBefore}
use Rattle.mapf_model.proofs.ContainsLemmas.{Contains-cons_cases, Contains-none}
use Rattle.mapf_single_labels.specs.Ranges.{IsLabelUpTo, IsPricedEntryInRange, greatest_entry_label}

-- a certificate's grid has as many cells as the problem's
pub same_cells : (problem : Instance) (sizes : LineSizes) → AreSizesOf problem sizes →
    cells_of sizes ≡ problem.grid.width * problem.grid.height
same_cells problem sizes are = λ n. are.width_is n * are.height_is n

-- a listed label isn't greater than the greatest one
amount_up_to : (most : ℕ) (label : Label) → IsAmountTo most label → IsLabelUpTo most label
amount_up_to most (Ticks n) (some, few) = few
amount_up_to most Never any = tt

-- at one tick and rank, and with nothing after the first cells, these decide
second_decides : (r c d : ℕ) → (r < r) ⊎ ((r ≡ r) × ((c < d) ⊎ ((c ≡ d) × (r < r)))) → c < d
second_decides r c d (inl none) = absurd (omega (arith, none))
second_decides r c d (inr (same, inl less)) = less
second_decides r c d (inr (same, inr (also, none))) = absurd (omega (arith, none))

entry_before : (a b : Entry) → IsPlaceBefore (entry_place a) (entry_place b) → IsBefore a b
entry_before a b (inl early) = inl early
entry_before a b (inr (same, later)) = inr (same, second_decides 0 a.cell b.cell later)

cells_before : (a b : JointCell) → IsPlaceBefore (cells_place a) (cells_place b) → IsCellBefore a b
cells_before a b (inl none) = absurd (omega (arith, none))
cells_before a b (inr (same, inl none)) = absurd (omega (arith, none))
cells_before a b (inr (same, inr (also, later))) = later

-- joint cells
pub joint_cells_rise : (sizes : LineSizes) (cells : List JointCell) →
    AreListed JointCell sizes lines.Cells FitsAnyhow (λ a b. IsPlaceBefore (cells_place a) (cells_place b)) cells →
    AllPairs IsCellBefore cells
joint_cells_rise sizes cells are i j d less within =
    cells_before (slice_index_or cells i d) (slice_index_or cells j d) (are.rising i j d less within)

-- entries of one agent
module _ (sizes : LineSizes) (entries : List Entry) (are : AreEntries sizes entries) where
  pub entries_rise : AllPairs IsBefore entries
  entries_rise i j d less within = entry_before (slice_index_or entries i d) (slice_index_or entries j d) (are.rising i j d less within)

  pub entries_in_range : All IsPricedEntryInRange entries
  entries_in_range = All-weaker (IsListed sizes lines.At FitsAnyhow) IsPricedEntryInRange
      (λ (entry : Entry) (listed : IsListed sizes lines.At FitsAnyhow entry). (listed.0.1, amount_up_to greatest_entry_label entry.label listed.0.2)) entries are.each

  pub entries_on_grid : (count : ℕ) → cells_of sizes ≤ count → All (λ entry. entry.cell < count) entries
  entries_on_grid count enough = All-weaker (IsListed sizes lines.At FitsAnyhow) (λ (entry : Entry). entry.cell < count)
      (λ (entry : Entry) (listed : IsListed sizes lines.At FitsAnyhow entry). let inside = listed.0.0 in omega arith) entries are.each

-- entries of two agents
tick_of : (state : JointState) (tick : ℕ) → (state_place state tick).tick ≡ tick
tick_of (Both u v) tick = refl
tick_of (SecondAlone v) tick = refl
tick_of (FirstAlone u) tick = refl

-- at one tick: by rank, and then by the cells
abbrev IsBeforeAtTick : JointState → ℕ → JointState → ℕ → Type 0
IsBeforeAtTick one now other at =
    ((state_place one now).rank < (state_place other at).rank)
    ⊎ (((state_place one now).rank ≡ (state_place other at).rank)
    × (((state_place one now).first < (state_place other at).first)
    ⊎ (((state_place one now).first ≡ (state_place other at).first)
    × ((state_place one now).second < (state_place other at).second))))

state_before : (one other : JointState) (now at : ℕ) → IsBeforeAtTick one now other at → IsStateBefore one other
state_before (Both u v) (Both w x) now at (inl none) = absurd (omega (arith, none))
state_before (Both u v) (Both w x) now at (inr (same, later)) = later
state_before (Both u v) (SecondAlone x) now at before = tt
state_before (Both u v) (FirstAlone w) now at before = tt
state_before (SecondAlone v) (Both w x) now at (inl none) = absurd (omega (arith, none))
state_before (SecondAlone v) (Both w x) now at (inr (none, later)) = absurd (omega (arith, none))
state_before (SecondAlone v) (SecondAlone x) now at (inl none) = absurd (omega (arith, none))
state_before (SecondAlone v) (SecondAlone x) now at (inr (same, inl less)) = less
state_before (SecondAlone v) (SecondAlone x) now at (inr (same, inr (also, none))) = absurd (omega (arith, none))
state_before (SecondAlone v) (FirstAlone w) now at before = tt
state_before (FirstAlone u) (Both w x) now at (inl none) = absurd (omega (arith, none))
state_before (FirstAlone u) (Both w x) now at (inr (none, later)) = absurd (omega (arith, none))
state_before (FirstAlone u) (SecondAlone x) now at (inl none) = absurd (omega (arith, none))
state_before (FirstAlone u) (SecondAlone x) now at (inr (none, later)) = absurd (omega (arith, none))
state_before (FirstAlone u) (FirstAlone w) now at (inl none) = absurd (omega (arith, none))
state_before (FirstAlone u) (FirstAlone w) now at (inr (same, inl less)) = less
state_before (FirstAlone u) (FirstAlone w) now at (inr (same, inr (also, none))) = absurd (omega (arith, none))

joint_before : (a b : JointEntry) → IsPlaceBefore (joint_place a) (joint_place b) → IsJointBefore a b
joint_before a b (inl early) = inl (omega (arith, early, tick_of a.state a.tick, tick_of b.state b.tick))
joint_before a b (inr (same, later)) =
    inr (sym (tick_of a.state a.tick) ∙ same ∙ tick_of b.state b.tick, state_before a.state b.state a.tick b.tick later)

module _ (sizes : LineSizes) (entries : List JointEntry) (are : AreJointEntries sizes entries) where
  pub joint_rise : AllPairs IsJointBefore entries
  joint_rise i j d less within = joint_before (slice_index_or entries i d) (slice_index_or entries j d) (are.rising i j d less within)

  pub joint_ticks : All (λ entry. entry.tick ≤ greatest_cost) entries
  joint_ticks = All-weaker (IsListed sizes lines.JointAt FitsAnyhow) (λ (entry : JointEntry). entry.tick ≤ greatest_cost)
      (λ (entry : JointEntry) (listed : IsListed sizes lines.JointAt FitsAnyhow entry). listed.0.1) entries are.each

  pub joint_labels : All (λ entry. IsLabelUpTo greatest_entry_label entry.label) entries
  joint_labels = All-weaker (IsListed sizes lines.JointAt FitsAnyhow) (λ (entry : JointEntry). IsLabelUpTo greatest_entry_label entry.label)
      (λ (entry : JointEntry) (listed : IsListed sizes lines.JointAt FitsAnyhow entry). amount_up_to greatest_entry_label entry.label listed.0.2) entries are.each

-- constraints of one agent
module _ (agent : ℕ) where
  abbrev IsOwn : AgentConstraint → Type 0
  IsOwn own = own.agent ≡ agent

  abbrev of_agent : PathConstraint → AgentConstraint
  of_agent constraint = record { agent = agent; constraint = constraint }

  same_constraints : (constraints : List AgentConstraint) → All IsOwn constraints →
      map of_agent (constraints_of constraints agent) ≡ constraints
  same_constraints [] own = refl
  same_constraints (one ∷ constraints) own =
      let is : one.agent ≡ agent = All-head IsOwn one constraints own in
      let rest = same_constraints constraints (All-tail IsOwn one constraints own) in
      rw (eq-eqb one.agent agent is) (λ n. record { agent = sym is n; constraint = one.constraint } ∷ rest n)

  module _ (sizes : LineSizes) (constraints : List AgentConstraint)
      (are : AreConstraints sizes (agent ∷ []) constraints) where
    all_own : All IsOwn constraints
    all_own = All-weaker (IsListed sizes lines.Constraint (IsOfAgents (agent ∷ []))) IsOwn
        (λ (one : AgentConstraint) (listed : IsListed sizes lines.Constraint (IsOfAgents (agent ∷ [])) one).
        ⊎_elim (λ (is : agent ≡ one.agent). sym is) (λ (none : Contains [] one.agent). absurd (Contains-none one.agent none))
        (Contains-cons_cases agent one.agent [] listed.1)) constraints are.each

    -- those of the agent are all
    pub own_constraints : map of_agent (constraints_of constraints agent) ≡ constraints
    own_constraints = same_constraints constraints all_own

    pub all_on_grid : (grid : GridMap) → All (IsConstraintOn grid) (constraints_of constraints agent) → AreConstraintsOn grid constraints
    all_on_grid grid on_grid =
        subst (AreConstraintsOn grid) own_constraints
        (All-map (λ (one : AgentConstraint). IsConstraintOn grid one.constraint) of_agent (constraints_of constraints agent) on_grid)

    pub own_on_grid : (grid : GridMap) → AreConstraintsOn grid constraints → All (IsConstraintOn grid) (constraints_of constraints agent)
    own_on_grid grid on_grid = on grid constraints all_own on_grid
      where
        on : (grid : GridMap) (constraints : List AgentConstraint) → All IsOwn constraints → AreConstraintsOn grid constraints → All (IsConstraintOn grid) (constraints_of constraints agent)
        on grid [] own on_grid = All-nil (IsConstraintOn grid)
        on grid (one ∷ constraints) own on_grid =
            rw (eq-eqb one.agent agent (All-head IsOwn one constraints own)) (All-cons (IsConstraintOn grid) one.constraint (constraints_of constraints agent)
            (All-head (λ (listed : AgentConstraint). IsConstraintOn grid listed.constraint) one constraints on_grid)
            (on grid constraints (All-tail IsOwn one constraints own) (All-tail (λ (listed : AgentConstraint). IsConstraintOn grid listed.constraint) one constraints on_grid)))
