-- Which lemmas are in force at a node.
use Rattle.std.proofs.Common.{◌≡◌, ◌≢◌, ◌⊎◌, ℕ, zero, suc, ◌+◌, Bool, true, false, List, [], ◌∷◌, Option, Some, None, All, AllPairs, Contains, filter, map, is_none, slice_get, slice_index_or, add-zero, refl, sym, ◌∙◌, ap, subst, inl, inr, ⊎_elim, arith}
use Rattle.std.specs.Prelude.{◌==◌}
use Rattle.std.proofs.lemmas.Bool.{cases_eq, eq-eqb, eqb-true, ne_eqb, cond_both}
use Rattle.std.proofs.lemmas.List.Elements.{All-append, All-contains, Contains-append_left, Contains-append_right}
use Rattle.std.proofs.lemmas.List.Kept.{AllPairs-cons, AllPairs-filter}
use Rattle.std.proofs.lemmas.Option.{same_Some, slice_get-map, slice_get_within, get_or_from_slice_get}
use Rattle.mapf_model.specs.declared.bar.Bar.{Bar}
use Rattle.mapf_model.specs.declared.label.Entry.{Entry}
use Rattle.mapf_model.specs.Blocks.{LabelBlock}
use Rattle.mapf_model.specs.Labels.{Entries, entries_of}
use Rattle.mapf_model.specs.Tree.{AreOfDifferentAgents, block_of, entries_or, with_blocks}
use Rattle.mapf_model.proofs.ContainsLemmas.{Contains-none, Contains-cons_new, Contains-cons_old, Contains-cons_cases}
use Rattle.mapf_lemmas.specs.Lemmas.{Lemma, One}
use Rattle.mapf_lemma_convert.specs.declared.node_walk.NumberedLemma.{NumberedLemma}
use Rattle.mapf_lemma_convert.specs.Conversion.{path_constraints, lemma_of, numbered, in_force}
use Rattle.mapf_lemma_convert.proofs.ListLemmas.{all_of_contained, contains_filter, contained_of_filter, pairs_append}

-- the numbered lemma has these constraints, which stand here, and these entries of its agent
pub record IsInForce (lemmas : List Lemma) (bars : ℕ → List Bar) (entries : ℕ → Entries) (lemma : NumberedLemma) : Type 0 where
  pub held : List Bar
  pub listed : List Entry
  pub is_lemma : slice_get lemmas lemma.number ≡ Some (One lemma.agent (path_constraints held) None listed)
  pub stand : (bar : Bar) → Contains held bar → Contains (bars lemma.agent) bar
  pub same : (cell tick : ℕ) → entries lemma.agent cell tick ≡ entries_of listed cell tick

abbrev pub AreApart : NumberedLemma → NumberedLemma → Type 0
AreApart one other = one.agent ≢ other.agent

abbrev pub IsNotOf : ℕ → List NumberedLemma → Type 0
IsNotOf agent above = (lemma : NumberedLemma) → Contains above lemma → lemma.agent ≢ agent

-- these lemmas are in force: one at most of each agent, and the other agents have no entries
pub record AreInForce (lemmas : List Lemma) (bars : ℕ → List Bar) (entries : ℕ → Entries) (above : List NumberedLemma) : Type 0 where
  pub each : All (IsInForce lemmas bars entries) above
  pub apart : AllPairs AreApart above
  pub others : (agent : ℕ) → IsNotOf agent above → (cell tick : ℕ) → entries agent cell tick ≡ None

-- an agent has a lemma in force, or none
pub of_agent : (agent : ℕ) (above : List NumberedLemma) → ((lemma : NumberedLemma) × Contains above lemma × (lemma.agent ≡ agent)) ⊎ IsNotOf agent above
of_agent agent [] = inr (λ lemma held same. Contains-none lemma held)
of_agent agent (first ∷ above) = ⊎_elim
    (λ (here : first.agent ≡ agent). inl (first, Contains-cons_new first above, here))
    (λ (away : first.agent ≡ agent → ⊥). ⊎_elim
    (λ (found : (lemma : NumberedLemma) × Contains above lemma × (lemma.agent ≡ agent)). inl (found.0, Contains-cons_old first found.0 above found.1, found.2))
    (λ (none : IsNotOf agent above). inr (λ lemma held same. ⊎_elim
    (λ (is : first ≡ lemma). away (ap (λ l. l.agent) is ∙ same))
    (λ (later : Contains above lemma). none lemma later same)
    (Contains-cons_cases first lemma above held)))
    (of_agent agent above))
    (cases_eq first.agent agent)

-- the block that is found is one of the blocks, and of the agent
block_found : (blocks : List LabelBlock) (agent : ℕ) (block : LabelBlock) → block_of blocks agent ≡ Some block → Contains blocks block × (block.agent ≡ agent)
block_found [] agent block = λ found. absurd cc
block_found (first ∷ blocks) agent block = cond_both (first.agent == agent) (Some first) (block_of blocks agent) (λ found. found ≡ Some block → Contains (first ∷ blocks) block × (block.agent ≡ agent))
    (λ is same.
    let equal = same_Some first block same in
    (subst (Contains (first ∷ blocks)) equal (Contains-cons_new first blocks), subst (λ b. b.agent ≡ agent) equal (eqb-true first.agent agent is)))
    (λ is later. let (held, of) = block_found blocks agent block later in (Contains-cons_old first block blocks held, of))

-- of blocks of different agents each is found
pub block_is_found : (blocks : List LabelBlock) → AreOfDifferentAgents blocks → (k : ℕ) (block : LabelBlock) → slice_get blocks k ≡ Some block → block_of blocks block.agent ≡ Some block
block_is_found [] apart k block found = absurd cc
block_is_found (first ∷ blocks) apart zero block found =
    let same = same_Some first block found in
    let is : (first.agent == block.agent) ≡ true = eq-eqb first.agent block.agent (ap (λ b. b.agent) same) in
    rw is found
block_is_found (first ∷ blocks) apart (suc k) block found =
    let away : first.agent ≢ block.agent = later_apart k found in
    let is : (first.agent == block.agent) ≡ false = ne_eqb first.agent block.agent away in
    rw is (block_is_found blocks (λ i j d before within. apart (suc i) (suc j) d (omega arith) (omega arith)) k block found)
  where
    later_apart : (k : ℕ) → slice_get blocks k ≡ Some block → first.agent ≢ block.agent
    later_apart k found =
        let inside = slice_get_within blocks k block found in
        subst (λ b. first.agent ≢ b.agent) (get_or_from_slice_get blocks k block block found) (apart 0 (suc k) block (omega arith) (omega arith))

-- a numbered lemma is that of a block
pub numbered_is : (first : ℕ) (blocks : List LabelBlock) (lemma : NumberedLemma) → Contains (numbered first blocks) lemma →
    (k : ℕ) × (block : LabelBlock) × (slice_get blocks k ≡ Some block) × (record { agent = block.agent; number = first + k } ≡ lemma)
numbered_is first [] lemma held = absurd (Contains-none lemma held)
numbered_is first (block ∷ blocks) lemma held = ⊎_elim
    (λ (here : record { agent = block.agent; number = first } ≡ lemma). (0, block, refl, rw (add-zero first) here))
    (λ (later : Contains (numbered (first + 1) blocks) lemma).
    let (k, one, found, is) = numbered_is (first + 1) blocks lemma later in
    let same : first + 1 + k ≡ first + suc k = omega arith in
    (suc k, one, found, rw (← same) is))
    (Contains-cons_cases (record { agent = block.agent; number = first }) lemma (numbered (first + 1) blocks) held)

-- the lemma of a block is numbered
block_numbered : (first : ℕ) (blocks : List LabelBlock) (block : LabelBlock) → Contains blocks block → (lemma : NumberedLemma) × Contains (numbered first blocks) lemma × (lemma.agent ≡ block.agent)
block_numbered first [] block held = absurd (Contains-none block held)
block_numbered first (other ∷ blocks) block held = ⊎_elim
    (λ (here : other ≡ block). (record { agent = other.agent; number = first }, Contains-cons_new (record { agent = other.agent; number = first }) (numbered (first + 1) blocks), ap (λ b. b.agent) here))
    (λ (later : Contains blocks block).
    let (lemma, inside, of) = block_numbered (first + 1) blocks block later in
    (lemma, Contains-cons_old (record { agent = other.agent; number = first }) lemma (numbered (first + 1) blocks) inside, of))
    (Contains-cons_cases other block blocks held)

numbered_apart : (first : ℕ) (blocks : List LabelBlock) → AreOfDifferentAgents blocks → AllPairs AreApart (numbered first blocks)
numbered_apart first [] apart = λ i j d before within. absurd (omega arith)
numbered_apart first (block ∷ blocks) apart =
    AllPairs-cons AreApart (record { agent = block.agent; number = first }) (numbered (first + 1) blocks)
    (all_of_contained (λ lemma. block.agent ≢ lemma.agent) (numbered (first + 1) blocks) (λ lemma held.
    let (k, other, found, is) = numbered_is (first + 1) blocks lemma held in
    let inside = slice_get_within blocks k other found in
    let away : block.agent ≢ other.agent = subst (λ b. block.agent ≢ b.agent) (get_or_from_slice_get blocks k other other found) (apart 0 (suc k) other (omega arith) (omega arith)) in
    subst (λ l. block.agent ≢ l.agent) is away))
    (numbered_apart (first + 1) blocks (λ i j d before within. apart (suc i) (suc j) d (omega arith) (omega arith)))

-- the agent of the lemma has no block here
abbrev pub has_no_block : List LabelBlock → NumberedLemma → Bool
has_no_block blocks lemma = is_none (block_of blocks lemma.agent)

no_block : (blocks : List LabelBlock) (agent : ℕ) → is_none (block_of blocks agent) ≡ true → block_of blocks agent ≡ None
no_block blocks agent none = by (block_of blocks agent) none
  where
    by : (found : Option LabelBlock) → is_none found ≡ true → found ≡ None
    by None is = refl
    by (Some block) is = absurd cc

-- the lemmas in force stay of different agents
pub in_force_apart : (first : ℕ) (blocks : List LabelBlock) (above : List NumberedLemma) → AreOfDifferentAgents blocks → AllPairs AreApart above → AllPairs AreApart (in_force first blocks above)
in_force_apart first blocks above apart pairs =
    pairs_append AreApart (filter (has_no_block blocks) above) (numbered first blocks) (AllPairs-filter AreApart (has_no_block blocks) above pairs) (numbered_apart first blocks apart) across
  where
    across : (one other : NumberedLemma) → Contains (filter (has_no_block blocks) above) one → Contains (numbered first blocks) other → one.agent ≢ other.agent
    across one other held new same =
        let (inside, passes) = contained_of_filter (has_no_block blocks) above one held in
        let none = no_block blocks one.agent passes in
        let (k, block, found, is) = numbered_is first blocks other new in
        let there = block_is_found blocks apart k block found in
        let agents : block.agent ≡ one.agent = ap (λ l. l.agent) is ∙ sym same in
        let some : block_of blocks one.agent ≡ Some block = subst (λ a. block_of blocks a ≡ Some block) agents there in
        absurd cc

module _ (lemmas : List Lemma) (bars : ℕ → List Bar) where
  -- one more constraint
  pub in_force_under : (more : ℕ → List Bar) (entries : ℕ → Entries) (above : List NumberedLemma) → ((agent : ℕ) (bar : Bar) → Contains (bars agent) bar → Contains (more agent) bar) →
      AreInForce lemmas bars entries above → AreInForce lemmas more entries above
  in_force_under more entries above kept are = record {
    each = λ k d within.
        let one = are.each k d within in
        record { held = one.held; listed = one.listed; is_lemma = one.is_lemma; stand = λ bar inside. kept (slice_index_or above k d).agent bar (one.stand bar inside); same = one.same };
    apart = are.apart;
    others = are.others;
  }

  -- the blocks of a node
  module _ (entries : ℕ → Entries) (above : List NumberedLemma) (blocks : List LabelBlock) (first : ℕ)
      (are : AreInForce lemmas bars entries above) (apart : AreOfDifferentAgents blocks)
      (places : (k : ℕ) (lemma : Lemma) → slice_get (map (lemma_of bars) blocks) k ≡ Some lemma → slice_get lemmas (first + k) ≡ Some lemma)
    where
      kept_in_force : (lemma : NumberedLemma) → Contains (filter (has_no_block blocks) above) lemma → IsInForce lemmas bars (with_blocks blocks entries) lemma
      kept_in_force lemma held =
          let (inside, passes) = contained_of_filter (has_no_block blocks) above lemma held in
          let none = no_block blocks lemma.agent passes in
          let one = All-contains (IsInForce lemmas bars entries) above lemma are.each inside in
          record { held = one.held; listed = one.listed; is_lemma = one.is_lemma; stand = one.stand; same = λ cell tick. rw none (one.same cell tick) }

      new_in_force : (lemma : NumberedLemma) → Contains (numbered first blocks) lemma → IsInForce lemmas bars (with_blocks blocks entries) lemma
      new_in_force lemma held =
          let (k, block, found, is) = numbered_is first blocks lemma held in
          let listed : slice_get (map (lemma_of bars) blocks) k ≡ Some (lemma_of bars block) = slice_get-map (lemma_of bars) blocks k ∙ rw found refl in
          let there = block_is_found blocks apart k block found in
          subst (IsInForce lemmas bars (with_blocks blocks entries)) is (record {
            held = bars block.agent;
            listed = block.entries;
            is_lemma = places k (lemma_of bars block) listed;
            stand = λ bar stands. stands;
            same = λ cell tick. rw there refl;
          })

      no_entries_of_others : (agent : ℕ) → IsNotOf agent (in_force first blocks above) → (cell tick : ℕ) → with_blocks blocks entries agent cell tick ≡ None
      no_entries_of_others agent none cell tick = by (block_of blocks agent) refl
        where
          by : (found : Option LabelBlock) → block_of blocks agent ≡ found → entries_or found (entries agent) cell tick ≡ None
          by (Some block) is =
              let (held, of) = block_found blocks agent block is in
              let (lemma, inside, same) = block_numbered first blocks block held in
              absurd (none lemma (Contains-append_right (filter (has_no_block blocks) above) (numbered first blocks) lemma inside) (same ∙ of))
          by None is = are.others agent (λ lemma held same.
              let passes : is_none (block_of blocks lemma.agent) ≡ true = rw (same, is) refl in
              none lemma (Contains-append_left (filter (has_no_block blocks) above) (numbered first blocks) lemma (contains_filter (has_no_block blocks) above lemma held passes)) same) cell tick

      pub in_force_here : AreInForce lemmas bars (with_blocks blocks entries) (in_force first blocks above)
      in_force_here = record {
        each = All-append (IsInForce lemmas bars (with_blocks blocks entries)) (filter (has_no_block blocks) above) (numbered first blocks)
            (all_of_contained (IsInForce lemmas bars (with_blocks blocks entries)) (filter (has_no_block blocks) above) kept_in_force)
            (all_of_contained (IsInForce lemmas bars (with_blocks blocks entries)) (numbered first blocks) new_in_force);
        apart = in_force_apart first blocks above apart are.apart;
        others = no_entries_of_others;
      }
