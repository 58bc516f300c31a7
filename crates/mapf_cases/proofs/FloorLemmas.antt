-- The least priced costs of single agents at a leaf, and the lemmas that it names for them.
use Rattle.std.proofs.Common.{◌≡◌, ◌≢◌, ℕ, ◌+◌, ◌*◌, ◌<◌, ◌≤◌, Bool, true, false, List, [], ◌∷◌, Option, None, All, Contains, length, take, get_or, set, slice_index_or, sum_by, sym, ◌∙◌, ap, subst, ⊎_elim, arith}
use Rattle.std.proofs.lemmas.Bool.{cases_eq}
use Rattle.std.proofs.lemmas.List.{get_or-set_same, get_or-set_other, length-take-le}
use Rattle.std.proofs.lemmas.List.Elements.{All-more, All-take}
use Rattle.std.proofs.lemmas.List.Sums.{sum_by-le}
use Rattle.std.proofs.lemmas.Option.{get_or_from_slice_get}
use Rattle.mapf_cases.specs.Floors.{floor_at, distance_worth, agents_of, counted_of, no_statement, IsFloorOf}
use Rattle.mapf_cases.specs.Places.{LeafPlace, IsUsable, MayUse, IsBadAlone, AreSingles, IsFirstBadSingle}
use Rattle.mapf_cases.proofs.ListLemmas.{contains_more, contains_kept, contains_new, pairs_more, last_of, last_with}
use Rattle.mapf_cases.specs.Ranges.{greatest_counted}
use Rattle.mapf_cases.specs.Totals.{label_total}
use Rattle.mapf_cases.proofs.TotalLemmas.{total_small}
use Rattle.mapf_lemmas.specs.Groups.{Scope, ticks_of}
use Rattle.mapf_lemmas.specs.Statements.{Statement}
use Rattle.mapf_model.specs.declared.label.Label.{Label}
use Rattle.mapf_model.specs.declared.label.Label.TheVariants.{Ticks}

-- the floor of the agent is what its distance is worth, and no lemma of the agent alone is named
abbrev pub IsDistanceFloor : List (Option ℕ) → ℕ → List Label → List Bool → ℕ → Type 0
IsDistanceFloor distances unit amounts named agent =
    (floor_at amounts agent ≡ distance_worth unit (slice_index_or distances agent None)) × (slice_index_or named agent false ≡ false)

one_agent : (a b : ℕ) → ◌≡◌ {A = List ℕ} (a ∷ []) (b ∷ []) → a ≡ b
one_agent a b same = cc

-- the agents of a lemma that may be used
pub agents_are : (place : LeafPlace) (number : Option ℕ) (lemma : ℕ) (statement : Statement) → IsUsable place number lemma statement → agents_of place.known lemma ≡ statement.agents
agents_are place number lemma statement is = ap (λ s. s.agents) (get_or_from_slice_get place.known lemma statement no_statement is.named)

module _ (known : List Statement) (unit : ℕ) (distances : List (Option ℕ)) (singles : List ℕ) (i : ℕ) (within : i < length singles) (a : ℕ) (alone : agents_of known (get_or singles i 0) ≡ a ∷ []) where
  -- the floor of another agent
  floor_other : (agent : ℕ) (floor : Label) (b : Bool) → (agent ≡ a → ⊥) → IsFloorOf known unit distances (take i singles) agent floor b → IsFloorOf known unit distances (take (i + 1) singles) agent floor b
  floor_other agent floor true other (lemma, held, of_agent, is) = (lemma, contains_kept singles i 0 within lemma held, of_agent, is)
  floor_other agent floor false other (none, is) = (
    λ lemma held of_agent. ⊎_elim
        (λ (old : Contains (take i singles) lemma). none lemma old of_agent)
        (λ (new : get_or singles i 0 ≡ lemma). other (one_agent agent a (sym of_agent ∙ ap (agents_of known) (sym new) ∙ alone)))
        (contains_more singles i 0 within lemma held),
    is,
  )

  pub floors_more : (amounts : List Label) (named : List Bool) (counted : Label) → a < length amounts → a < length named → counted ≡ counted_of known unit (get_or singles i 0) →
      (agent : ℕ) → IsFloorOf known unit distances (take i singles) agent (floor_at amounts agent) (slice_index_or named agent false) →
      IsFloorOf known unit distances (take (i + 1) singles) agent (floor_at (set amounts a counted) agent) (slice_index_or (set named a true) agent false)
  floors_more amounts named counted in_amounts in_named is_counted agent old = ⊎_elim
      (λ (same : agent ≡ a). subst (λ k. IsFloorOf known unit distances (take (i + 1) singles) k (floor_at (set amounts a counted) k) (slice_index_or (set named a true) k false)) (sym same)
      (subst (λ b. IsFloorOf known unit distances (take (i + 1) singles) a (floor_at (set amounts a counted) a) b) (sym (get_or-set_same named a true false in_named))
      (get_or singles i 0, contains_new singles i 0 within, alone, get_or-set_same amounts a counted (Ticks 0) in_amounts ∙ is_counted)))
      (λ (other : agent ≡ a → ⊥). subst (λ f. IsFloorOf known unit distances (take (i + 1) singles) agent f (slice_index_or (set named a true) agent false)) (sym (get_or-set_other amounts a agent counted (Ticks 0) other))
      (subst (λ b. IsFloorOf known unit distances (take (i + 1) singles) agent (floor_at amounts agent) b) (sym (get_or-set_other named a agent true false other))
      (floor_other agent (floor_at amounts agent) (slice_index_or named agent false) other old)))
      (cases_eq agent a)

module _ (place : LeafPlace) (number : Option ℕ) (singles : List ℕ) (i : ℕ) (within : i < length singles) (before : AreSingles place number (take i singles)) where
  pub singles_more : (a : ℕ) → MayUse place number (get_or singles i 0) → agents_of place.known (get_or singles i 0) ≡ a ∷ [] →
      ((lemma : ℕ) → Contains (take i singles) lemma → agents_of place.known lemma ≢ a ∷ []) → AreSingles place number (take (i + 1) singles)
  singles_more a usable alone none = record {
    usable = All-more (MayUse place number) singles i 0 within before.usable usable;
    alone = All-more (λ lemma. (agent : ℕ) × (agents_of place.known lemma ≡ agent ∷ [])) singles i 0 within before.alone (a, alone);
    different = pairs_more singles i 0 within (λ one other. agents_of place.known one ≢ agents_of place.known other) before.different (λ lemma held same. none lemma held (same ∙ alone));
  }

  -- the lemma mustn't be used for an agent alone
  pub bad_alone : IsBadAlone place number (get_or singles i 0) → IsFirstBadSingle place number singles i
  bad_alone bad = record {
    within = within;
    before = before;
    bad = λ more. let is = last_of singles i 0 within (λ lemma. (agent : ℕ) × (agents_of place.known lemma ≡ agent ∷ [])) more.alone in
        bad (last_of singles i 0 within (MayUse place number) more.usable) is.0 is.1;
  }

  -- the agent has such a lemma already
  pub bad_twice : (a lemma : ℕ) → agents_of place.known (get_or singles i 0) ≡ a ∷ [] → Contains (take i singles) lemma → agents_of place.known lemma ≡ a ∷ [] → IsFirstBadSingle place number singles i
  bad_twice a lemma alone held of_agent = record {
    within = within;
    before = before;
    bad = λ more. last_with singles i 0 within (λ one other. agents_of place.known one ≢ agents_of place.known other) more.different lemma held (of_agent ∙ sym alone);
  }

-- a scope with these lemmas and agents
abbrev pub any_scope : List Statement → List ℕ → Scope
any_scope known agents = record { problem = record { grid = record { width = 0; height = 0; free = [] }; agents = [] }; lists = []; known = known; agents = agents }

-- floors that are small if they are finite
pub floors_small : (amounts : List Label) (agents : List ℕ) → All (λ floor. ticks_of floor ≤ greatest_counted) amounts → All (λ agent. agent < length amounts) agents → All (λ agent. ticks_of (floor_at amounts agent) ≤ greatest_counted) agents
floors_small amounts agents small inside k d within = small (slice_index_or agents k d) (Ticks 0) (inside k d within)

pub floor_small : (amounts : List Label) (agent : ℕ) (floor : Label) → All (λ floor. ticks_of floor ≤ greatest_counted) amounts → agent < length amounts → floor ≡ get_or amounts agent floor → ticks_of floor ≤ greatest_counted
floor_small amounts agent floor small inside is = subst (λ l. ticks_of l ≤ greatest_counted) (sym is) (small agent floor inside)

pub first_total_small : (amounts : List Label) (agents : List ℕ) (i : ℕ) → i ≤ length agents → All (λ floor. ticks_of floor ≤ greatest_counted) amounts → All (λ agent. agent < length amounts) agents → ticks_of (label_total (floor_at amounts) (take i agents)) ≤ i * greatest_counted
first_total_small amounts agents i few small inside =
    let all = total_small (floor_at amounts) greatest_counted (take i agents) (All-take (λ agent. ticks_of (floor_at amounts agent) ≤ greatest_counted) i agents (floors_small amounts agents small inside)) in
    let long = length-take-le i agents few in
    omega (arith, all, long)

pub first_sum_small : (amounts : List Label) (agents : List ℕ) (i : ℕ) → i ≤ length agents → All (λ floor. ticks_of floor ≤ greatest_counted) amounts → All (λ agent. agent < length amounts) agents → sum_by (λ agent. ticks_of (floor_at amounts agent)) (take i agents) ≤ i * greatest_counted
first_sum_small amounts agents i few small inside =
    let all = sum_by-le (λ agent. ticks_of (floor_at amounts agent)) greatest_counted (take i agents) (All-take (λ agent. ticks_of (floor_at amounts agent) ≤ greatest_counted) i agents (floors_small amounts agents small inside)) in
    let long = length-take-le i agents few in
    omega (arith, all, long)
