-- Which constraints are met where these stand, and the layers while they are added and taken away.
use Rattle.std.proofs.Common.{◌≡◌, ◌≢◌, ◌↔◌, ◌⊎◌, ℕ, ◌<◌, ◌≤◌, Bool, false, List, [], ◌∷◌, ◌++◌, Option, Contains, IsTrue, length, map, reverse, refl, sym, ◌∙◌, ap, subst, inl, inr, ⊎_elim, eq-eqb, arith}
use Rattle.std.proofs.lemmas.Bool.{cases_eq, ne_eqb, true≢false}
use Rattle.std.proofs.lemmas.List.{reverse-append}
use Rattle.mapf_lemmas.specs.declared.constraint.PathConstraint.{PathConstraint}
use Rattle.mapf_lemmas.specs.declared.constraint.PathConstraint.TheVariants.{NotAt, NotMove, Clear, Most, Least}
use Rattle.mapf_lemmas.specs.declared.constraint.AgentConstraint.{AgentConstraint}
use Rattle.mapf_lemmas.specs.Cases.{with_constraint}
use Rattle.mapf_lemmas.specs.Statements.{IsMet, Meets}
use Rattle.mapf_model.proofs.ContainsLemmas.{Contains-none, Contains-cons_cases, Contains-cons_new, Contains-cons_old}
use Rattle.mapf_cases.specs.declared.addition.Addition.{Addition}
use Rattle.mapf_cases.specs.declared.addition.Addition.TheVariants.{One, Others}
use Rattle.mapf_cases.specs.declared.clear_index.ClearIndex.{ClearIndex}
use Rattle.mapf_cases.specs.declared.clear_index.Earliest.{Earliest}
use Rattle.mapf_cases.specs.declared.rule_index.RuleIndex.{RuleIndex}
use Rattle.mapf_cases.specs.declared.standing.Layer.{Layer}
use Rattle.mapf_cases.specs.declared.standing.Layer.TheVariants as layer
use Rattle.mapf_cases.specs.Clears.{Clearing, IsClear, IsEntryOf, Keeps}
use Rattle.mapf_cases.specs.Layers.{addition_of, AreLayers}
use Rattle.mapf_cases.specs.Rules.{CanRemove, Indexes}
use Rattle.mapf_cases.specs.Standing.{constraints_after, singles_after, clearings_of}
use Rattle.mapf_cases.proofs.ClearLemmas.{IsClear-cons}

-- some of these serves for the constraint of the agent
abbrev pub ClearsFor : List Clearing → ℕ → PathConstraint → Type 0
ClearsFor clears agent (NotAt cell tick) = IsClear clears cell agent tick
ClearsFor clears agent (Clear cell tick) = IsClear clears cell agent tick
ClearsFor clears agent other = ⊥

IsMet-none : (needed : PathConstraint) → IsMet [] needed → ⊥
IsMet-none needed (constraint, held, stands) = Contains-none constraint held

IsMet-cons : (more needed : PathConstraint) (constraints : List PathConstraint) → IsMet (more ∷ constraints) needed ↔ (IsMet constraints needed ⊎ Meets more needed)
IsMet-cons more needed constraints = (
  λ (constraint, held, stands). ⊎_elim
      (λ (is : more ≡ constraint). inr (subst (λ c. Meets c needed) (sym is) stands))
      (λ (old : Contains constraints constraint). inl (constraint, old, stands))
      (Contains-cons_cases more constraint constraints held),
  λ either. ⊎_elim
      (λ (old : IsMet constraints needed). (old.0, Contains-cons_old more old.0 constraints old.1, old.2))
      (λ (new : Meets more needed). (more, Contains-cons_new more constraints, new))
      either,
)

ClearsFor-none : (agent : ℕ) (needed : PathConstraint) → ClearsFor [] agent needed → ⊥
ClearsFor-none agent (NotAt cell tick) clear = Contains-none clear.0 clear.1
ClearsFor-none agent (Clear cell tick) clear = Contains-none clear.0 clear.1
ClearsFor-none agent other clear = clear

module _ (clears : List Clearing) (i cell tick agent : ℕ) where
  abbrev this : Clearing
  this = record { agent = i; cell = cell; tick = tick }

  about : (there later : ℕ) → IsClear (this ∷ clears) there agent later ↔ (IsClear clears there agent later ⊎ ((i ≢ agent) × ((cell ≡ there) × (tick ≤ later))))
  about there later =
      let cons = IsClear-cons clears i cell tick there agent later in (
        λ clear. ⊎_elim (λ (old : IsClear clears there agent later). inl old) (λ (new : (cell ≡ there) × (i ≢ agent) × (tick ≤ later)). inr (new.1, (new.0, new.2))) (cons.0 clear),
        λ either. cons.1 (⊎_elim (λ (old : IsClear clears there agent later). inl old) (λ (new : (i ≢ agent) × ((cell ≡ there) × (tick ≤ later))). inr (new.1.0, new.0, new.1.1)) either),
      )

  ClearsFor-cons : (needed : PathConstraint) → ClearsFor (this ∷ clears) agent needed ↔ (ClearsFor clears agent needed ⊎ ((i ≢ agent) × Meets (Clear cell tick) needed))
  ClearsFor-cons (NotAt there later) = about there later
  ClearsFor-cons (Clear there later) = about there later
  ClearsFor-cons (NotMove a b t) = (λ none. absurd none, λ either. ⊎_elim (λ (none : ⊥). none) (λ (none : (i ≢ agent) × ⊥). none.1) either)
  ClearsFor-cons (Most t) = (λ none. absurd none, λ either. ⊎_elim (λ (none : ⊥). none) (λ (none : (i ≢ agent) × ⊥). none.1) either)
  ClearsFor-cons (Least t) = (λ none. absurd none, λ either. ⊎_elim (λ (none : ⊥). none) (λ (none : (i ≢ agent) × ⊥). none.1) either)

-- a fact with two parts, when more is added to the fact and to one of the parts
module _ {whole first second : Type 0} (parts : whole ↔ (first ⊎ second)) where
  first_grows : {new more_whole more_first : Type 0} → more_whole ↔ (whole ⊎ new) → more_first ↔ (first ⊎ new) → more_whole ↔ (more_first ⊎ second)
  first_grows {new = new} wholes firsts = (
    λ h. ⊎_elim (λ (w : whole). ⊎_elim (λ (f : first). inl (firsts.1 (inl f))) (λ (s : second). inr s) (parts.0 w)) (λ (n : new). inl (firsts.1 (inr n))) (wholes.0 h),
    λ either. ⊎_elim
        (λ f. ⊎_elim (λ (f : first). wholes.1 (inl (parts.1 (inl f)))) (λ (n : new). wholes.1 (inr n)) (firsts.0 f))
        (λ (s : second). wholes.1 (inl (parts.1 (inr s))))
        either,
  )

  second_grows : {new more_whole more_second guarded : Type 0} → more_whole ↔ (whole ⊎ new) → more_second ↔ (second ⊎ guarded) → (guarded → new) → (new → guarded) → more_whole ↔ (first ⊎ more_second)
  second_grows {new = new} {guarded = guarded} wholes seconds from to = (
    λ h. ⊎_elim (λ (w : whole). ⊎_elim (λ (f : first). inl f) (λ (s : second). inr (seconds.1 (inl s))) (parts.0 w)) (λ (n : new). inr (seconds.1 (inr (to n)))) (wholes.0 h),
    λ either. ⊎_elim
        (λ (f : first). wholes.1 (inl (parts.1 (inl f))))
        (λ s. ⊎_elim (λ (s : second). wholes.1 (inl (parts.1 (inr s)))) (λ (n : guarded). wholes.1 (inr (from n))) (seconds.0 s))
        either,
  )

  second_stays : {more_second guarded : Type 0} → more_second ↔ (second ⊎ guarded) → (guarded → ⊥) → whole ↔ (first ⊎ more_second)
  second_stays {guarded = guarded} seconds none = (
    λ w. ⊎_elim (λ (f : first). inl f) (λ (s : second). inr (seconds.1 (inl s))) (parts.0 w),
    λ either. ⊎_elim
        (λ (f : first). parts.1 (inl f))
        (λ s. ⊎_elim (λ (s : second). parts.1 (inr s)) (λ (n : guarded). absurd (none n)) (seconds.0 s))
        either,
  )

-- a constraint is met by one of a single agent, or by one of all agents but one
pub stands_parts : (additions : List Addition) (agent : ℕ) (needed : PathConstraint) →
    IsMet (constraints_after additions agent) needed ↔ (IsMet (singles_after additions agent) needed ⊎ ClearsFor (clearings_of additions) agent needed)
stands_parts [] agent needed = (
  λ stands. absurd (IsMet-none needed stands),
  λ either. ⊎_elim (λ (stands : IsMet [] needed). absurd (IsMet-none needed stands)) (λ (clear : ClearsFor [] agent needed). absurd (ClearsFor-none agent needed clear)) either,
)
stands_parts (One own ∷ before) agent needed =
    let old = stands_parts before agent needed in
    ⊎_elim
    (λ (same : agent ≡ own.agent). rw (eq-eqb agent own.agent same) (first_grows old (IsMet-cons own.constraint needed (constraints_after before agent)) (IsMet-cons own.constraint needed (singles_after before agent))))
    (λ (apart : agent ≡ own.agent → ⊥). rw (ne_eqb agent own.agent apart) old)
    (cases_eq agent own.agent)
stands_parts (Others i cell tick ∷ before) agent needed =
    let old = stands_parts before agent needed in
    let clear = ClearsFor-cons (clearings_of before) i cell tick agent needed in
    ⊎_elim
    (λ (same : agent ≡ i). rw (eq-eqb agent i same) (second_stays old clear (λ new. absurd (new.0 (sym same)))))
    (λ (apart : agent ≡ i → ⊥). rw (ne_eqb agent i apart) (second_grows old (IsMet-cons (Clear cell tick) needed (constraints_after before agent)) clear (λ new. new.1) (λ new. ((λ is. apart (sym is)), new))))
    (cases_eq agent i)

-- what the indexes say of the needed constraint
module _ (layers : List Layer) (rules : RuleIndex) (clears : ClearIndex) (agent : ℕ) (needed : PathConstraint) where
  abbrev additions : List Addition
  additions = map addition_of layers

  pub met_by_single : IsMet (singles_after additions agent) needed → IsMet (constraints_after additions agent) needed
  met_by_single stands = (stands_parts additions agent needed).1 (inl stands)

  pub met_by_clear : (found : Bool) → IsTrue found ↔ IsMet (singles_after additions agent) needed → found ≡ false →
      ClearsFor (clearings_of additions) agent needed ↔ IsMet (constraints_after additions agent) needed
  met_by_clear found meets none =
      let parts = stands_parts additions agent needed in (
        λ clear. parts.1 (inr clear),
        λ stands. ⊎_elim
            (λ (single : IsMet (singles_after additions agent) needed). absurd (true≢false (sym (meets.1 single) ∙ none)))
            (λ (clear : ClearsFor (clearings_of additions) agent needed). clear)
            (parts.0 stands),
      )

pub ClearsFor-other : (clears : List Clearing) (agent : ℕ) (needed : PathConstraint) → ((cell tick : ℕ) → needed ≡ NotAt cell tick → ⊥) → ((cell tick : ℕ) → needed ≡ Clear cell tick → ⊥) → ClearsFor clears agent needed → ⊥
ClearsFor-other clears agent (NotAt cell tick) not_at not_clear clear = not_at cell tick refl
ClearsFor-other clears agent (Clear cell tick) not_at not_clear clear = not_clear cell tick refl
ClearsFor-other clears agent other not_at not_clear clear = clear

-- the layers, after one is added
module _ (layers : List Layer) (rules new_rules : RuleIndex) (clears new_clears : ClearIndex) (are : AreLayers layers rules clears) where
  pub AreLayers-one : (own : AgentConstraint) (is_new : Bool) → Indexes (singles_after (One own ∷ map addition_of layers)) new_rules →
      CanRemove (singles_after (map addition_of layers)) own.agent own.constraint is_new → AreLayers (layer.One own is_new ∷ layers) new_rules clears
  AreLayers-one own is_new indexed can = record { indexed = indexed; kept = are.kept; undone = (can, are.undone) }

  pub AreLayers-others : (agent cell tick : ℕ) (before : Option Earliest) → Keeps (clearings_of (Others agent cell tick ∷ map addition_of layers)) new_clears →
      IsEntryOf (clearings_of (map addition_of layers)) cell before → AreLayers (layer.Others agent cell tick before ∷ layers) rules new_clears
  AreLayers-others agent cell tick before kept entry = record { indexed = are.indexed; kept = kept; undone = (entry, are.undone) }

-- and after the last one is taken away
module _ (layers : List Layer) (rules new_rules : RuleIndex) (clears new_clears : ClearIndex) where
  pub AreLayers-less_one : (own : AgentConstraint) (is_new : Bool) → AreLayers (layer.One own is_new ∷ layers) rules clears →
      ((constraints : ℕ → List PathConstraint) → Indexes (with_constraint constraints own.agent own.constraint) rules → CanRemove constraints own.agent own.constraint is_new → Indexes constraints new_rules) →
      AreLayers layers new_rules clears
  AreLayers-less_one own is_new are removed = record {
    indexed = removed (singles_after (map addition_of layers)) are.indexed are.undone.0;
    kept = are.kept;
    undone = are.undone.1;
  }

  pub AreLayers-less_others : (agent cell tick : ℕ) (before : Option Earliest) → AreLayers (layer.Others agent cell tick before ∷ layers) rules clears →
      ((those : List Clearing) → Keeps (record { agent = agent; cell = cell; tick = tick } ∷ those) clears → IsEntryOf those cell before → Keeps those new_clears) →
      AreLayers layers rules new_clears
  AreLayers-less_others agent cell tick before are removed = record {
    indexed = are.indexed;
    kept = removed (clearings_of (map addition_of layers)) are.kept are.undone.0;
    undone = are.undone.1;
  }

-- the last one of a list is the first of the reversed list
pub reverse_push : {X : Type 0} (xs : List X) (x : X) → reverse (xs ++ x ∷ []) ≡ x ∷ reverse xs
reverse_push xs x = reverse-append xs (x ∷ [])

-- what is left after the last one is taken away, if it isn't one of the rest
pub left_over : (left rest self new : List Addition) (count : ℕ) → self ≡ left ++ rest → length rest ≡ count → count < length self →
    ((addition : Addition) (after : List Addition) → self ≡ addition ∷ after → new ≡ after) → (fewer : List Addition) × (new ≡ fewer ++ rest)
left_over [] rest self new count is same more last = absurd (omega (arith, ap length is))
left_over (addition ∷ left) rest self new count is same more last = (left, last addition (left ++ rest) is)
