-- The list of all visits by cell and by entry.
use Rattle.std.proofs.Common.{◌≡◌, ◌⊎◌, ℕ, zero, suc, ◌+◌, ◌<◌, ◌≤◌, List, [], ◌∷◌, ◌++◌, Some, Contains, IsPermutation, All, length, take, slice_get, refl, sym, ap, subst, ◌∙◌, inl, inr, ⊎_elim, arith, append_assoc, append-nil, length-append}
use Rattle.std.proofs.lemmas.List.Sorted.{Contains-permutation, IsPermutation-sym}
use Rattle.std.proofs.lemmas.Bool.{cases_lt}
use Rattle.std.proofs.lemmas.Option.{same_Some, slice_get_within, slice_get-get_or, get_or_from_slice_get}
use Rattle.mapf_player.specs.declared.visit.Visit.{Visit}
use Rattle.mapf_player.specs.declared.dispatch.Turn.{Turn}
use Rattle.mapf_player.specs.Visits.{IsVisit}
use Rattle.mapf_player.specs.Turns.{AreTurns, IsTurnOf, key_of, own_turns}
use Rattle.mapf_model.specs.Limits.{most_path_cells}
use Rattle.mapf_model.proofs.PlaceLemmas.{take-next, slice_get-front, slice_get-here}

-- the turn of a visit
abbrev pub turn_of : ℕ → ℕ → Visit → Turn
turn_of agent number visit = record { key = key_of visit; agent = agent; number = number }

pub own_turns-last : (agent number : ℕ) (visits : List Visit) (visit : Visit) → own_turns agent number (visits ++ visit ∷ []) ≡ own_turns agent number visits ++ turn_of agent (number + length visits) visit ∷ []
own_turns-last agent number [] visit = let e : number ≡ number + 0 = omega arith in ap (λ n. turn_of agent n visit ∷ []) e
own_turns-last agent number (v ∷ visits) visit =
    let e : number + 1 + length visits ≡ number + suc (length visits) = omega arith in
    ap (λ turns. turn_of agent number v ∷ turns) (own_turns-last agent (number + 1) visits visit ∙ ap (λ n. own_turns agent (number + 1) visits ++ turn_of agent n visit ∷ []) e)

-- one visit more of an agent
pub own_turns-next : (old now : List Turn) (agent n : ℕ) (visits : List Visit) (visit : Visit) → now ≡ old ++ own_turns agent 0 (take n visits) → slice_get visits n ≡ Some visit →
    now ++ turn_of agent n visit ∷ [] ≡ old ++ own_turns agent 0 (take (suc n) visits)
own_turns-next old now agent n visits visit same is =
    ap (λ xs. xs ++ turn_of agent n visit ∷ []) same
    ∙ append_assoc old (own_turns agent 0 (take n visits)) (turn_of agent n visit ∷ [])
    ∙ ap (λ xs. old ++ xs) (sym (ap (own_turns agent 0) (take-next visits n visit is) ∙ own_turns-last agent 0 (take n visits) visit ∙ ap (λ k. own_turns agent 0 (take n visits) ++ turn_of agent k visit ∷ []) (count n visits visit is)))
  where
    count : (n : ℕ) (visits : List Visit) (visit : Visit) → slice_get visits n ≡ Some visit → 0 + length (take n visits) ≡ n
    count n [] visit is = absurd cc
    count zero (v ∷ visits) visit is = refl
    count (suc n) (v ∷ visits) visit is = let rest = count n visits visit is in omega arith

-- all turns of agents numbered from this one on
abbrev pub all_turns : ℕ → List (List Visit) → List Turn
all_turns agent [] = []
all_turns agent (own ∷ visits) = own_turns agent 0 own ++ all_turns (agent + 1) visits

pub all_turns-last : (agent : ℕ) (visits : List (List Visit)) (own : List Visit) → all_turns agent (visits ++ own ∷ []) ≡ all_turns agent visits ++ own_turns (agent + length visits) 0 own
all_turns-last agent [] own = let e : agent ≡ agent + 0 = omega arith in append-nil (own_turns agent 0 own) ∙ ap (λ a. own_turns a 0 own) e
all_turns-last agent (first ∷ visits) own =
    let e : agent + 1 + length visits ≡ agent + suc (length visits) = omega arith in
    ap (λ turns. own_turns agent 0 first ++ turns) (all_turns-last (agent + 1) visits own ∙ ap (λ a. all_turns (agent + 1) visits ++ own_turns a 0 own) e)
    ∙ sym (append_assoc (own_turns agent 0 first) (all_turns (agent + 1) visits) (own_turns (agent + suc (length visits)) 0 own))

-- one agent more
pub all_turns-next : (now : List Turn) (n : ℕ) (visits : List (List Visit)) (own : List Visit) → now ≡ all_turns 0 (take n visits) → slice_get visits n ≡ Some own → now ++ own_turns n 0 own ≡ all_turns 0 (take (suc n) visits)
all_turns-next now n visits own same is =
    ap (λ xs. xs ++ own_turns n 0 own) same ∙ sym (ap (all_turns 0) (take-next visits n own is) ∙ all_turns-last 0 (take n visits) own ∙ ap (λ k. all_turns 0 (take n visits) ++ own_turns k 0 own) (count n visits own is))
  where
    count : (n : ℕ) (visits : List (List Visit)) (own : List Visit) → slice_get visits n ≡ Some own → 0 + length (take n visits) ≡ n
    count n [] own is = absurd cc
    count zero (v ∷ visits) own is = refl
    count (suc n) (v ∷ visits) own is = let rest = count n visits own is in omega arith

none_more : (n : ℕ) → 0 + n ≡ n
none_more n = omega arith

-- an item is at some place of a list
abbrev Has : {X : Type 0} → List X → X → Type 0
Has xs x = (k : ℕ) × (slice_get xs k ≡ Some x)

has_cons : {X : Type 0} (y : X) (xs : List X) (x : X) → Has xs x → Has (y ∷ xs) x
has_cons y xs x (k, is) = (suc k, is)

has_front : {X : Type 0} (xs ys : List X) (x : X) → Has xs x → Has (xs ++ ys) x
has_front xs ys x (k, is) = (k, slice_get-front xs ys k (slice_get_within xs k x is) ∙ is)

has_back : {X : Type 0} (xs ys : List X) (x : X) → Has ys x → Has (xs ++ ys) x
has_back [] ys x has = has
has_back (y ∷ xs) ys x has = has_cons y (xs ++ ys) x (has_back xs ys x has)

has_either : {X : Type 0} (xs ys : List X) (x : X) (k : ℕ) → slice_get (xs ++ ys) k ≡ Some x → Has xs x ⊎ Has ys x
has_either [] ys x k is = inr (k, is)
has_either (y ∷ xs) ys x zero is = inl (zero, is)
has_either (y ∷ xs) ys x (suc k) is = ⊎_elim (λ has. inl (has_cons y xs x has)) (λ has. inr has) (has_either xs ys x k is)

own_has : (agent number : ℕ) (visits : List Visit) (n : ℕ) (visit : Visit) → slice_get visits n ≡ Some visit → Has (own_turns agent number visits) (turn_of agent (number + n) visit)
own_has agent number [] n visit is = absurd cc
own_has agent number (v ∷ visits) zero visit is =
    let e : number ≡ number + 0 = omega arith in
    (zero, ap Some (ap (turn_of agent number) (same_Some v visit is) ∙ ap (λ k. turn_of agent k visit) e))
own_has agent number (v ∷ visits) (suc n) visit is =
    let e : number + 1 + n ≡ number + suc n = omega arith in
    has_cons (turn_of agent number v) (own_turns agent (number + 1) visits) (turn_of agent (number + suc n) visit)
    (subst (λ k. Has (own_turns agent (number + 1) visits) (turn_of agent k visit)) e (own_has agent (number + 1) visits n visit is))

own_are : (agent number : ℕ) (visits : List Visit) (turn : Turn) (k : ℕ) → slice_get (own_turns agent number visits) k ≡ Some turn → (n : ℕ) × (visit : Visit) × (slice_get visits n ≡ Some visit) × (turn ≡ turn_of agent (number + n) visit)
own_are agent number [] turn k is = absurd cc
own_are agent number (v ∷ visits) turn zero is =
    let e : number ≡ number + 0 = omega arith in
    (zero, v, refl, sym (same_Some (turn_of agent number v) turn is) ∙ ap (λ k. turn_of agent k v) e)
own_are agent number (v ∷ visits) turn (suc k) is =
    let (n, visit, visit_is, same) = own_are agent (number + 1) visits turn k is in
    let e : number + 1 + n ≡ number + suc n = omega arith in
    (suc n, visit, visit_is, same ∙ ap (λ j. turn_of agent j visit) e)

all_has : (agent : ℕ) (visits : List (List Visit)) (i number : ℕ) (visit : Visit) → IsVisit visits i number visit → Has (all_turns agent visits) (turn_of (agent + i) number visit)
all_has agent [] i number visit (own, own_is, visit_is) = absurd cc
all_has agent (first ∷ visits) zero number visit (own, own_is, visit_is) =
    let e : agent ≡ agent + 0 = omega arith in
    let here = subst (λ n. Has (own_turns agent 0 first) (turn_of agent n visit)) (none_more number) (own_has agent 0 first number visit (subst (λ (o : List Visit). slice_get o number ≡ Some visit) (sym (same_Some first own own_is)) visit_is)) in
    has_front (own_turns agent 0 first) (all_turns (agent + 1) visits) (turn_of (agent + 0) number visit) (subst (λ a. Has (own_turns agent 0 first) (turn_of a number visit)) e here)
all_has agent (first ∷ visits) (suc i) number visit (own, own_is, visit_is) =
    let e : agent + 1 + i ≡ agent + suc i = omega arith in
    has_back (own_turns agent 0 first) (all_turns (agent + 1) visits) (turn_of (agent + suc i) number visit)
    (subst (λ a. Has (all_turns (agent + 1) visits) (turn_of a number visit)) e (all_has (agent + 1) visits i number visit (own, own_is, visit_is)))

all_are : (agent : ℕ) (visits : List (List Visit)) (turn : Turn) (k : ℕ) → slice_get (all_turns agent visits) k ≡ Some turn → (i number : ℕ) × (visit : Visit) × IsVisit visits i number visit × (turn ≡ turn_of (agent + i) number visit)
all_are agent [] turn k is = absurd cc
all_are agent (first ∷ visits) turn k is = ⊎_elim
    (λ (own : Has (own_turns agent 0 first) turn).
    let (n, visit, visit_is, same) = own_are agent 0 first turn own.0 own.1 in
    let e : agent ≡ agent + 0 = omega arith in
    (zero, n, visit, (first, refl, visit_is), same ∙ ap (λ m. turn_of agent m visit) (none_more n) ∙ ap (λ a. turn_of a n visit) e))
    (λ (later : Has (all_turns (agent + 1) visits) turn).
    let (i, number, visit, visit_is, same) = all_are (agent + 1) visits turn later.0 later.1 in
    let e : agent + 1 + i ≡ agent + suc i = omega arith in
    (suc i, number, visit, visit_is, same ∙ ap (λ a. turn_of a number visit) e))
    (has_either (own_turns agent 0 first) (all_turns (agent + 1) visits) turn k is)

contains : {X : Type 0} (xs : List X) (x : X) → Has xs x → Contains xs x
contains xs x (k, is) = (k, slice_get_within xs k x is, get_or_from_slice_get xs k x x is)

has : {X : Type 0} (xs : List X) (x : X) → Contains xs x → Has xs x
has xs x (k, within, is) = (k, slice_get-get_or xs k x within ∙ ap Some is)

-- each tick of entry is one that a path of the greatest length has
abbrev pub AreEarly : List (List Visit) → Type 0
AreEarly visits = (agent : ℕ) (own : List Visit) → slice_get visits agent ≡ Some own → All (λ visit. visit.entry < most_path_cells) own

early_visit : (visits : List (List Visit)) → AreEarly visits → (agent number : ℕ) (visit : Visit) → IsVisit visits agent number visit → visit.entry < most_path_cells
early_visit visits early agent number visit (own, own_is, visit_is) =
    let here = early agent own own_is number visit (slice_get_within own number visit visit_is) in
    subst (λ (v : Visit). v.entry < most_path_cells) (get_or_from_slice_get own number visit visit visit_is) here

pub early_more : (visits : List (List Visit)) (n : ℕ) (own : List Visit) → AreEarly (take n visits) → slice_get visits n ≡ Some own → All (λ visit. visit.entry < most_path_cells) own → AreEarly (take (suc n) visits)
early_more visits n own early is low agent o o_is =
    let placed : slice_get (take n visits ++ own ∷ []) agent ≡ Some o = ap (λ vs. slice_get vs agent) (sym (take-next visits n own is)) ∙ o_is in
    ⊎_elim
    (λ (within : agent < length (take n visits)). early agent o (sym (slice_get-front (take n visits) (own ∷ []) agent within) ∙ placed))
    (λ (past : length (take n visits) ≤ agent).
    let inside = slice_get_within (take n visits ++ own ∷ []) agent o placed in
    let size = length-append (take n visits) (own ∷ []) in
    let here : agent ≡ length (take n visits) = omega arith in
    let same : own ≡ o = same_Some own o (sym (slice_get-here (take n visits) [] own) ∙ ap (λ i. slice_get (take n visits ++ own ∷ []) i) (sym here) ∙ placed) in
    subst (λ vs. All (λ visit. visit.entry < most_path_cells) vs) same low)
    (cases_lt agent (length (take n visits)))

pub are_turns : (visits : List (List Visit)) → AreEarly visits → AreTurns visits (all_turns 0 visits)
are_turns visits early = record {
  each = λ turn held.
      let (k, is) = has (all_turns 0 visits) turn held in
      let (i, number, visit, visit_is, same) = all_are 0 visits turn k is in
      (visit, subst (λ s. IsTurnOf visits s visit) (sym (same ∙ ap (λ a. turn_of a number visit) (none_more i))) (visit_is, refl, early_visit visits early i number visit visit_is));
  all = λ agent number visit is. contains (all_turns 0 visits) (turn_of agent number visit) (subst (λ a. Has (all_turns 0 visits) (turn_of a number visit)) (none_more agent) (all_has 0 visits agent number visit is));
}

-- in another order the turns are still all visits
pub permuted : (visits : List (List Visit)) (turns sorted : List Turn) → AreTurns visits turns → IsPermutation turns sorted → AreTurns visits sorted
permuted visits turns sorted are moved = record {
  each = λ turn held. are.each turn (Contains-permutation sorted turns turn (IsPermutation-sym turns sorted moved) held);
  all = λ agent number visit is. Contains-permutation turns sorted (turn_of agent number visit) moved (are.all agent number visit is);
}
