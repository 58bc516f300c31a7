-- Which turns of a cell are still to come.
use Rattle.std.proofs.Common.{◌≡◌, ◌≢◌, ℕ, zero, suc, ◌+◌, ◌-◌, ◌*◌, ◌<◌, ◌≤◌, min, MatchOption, ◌↔◌, List, Option, Some, None, length, slice_get, get_or, refl, sym, ap, subst, ◌∙◌, inl, inr, ⊎_elim, arith}
use Rattle.std.proofs.Math.Logic.{⊎_swap}
use Rattle.std.proofs.lemmas.Bool.{cases_eq, cases_lt}
use Rattle.std.proofs.lemmas.Option.{same_Some, slice_get_within, slice_get_read, slice_get-get_or, get_or_from_slice_get}
use Rattle.mapf_model.specs.Limits.{most_path_cells}
use Rattle.mapf_model.proofs.ClaimLemmas.{slice_get_inside}
use Rattle.mapf_model.specs.Path.{at}
use Rattle.mapf_player.specs.declared.visit.Visit.{Visit}
use Rattle.mapf_player.specs.declared.dispatch.Turn.{Turn}
use Rattle.mapf_player.specs.Visits.{AreVisitsOf, IsVisit}
use Rattle.mapf_player.specs.Dispatching.{Progress, IsProgress, IsLeft, IsAwaited, IsNext, IsIn, IsInOrder, IsOfValidPlan, IsLeastAwaited, Advances}
use Rattle.mapf_player.specs.declared.reply.Reply.TheVariants.{Go}
use Rattle.mapf_player.specs.Turns.{AreSortedTurns, IsTurnOf, IsTurn, IsDue, key_of}
use Rattle.mapf_player.proofs.VisitLemmas.{path_of}
use Rattle.mapf_player.proofs.DispatchLemmas.{progress_stays_in_order, reached_after}

-- the agent of a turn has a number
pub turn_within : (progress : Progress) (turn : Turn) → IsProgress progress → IsTurn progress turn → turn.agent < length progress.numbers
turn_within progress turn is_progress (visit, ((own, own_is, visit_is), key, early)) = let within = slice_get_within progress.visits turn.agent own own_is in let count = is_progress.count in omega arith

pub of_valid_progress : (progress : Progress) → IsOfValidPlan progress → IsProgress progress × IsInOrder progress
of_valid_progress progress of_valid = progress_stays_in_order of_valid.problem of_valid.plan progress of_valid.valid of_valid.reached

-- how a turn is tested
pub due_tests : (progress : Progress) (turn : Turn) (from current : ℕ) → slice_get progress.numbers turn.agent ≡ Some current → from ≤ turn.key → (current ≤ turn.number) ↔ IsDue progress turn from
due_tests progress turn from current is low = (
  (λ (here : current ≤ turn.number). (low, λ left. let same : left.0 ≡ current = same_Some left.0 current (sym left.1 ∙ is) in let past = left.2 in omega arith)),
  (λ (due : IsDue progress turn from). ⊎_elim
      (λ (past : turn.number < current). absurd (due.1 (current, is, past)))
      (λ (here : current ≤ turn.number). here)
      (cases_lt turn.number current)),
)

-- the least agent of the turns from a place up to another, None where there are none
abbrev pub IsLeastOf : List Turn → ℕ → ℕ → Option ℕ → Type 0
IsLeastOf turns place end None = place ≡ end
IsLeastOf turns place end (Some least) = ((p : ℕ) × (turn : Turn) × (place ≤ p) × (p < end) × (slice_get turns p ≡ Some turn) × (turn.agent ≡ least))
    × ((p : ℕ) (turn : Turn) → place ≤ p → p < end → slice_get turns p ≡ Some turn → least ≤ turn.agent)

-- from a place up to another each turn is due, and the least agent of them is known
pub record IsScanned (progress : Progress) (turns : List Turn) (from place end : ℕ) (least : Option ℕ) : Type 0 where
  pub within : place ≤ end
  pub inside : end ≤ length turns
  pub due : (p : ℕ) (turn : Turn) → place ≤ p → p < end → slice_get turns p ≡ Some turn → IsDue progress turn from
  pub is_least : IsLeastOf turns place end least

module _ (path : List ℕ) (own : List Visit) (are : AreVisitsOf path own) (n : ℕ) (here next : Visit) (here_is : slice_get own n ≡ Some here) (next_is : slice_get own (n + 1) ≡ Some next) where
  -- no visit begins between two that follow each other
  between : (t m : ℕ) (visit : Visit) → slice_get own m ≡ Some visit → visit.entry ≡ here.entry + suc t → here.entry + suc t < next.entry → ⊥
  between t m visit visit_is entry low = ⊎_elim
      (λ (less : m < n). let e = are.rising m n visit here less visit_is here_is in omega arith)
      (λ (high : n ≤ m). ⊎_elim
      (λ (more : n + 1 < m). let e = are.rising (n + 1) m next visit more next_is visit_is in omega arith)
      (λ (near : m ≤ n + 1). ⊎_elim
      (λ (first : m < n + 1).
      let same : m ≡ n = omega arith in
      let e = ap (λ (v : Visit). v.entry) (same_Some visit here (sym visit_is ∙ ap (slice_get own) same ∙ here_is)) in
      omega arith)
      (λ (last : n + 1 ≤ m).
      let same : m ≡ n + 1 = omega arith in
      let e = ap (λ (v : Visit). v.entry) (same_Some visit next (sym visit_is ∙ ap (slice_get own) same ∙ next_is)) in
      omega arith)
      (cases_lt m (n + 1)))
      (cases_lt (n + 1) m))
      (cases_lt m n)

  -- from a visit's entry up to the next one the cell stays
  stays : (t : ℕ) → here.entry + t < next.entry → at path (here.entry + t) ≡ here.cell
  stays zero low = let none : here.entry + 0 ≡ here.entry = omega arith in ap (at path) none ∙ sym (are.entered n here here_is).1
  stays (suc t) low =
      let before = stays t (omega arith) in
      let more : here.entry + suc t ≡ here.entry + t + 1 = omega arith in
      ⊎_elim
      (λ (same : at path (here.entry + suc t) ≡ at path (here.entry + t)). same ∙ before)
      (λ (other : at path (here.entry + suc t) ≢ at path (here.entry + t)).
      let (m, visit, visit_is, entry) = are.all (here.entry + suc t) (inr (here.entry + t, more, other)) in
      absurd (between t m visit visit_is entry low))
      (cases_eq (at path (here.entry + suc t)) (at path (here.entry + t)))

  -- so the next visit is of another cell
  pub next_differs : here.cell ≢ next.cell
  next_differs same =
      let order = are.rising n (n + 1) here next (omega arith) here_is next_is in
      ⊎_elim
      (λ (first : next.entry ≡ 0). omega arith)
      (λ (later : (before : ℕ) × (next.entry ≡ before + 1) × (at path next.entry ≢ at path before)).
      let entry = later.1 in
      let gap = later.0 - here.entry in
      let place : here.entry + gap ≡ later.0 = omega arith in
      later.2 (sym (are.entered (n + 1) next next_is).1 ∙ sym same ∙ sym (stays gap (omega arith)) ∙ ap (at path) place))
      (are.entered (n + 1) next next_is).0

-- the turns of a valid plan's progress, sorted, and a visit that an agent will begin next
module _ (progress : Progress) (of_valid : IsOfValidPlan progress) (turns : List Turn) (sorted : AreSortedTurns progress.visits turns) (agent : ℕ) (visit : Visit) (next : IsNext progress agent visit) (early : visit.entry < most_path_cells)
    (end : ℕ) (inside : end ≤ length turns) (before : (p : ℕ) (turn : Turn) → p < end → slice_get turns p ≡ Some turn → turn.key < key_of visit) (behind : (p : ℕ) (turn : Turn) → end ≤ p → slice_get turns p ≡ Some turn → key_of visit ≤ turn.key) where
  abbrev from : ℕ
  from = visit.cell * most_path_cells

  turn_at : (p : ℕ) (turn : Turn) → slice_get turns p ≡ Some turn → (v : Visit) × IsTurnOf progress.visits turn v
  turn_at p turn is = sorted.complete.each turn (p, slice_get_within turns p turn is, get_or_from_slice_get turns p turn turn is)

  -- a turn whose key lies before the visit's, but not before its cell's, is of this cell
  of_cell : (turn : Turn) (v : Visit) → IsTurnOf progress.visits turn v → from ≤ turn.key → turn.key < key_of visit → (v.cell ≡ visit.cell) × (v.entry < visit.entry)
  of_cell turn v (is, key, small) low high = let same : v.cell ≡ visit.cell = omega arith in (same, omega arith)

  -- so its agent is awaited, where the turn is due
  due_awaited : (p : ℕ) (turn : Turn) → p < end → slice_get turns p ≡ Some turn → IsDue progress turn from → IsAwaited progress agent visit turn.agent
  due_awaited p turn below is due =
      let (v, turn_is) = turn_at p turn is in
      let (cell, entry) = of_cell turn v turn_is due.0 (before p turn below is) in
      (λ own. own_turn turn v turn_is.0 own cell entry due.1, turn.number, v, turn_is.0, cell, entry, due.1)
    where
      own_turn : (turn : Turn) (v : Visit) → IsVisit progress.visits turn.agent turn.number v → turn.agent ≡ agent → v.cell ≡ visit.cell → v.entry < visit.entry → (IsLeft progress turn.agent turn.number → ⊥) → ⊥
      own_turn turn v (own, own_is, v_is) same cell entry not_left =
          let (current, current_is, (list, list_is, visit_is)) = next in
          let one : own ≡ list = same_Some own list (sym own_is ∙ ap (slice_get progress.visits) same ∙ list_is) in
          let here : slice_get list turn.number ≡ Some v = subst (λ (o : List Visit). slice_get o turn.number ≡ Some v) one v_is in
          let (path, path_is, are) = path_of of_valid.plan progress.visits of_valid.reached.visits agent list list_is in
          ⊎_elim
          (λ (past : turn.number < current). not_left (current, ap (slice_get progress.numbers) same ∙ current_is, past))
          (λ (late : current ≤ turn.number). ⊎_elim
          (λ (after : current < turn.number). ⊎_elim
          (λ (more : current + 1 < turn.number). let e = are.rising (current + 1) turn.number visit v more visit_is here in omega arith)
          (λ (last : turn.number ≤ current + 1).
          let place : turn.number ≡ current + 1 = omega arith in
          let e = ap (λ (w : Visit). w.entry) (same_Some v visit (sym here ∙ ap (slice_get list) place ∙ visit_is)) in omega arith)
          (cases_lt (current + 1) turn.number))
          (λ (now : turn.number ≤ current).
          let place : turn.number ≡ current = omega arith in
          next_differs path list are current v visit (ap (slice_get list) (sym place) ∙ here) visit_is cell)
          (cases_lt current turn.number))
          (cases_lt turn.number current)

  -- and an agent that is awaited has a due turn before the visit's
  awaited_due : (other : ℕ) → IsAwaited progress agent visit other → (p : ℕ) × (turn : Turn) × (p < end) × (slice_get turns p ≡ Some turn) × (turn.agent ≡ other) × IsDue progress turn from
  awaited_due other (differ, number, earlier, earlier_is, cell, entry, not_left) =
      let turn : Turn = record { key = key_of earlier; agent = other; number = number } in
      let (p, within, same) = sorted.complete.all other number earlier earlier_is in
      let is : slice_get turns p ≡ Some turn = slice_get-get_or turns p turn within ∙ ap Some same in
      let less : key_of earlier < key_of visit = omega arith in
      let low : from ≤ key_of earlier = omega arith in
      (p, turn, ⊎_elim (λ (below : p < end). below) (λ (past : end ≤ p). absurd (let high = behind p turn past is in omega arith)) (cases_lt p end), is, refl, (low, not_left))

  -- below a turn that isn't due none is
  none_below : (q : ℕ) (turn : Turn) → q < end → slice_get turns q ≡ Some turn → (IsDue progress turn from → ⊥) → (p : ℕ) (other : Turn) → p < q → slice_get turns p ≡ Some other → IsDue progress other from → ⊥
  none_below q turn below is not_due p other less other_is due =
      let rising = keys_rise p q other turn less other_is is in
      let high = before q turn below is in
      let low : from ≤ turn.key = (let first = due.0 in omega arith) in
      let (v, v_turn) = turn_at q turn is in
      let (w, w_turn) = turn_at p other other_is in
      let v_of = of_cell turn v v_turn low high in
      let w_of = of_cell other w w_turn due.0 (omega arith) in
      let in_order : w.entry ≤ v.entry = (let a = v_turn.1 in let b = w_turn.1 in let c = v_of.0 in let d = w_of.0 in omega arith) in
      let left = left_of turn v v_turn low not_due in
      let begun : turn.number ≤ left.0 = (let past = left.2 in omega arith) in
      ⊎_elim
      (λ (same : other.agent ≡ turn.agent). due.1 (own_left other turn w v w_turn.0 v_turn.0 same in_order left))
      (λ (differ : other.agent ≢ turn.agent). ⊎_elim
      (λ (first : w.entry < v.entry). due.1 ((of_valid_progress progress of_valid).1 turn.agent other.agent turn.number other.number v w (λ e. differ (sym e)) v_turn.0 (left.0, left.1, begun) w_turn.0 (w_of.0 ∙ sym v_of.0) first))
      (λ (last : v.entry ≤ w.entry). let tie : w.entry ≡ v.entry = omega arith in meet other.agent turn.agent other.number turn.number w v differ w_turn.0 v_turn.0 (w_of.0 ∙ sym v_of.0) tie)
      (cases_lt w.entry v.entry))
      (cases_eq other.agent turn.agent)
    where
      keys_rise : (p q : ℕ) (a b : Turn) → p < q → slice_get turns p ≡ Some a → slice_get turns q ≡ Some b → a.key ≤ b.key
      keys_rise p q a b less a_is b_is =
          let high = sorted.sorted p q a (omega arith) (slice_get_within turns q b b_is) in
          subst (λ (t : Turn). a.key ≤ t.key) (get_or_from_slice_get turns q b a b_is) (subst (λ (t : Turn). t.key ≤ (get_or turns q a).key) (get_or_from_slice_get turns p a a a_is) high)

      left_of : (turn : Turn) (v : Visit) → IsTurnOf progress.visits turn v → from ≤ turn.key → (IsDue progress turn from → ⊥) → IsLeft progress turn.agent turn.number
      left_of turn v turn_is low not_due =
          let (current, current_is) = slice_get_inside progress.numbers turn.agent (turn_within progress turn (of_valid_progress progress of_valid).0 (v, turn_is)) in
          ⊎_elim
          (λ (past : turn.number < current). (current, current_is, past))
          (λ (here : current ≤ turn.number). absurd (not_due ((due_tests progress turn from current current_is low).0 here)))
          (cases_lt turn.number current)

      own_left : (a b : Turn) (x y : Visit) → IsVisit progress.visits a.agent a.number x → IsVisit progress.visits b.agent b.number y → a.agent ≡ b.agent → x.entry ≤ y.entry → IsLeft progress b.agent b.number → IsLeft progress a.agent a.number
      own_left a b x y (own, own_is, x_is) (list, list_is, y_is) same low (current, current_is, past) =
          let one : own ≡ list = same_Some own list (sym own_is ∙ ap (slice_get progress.visits) same ∙ list_is) in
          let here : slice_get list a.number ≡ Some x = subst (λ (o : List Visit). slice_get o a.number ≡ Some x) one x_is in
          let (path, path_is, are) = path_of of_valid.plan progress.visits of_valid.reached.visits b.agent list list_is in (
            current,
            ap (slice_get progress.numbers) same ∙ current_is,
            ⊎_elim
                (λ (more : b.number < a.number). absurd (let e = are.rising b.number a.number y x more y_is here in omega arith))
                (λ (less_or : a.number ≤ b.number). let result : a.number < current = omega arith in result)
                (cases_lt b.number a.number),
          )

      meet : (i j m n : ℕ) (x y : Visit) → i ≢ j → IsVisit progress.visits i m x → IsVisit progress.visits j n y → x.cell ≡ y.cell → x.entry ≡ y.entry → ⊥
      meet i j m n x y differ (own, own_is, x_is) (list, list_is, y_is) cell tie =
          let (p, p_is, p_are) = path_of of_valid.plan progress.visits of_valid.reached.visits i own own_is in
          let (q, q_is, q_are) = path_of of_valid.plan progress.visits of_valid.reached.visits j list list_is in
          of_valid.valid.apart i j x.entry p q differ p_is q_is (inl (sym (p_are.entered m x x_is).1 ∙ cell ∙ (q_are.entered n y y_is).1 ∙ ap (at q) (sym tie)))

  -- the least agent of the due turns is the least that is awaited
  pub scanned_least : (place : ℕ) (least : Option ℕ) → IsScanned progress turns from place end least → ((p : ℕ) (turn : Turn) → p < place → slice_get turns p ≡ Some turn → IsDue progress turn from → ⊥) → IsLeastAwaited progress agent visit least
  scanned_least place None scanned none = λ other awaited.
      let (p, turn, below, is, agent_is, due) = awaited_due other awaited in
      let all = scanned.is_least in
      none p turn (omega arith) is due
  scanned_least place (Some least) scanned none =
      let ((p, turn, low, below, is, agent_is), least_is) = scanned.is_least in (
        subst (λ a. IsAwaited progress agent visit a) agent_is (due_awaited p turn below is (scanned.due p turn low below is)),
        λ other awaited.
            let (q, due_turn, q_below, q_is, q_agent, due) = awaited_due other awaited in
            ⊎_elim
            (λ (under : q < place). absurd (none q due_turn under q_is due))
            (λ (over : place ≤ q). let e = least_is q due_turn over q_below q_is in omega arith)
            (cases_lt q place),
      )

  pub stopped_least : (place : ℕ) (least : Option ℕ) (turn : Turn) → IsScanned progress turns from place end least → 1 ≤ place → slice_get turns (place - 1) ≡ Some turn → (IsDue progress turn from → ⊥) → IsLeastAwaited progress agent visit least
  stopped_least place least turn scanned some is not_due = scanned_least place least scanned (λ p other below other_is due.
      let within = scanned.within in
      ⊎_elim
      (λ (less : p < place - 1). none_below (place - 1) turn (omega arith) is not_due p other less other_is due)
      (λ (last : place - 1 ≤ p).
      let same : p ≡ place - 1 = omega arith in
      let one : other ≡ turn = same_Some other turn (sym other_is ∙ ap (slice_get turns) same ∙ is) in
      not_due (subst (λ t. IsDue progress t from) one due))
      (cases_lt p (place - 1)))

-- one due turn more
pub scanned_more : (progress : Progress) (turns : List Turn) (from place end : ℕ) (least : Option ℕ) (turn : Turn) (lesser : ℕ) → IsScanned progress turns from place end least → 1 ≤ place → slice_get turns (place - 1) ≡ Some turn → IsDue progress turn from →
    MatchOption least (lesser ≡ turn.agent) (λ other. lesser ≡ min other turn.agent) → IsScanned progress turns from (place - 1) end (Some lesser)
scanned_more progress turns from place end least turn lesser scanned some is due lesser_is = record {
  within = let w = scanned.within in omega arith;
  inside = scanned.inside;
  due = λ p other low below other_is. ⊎_elim
      (λ (under : p < place).
      let same : p ≡ place - 1 = omega arith in
      subst (λ t. IsDue progress t from) (same_Some turn other (sym is ∙ ap (slice_get turns) (sym same) ∙ other_is)) due)
      (λ (over : place ≤ p). scanned.due p other over below other_is)
      (cases_lt p place);
  is_least = by least scanned.is_least lesser_is;
}
  where
    by : (l : Option ℕ) → IsLeastOf turns place end l → MatchOption l (lesser ≡ turn.agent) (λ other. lesser ≡ min other turn.agent) → IsLeastOf turns (place - 1) end (Some lesser)
    by None all one = (
      (place - 1, turn, omega arith, omega arith, is, sym one),
      λ p other low below other_is.
          let same : p ≡ place - 1 = omega arith in
          let e = ap (λ (t : Turn). t.agent) (same_Some turn other (sym is ∙ ap (slice_get turns) (sym same) ∙ other_is)) in
          omega arith,
    )
    by (Some before) ((p, first, low, below, first_is, agent_is), all) less = (
      ⊎_elim
          (λ (old : before ≤ turn.agent). (p, first, omega arith, below, first_is, let e : first.agent ≡ lesser = omega arith in e))
          (λ (new : turn.agent < before). (place - 1, turn, omega arith, omega arith, is, let e : turn.agent ≡ lesser = omega arith in e))
          (⊎_swap (cases_lt turn.agent before)),
      λ q other q_low q_below other_is. ⊎_elim
          (λ (under : q < place).
          let same : q ≡ place - 1 = omega arith in
          let e = ap (λ (t : Turn). t.agent) (same_Some turn other (sym is ∙ ap (slice_get turns) (sym same) ∙ other_is)) in
          omega arith)
          (λ (over : place ≤ q). let e = all q other over q_below other_is in omega arith)
          (cases_lt q place),
    )

-- the visit in which an agent is
pub current_visit : (progress : Progress) → IsProgress progress → (agent number : ℕ) → slice_get progress.numbers agent ≡ Some number → (own : List Visit) → slice_get progress.visits agent ≡ Some own → (visit : Visit) × IsIn progress agent visit × (number < length own)
current_visit progress is_progress agent number is own own_is =
    let (visit, (list, list_is, visit_is)) = is_progress.each agent number is in
    let same : list ≡ own = same_Some list own (sym list_is ∙ own_is) in
    (visit, (number, is, (list, list_is, visit_is)), subst (λ (o : List Visit). number < length o) same (slice_get_within list number visit visit_is))

-- an agent that may go on reaches what agents that follow a valid plan may reach
pub advanced_valid : (before after : Progress) (agent : ℕ) (visit : Visit) → IsOfValidPlan before → Advances before agent after → IsNext before agent visit → ((other : ℕ) → IsAwaited before agent visit other → ⊥) → IsOfValidPlan after
advanced_valid before after agent visit of_valid advances next none = record {
  problem = of_valid.problem;
  plan = of_valid.plan;
  valid = of_valid.valid;
  reached = reached_after of_valid.problem of_valid.plan before after agent (Go visit.cell) of_valid.valid of_valid.reached (advances, visit, next, refl, none);
}

pub visits_within : (progress : Progress) (visits : List (List Visit)) → IsOfValidPlan progress → visits ≡ progress.visits → (agent number : ℕ) → slice_get progress.numbers agent ≡ Some number → agent < length visits
visits_within progress visits of_valid same agent number is =
    let count = (of_valid_progress progress of_valid).0.count in
    let within = slice_get_within progress.numbers agent number is in
    let size = ap length same in
    omega arith

pub own_visits : (progress : Progress) (visits : List (List Visit)) → visits ≡ progress.visits → (agent : ℕ) (own : List Visit) → agent < length visits → own ≡ get_or visits agent own → slice_get progress.visits agent ≡ Some own
own_visits progress visits same agent own within is = ap (λ vs. slice_get vs agent) (sym same) ∙ slice_get_read visits (length visits) agent own refl within is

-- the visit after the one that an agent is in, where it has one
pub next_is : (progress : Progress) (agent number : ℕ) (own : List Visit) (visit : Visit) → slice_get progress.numbers agent ≡ Some number → slice_get progress.visits agent ≡ Some own → number + 1 < length own → visit ≡ get_or own (number + 1) visit → IsNext progress agent visit
next_is progress agent number own visit is own_is within visit_is = (number, is, (own, own_is, slice_get_read own (length own) (number + 1) visit refl within visit_is))

pub next_none : (progress : Progress) (agent number : ℕ) (own : List Visit) → slice_get progress.numbers agent ≡ Some number → slice_get progress.visits agent ≡ Some own → length own ≤ number + 1 → (visit : Visit) → IsNext progress agent visit → ⊥
next_none progress agent number own is own_is past visit (n, n_is, (list, list_is, visit_is)) =
    let same : n ≡ number = same_Some n number (sym n_is ∙ is) in
    let one : list ≡ own = same_Some list own (sym list_is ∙ own_is) in
    let within = slice_get_within list (n + 1) visit visit_is in
    let size = ap length one in
    omega arith
