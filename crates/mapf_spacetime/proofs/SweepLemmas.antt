-- The properties of a sweep are preserved when it goes on.
use Rattle.std.proofs.Common.{◌≡◌, ◌≢◌, ◌⊎◌, inl, inr, ⊎_elim, true, ℕ, ◌+◌, ◌-◌, ◌*◌, ◌/◌, ◌%◌, ◌<◌, ◌≤◌, List, [], ◌∷◌, ◌++◌, AllPairs, Contains, length, slice_index_or, refl, sym, ap, subst, ◌∙◌, arith, length-append}
use Rattle.std.proofs.Math.Logic.{⊎_map}
use Rattle.std.proofs.lemmas.Bool.{cases_lt, cases_eq}
use Rattle.std.proofs.lemmas.List.{get_or_append_left, get_or_default, get_or_past}
use Rattle.std.proofs.lemmas.Nat.Bits.{bit_at-zero}
use Rattle.std.specs.Int.{bit_at}
use Rattle.std.proofs.Math.Seq.{get_or-append_right}
use Rattle.std.proofs.lemmas.List.Elements.{Contains-append_left, Contains-append_right, Contains-append_cases, Contains-push, Contains-push_cases, Contains-get_or}
use Rattle.mapf_model.proofs.ContainsLemmas.{Contains-none}
use Rattle.mapf_spacetime.specs.CellSets.{HasNumber, HasNone}
use Rattle.mapf_model.specs.declared.state.State.{State}
use Rattle.mapf_spacetime.specs.States.{IsEntered}
use Rattle.mapf_model.specs.States.{IsEarlier}
use Rattle.mapf_spacetime.specs.Sweeps.{Sweeping, IsFrom, SomeIsPast, AreReached, IsSweep, AreNext, IsNoted, IsExtended, AreStatesAt, IsWhole, MeetsGoal}
use Rattle.mapf_spacetime.proofs.SweepInvariants.{AreTaken}
use Rattle.mapf_spacetime.specs.Task.{Task, IsValue, IsWithin, IsPast, IsBarredLater, MayRestFrom, state_at, start_of}
use Rattle.mapf_spacetime.proofs.SweptLemmas.{one_held}
use Rattle.mapf_spacetime.proofs.ValueLemmas.{at_goal}

-- two rising lists, each state of the first of which precedes those of the second, make one
pub rising_append : (xs ys : List State) → AllPairs IsEarlier xs → AllPairs IsEarlier ys → ((a b : State) → Contains xs a → Contains ys b → IsEarlier a b) → AllPairs IsEarlier (xs ++ ys)
rising_append xs ys left right cross i j d less inside =
    let n = length-append xs ys in
    ⊎_elim
    (λ (first : j < length xs).
    rw (get_or_append_left xs ys d i (omega arith), get_or_append_left xs ys d j first) (left i j d less first))
    (λ (second : length xs ≤ j).
    let j_in : j - length xs < length ys = omega arith in
    ⊎_elim
    (λ (before : i < length xs).
    rw (get_or_append_left xs ys d i before, get_or-append_right xs ys j d second) (cross (slice_index_or xs i d) (slice_index_or ys (j - length xs) d) (Contains-get_or xs i d before) (Contains-get_or ys (j - length xs) d j_in)))
    (λ (after : length xs ≤ i).
    rw (get_or-append_right xs ys i d after, get_or-append_right xs ys j d second) (right (i - length xs) (j - length xs) d (omega arith) j_in))
    (cases_lt i (length xs)))
    (cases_lt j (length xs))

pub extended_self : (sweep : Sweeping) → IsExtended sweep sweep
extended_self sweep = record { states = refl; bound = refl; next_cells = λ cell held. held; cut = λ cut. cut; room = refl; first = refl; tick = refl }

pub extended_trans : (a b c : Sweeping) → IsExtended a b → IsExtended b c → IsExtended a c
extended_trans a b c p q = record {
  states = q.states ∙ p.states;
  bound = q.bound ∙ p.bound;
  next_cells = λ cell held. q.next_cells cell (p.next_cells cell held);
  cut = λ cut. q.cut (p.cut cut);
  room = q.room ∙ p.room;
  first = q.first ∙ p.first;
  tick = q.tick ∙ p.tick;
}

-- what was noted stays noted
pub noted_kept : (task : Task) (old new : Sweeping) → IsExtended old new → (from : State) (to : ℕ) → IsNoted task old from to → IsNoted task new from to
noted_kept task old new e from to noted may = ⊎_map (e.next_cells to)
    (⊎_map (λ (cut, past). (e.cut cut, subst (λ bound. IsPast task bound (state_at to (from.tick + 1))) (sym e.bound) past)) (λ none. none))
    (noted may)

-- a cell is noted
pub next_with : (task : Task) (old new : Sweeping) (from : State) (to : ℕ) → AreNext task from.tick old → new.states ≡ old.states → new.bound ≡ old.bound → new.is_cut ≡ old.is_cut →
    ((cell : ℕ) → HasNumber new.next_cells cell → HasNumber old.next_cells cell ⊎ (cell ≡ to)) →
    IsEntered task old.states (state_at to (from.tick + 1)) → IsWithin task old.bound (state_at to (from.tick + 1)) → AreNext task from.tick new
next_with task old new from to next states bound cut only entered within = record {
  entered = λ cell held. subst (λ l. IsEntered task l (state_at cell (from.tick + 1))) (sym states) (⊎_elim
      (λ there. next.entered cell there)
      (λ same. subst (λ n. IsEntered task old.states (state_at n (from.tick + 1))) (sym same) entered)
      (only cell held));
  within = λ cell held. subst (λ b. IsWithin task b (state_at cell (from.tick + 1))) (sym bound) (⊎_elim
      (λ there. next.within cell there)
      (λ same. subst (λ n. IsWithin task old.bound (state_at n (from.tick + 1))) (sym same) within)
      (only cell held));
  cut = λ is. subst (λ b. SomeIsPast task b new.states) (sym bound) (subst (λ l. SomeIsPast task old.bound l) (sym states) (next.cut (sym cut ∙ is)));
}

-- a state is left out
pub next_cut : (task : Task) (old : Sweeping) (from : State) (to : ℕ) → AreNext task from.tick old → IsEntered task old.states (state_at to (from.tick + 1)) → IsPast task old.bound (state_at to (from.tick + 1)) → AreNext task from.tick (record old { is_cut = true })
next_cut task old from to next entered past = record {
  entered = next.entered;
  within = next.within;
  cut = λ is. (state_at to (from.tick + 1), entered, past);
}

-- the sweep that is extended by the steps of a tick
module _ (task : Task) (tick first : ℕ) (old new : Sweeping) (w : IsSweep task tick first old) (e : IsExtended old new) (next : AreNext task tick new)
    (noted : (k : ℕ) → first ≤ k → k < length old.states → (to : ℕ) → IsNoted task new (slice_index_or old.states k (start_of task)) to) where
  -- a state is at an earlier tick, or its steps are noted
  step_of : (s : State) → Contains old.states s → (s.tick < tick) ⊎ ((s.tick ≡ tick) × ((to : ℕ) → IsNoted task new s to))
  step_of s (k, inside, is) =
      let at : slice_index_or old.states k (start_of task) ≡ s = get_or_default old.states k (start_of task) s inside ∙ is in
      ⊎_elim
      (λ (less : k < first). inl (subst (λ (t : State). t.tick < tick) at (w.before k less)))
      (λ (more : first ≤ k). inr (subst (λ (t : State). t.tick ≡ tick) at (w.here k more inside), subst (λ t. (to : ℕ) → IsNoted task new t to) at (noted k more inside)))
      (cases_lt k first)

  -- each state of the sweep is at this tick or an earlier one
  tick_of : (s : State) → Contains old.states s → s.tick ≤ tick
  tick_of s held = ⊎_elim (λ early. omega arith) (λ (same, steps). omega arith) (step_of s held)

  -- if the agent arrives one tick later
  pub meets : HasNumber new.next_cells task.goal → MayRestFrom task (tick + 1) → MeetsGoal task (tick + 1) new
  meets goal rest =
      let (value, is, le) = next.within task.goal goal in
      let at = at_goal task (state_at task.goal (tick + 1)) value is refl in
      let reached = subst (λ l. AreReached task old.bound l) (sym e.states) w.reached in
      record {
        reached = subst (λ b. AreReached task b new.states) (sym e.bound) reached;
        quiet = λ t less held. w.quiet t (subst (λ l. Contains l (state_at task.goal t)) e.states held);
        followed = λ s held below to may. (let there = subst (λ l. Contains l s) e.states held in ⊎_elim
            (λ (early : s.tick < tick). ⊎_map (subst (λ l. Contains l (state_at to (s.tick + 1))) (sym e.states))
            (⊎_map (λ (cut, (past, past_is, more)). (past, past_is, (let bound = e.bound in omega arith))) (λ none. none))
            (w.followed s there early to may))
            (λ (now, steps). ⊎_elim
            (λ noted. let (v, v_is, v_le) = next.within to noted in
            let same : state_at to (tick + 1) ≡ state_at to (s.tick + 1) = ap (λ n. state_at to (n + 1)) (sym now) in
            inr (inl (subst (IsFrom task (tick + 1)) same (v, v_is, (let sum = v_is.sum in omega arith)))))
            (λ other. inr (⊎_map (λ (cut, (past, past_is, more)). (past, past_is, omega arith)) (λ none. none) other))
            (steps to may))
            (step_of s there));
        arrival = inr (next.entered task.goal goal);
        is_value = subst (IsValue task (state_at task.goal (tick + 1))) (sym at) is;
        rest = rest;
        within = omega arith;
      }

  -- the next cells are reached
  module _ (after : Sweeping) (added : List State) (at : AreStatesAt (tick + 1) new.next_cells added) (states : after.states ≡ new.states ++ added) (bound : after.bound ≡ new.bound)
      (cut : after.is_cut ≡ new.is_cut) (quiet : HasNumber new.next_cells task.goal → IsBarredLater task (tick + 1)) where
    all : List State
    all = old.states ++ added

    same_states : after.states ≡ old.states ++ added
    same_states = states ∙ ap (λ l. l ++ added) e.states

    same_bound : after.bound ≡ old.bound
    same_bound = bound ∙ e.bound

    old_held : (s : State) → Contains old.states s → Contains after.states s
    old_held s held = subst (λ l. Contains l s) (sym same_states) (Contains-append_left old.states added s held)

    new_held : (s : State) → Contains added s → Contains after.states s
    new_held s held = subst (λ l. Contains l s) (sym same_states) (Contains-append_right old.states added s held)

    cases : (s : State) → Contains after.states s → Contains old.states s ⊎ Contains added s
    cases s held = Contains-append_cases old.states added s (subst (λ l. Contains l s) same_states held)

    entered_after : (s : State) → IsEntered task old.states s → IsEntered task after.states s
    entered_after s (from, held, goes) = (from, old_held from held, goes)

    same_state : (s : State) → s.tick ≡ tick + 1 → state_at s.cell (tick + 1) ≡ s
    same_state s is = λ i. record { tick = sym is i; cell = s.cell }

    rises : AllPairs IsEarlier after.states
    rises = subst (AllPairs IsEarlier) (sym same_states) (rising_append old.states added w.reached.rising at.rising
        (λ a b a_held b_held. inl (let le = tick_of a a_held in let is = (at.each b b_held).0 in omega arith)))

    pub next_sweep : IsSweep task (tick + 1) (length old.states) after
    next_sweep = record {
      reached = record {
        start = old_held (start_of task) w.reached.start;
        within = λ s held. subst (λ b. IsWithin task b s) (sym same_bound) (⊎_elim
            (λ o. w.reached.within s o)
            (λ a. let (is, cell) = at.each s a in subst (λ b. IsWithin task b s) e.bound (subst (IsWithin task new.bound) (same_state s is) (next.within s.cell cell)))
            (cases s held));
        entered = λ s held. ⊎_elim
            (λ o. ⊎_elim (λ is. inl is) (λ entered. inr (entered_after s entered)) (w.reached.entered s o))
            (λ a. let (is, cell) = at.each s a in inr (entered_after s (subst (λ l. IsEntered task l s) e.states (subst (IsEntered task new.states) (same_state s is) (next.entered s.cell cell)))))
            (cases s held);
        rising = rises;
      };
      before = λ k less. (let there : slice_index_or after.states k (start_of task) ≡ slice_index_or old.states k (start_of task) = ap (λ l. slice_index_or l k (start_of task)) same_states ∙ get_or_append_left old.states added (start_of task) k less in
          let le = tick_of (slice_index_or old.states k (start_of task)) (Contains-get_or old.states k (start_of task) less) in
          let same = ap (λ (s : State). s.tick) there in
          omega arith);
      here = λ k le inside. (let n = ap length same_states in let m = length-append old.states added in
          let short : k - length old.states < length added = omega arith in
          let there : slice_index_or after.states k (start_of task) ≡ slice_index_or added (k - length old.states) (start_of task) = ap (λ l. slice_index_or l k (start_of task)) same_states ∙ get_or-append_right old.states added k (start_of task) le in
          ap (λ (s : State). s.tick) there ∙ (at.each (slice_index_or added (k - length old.states) (start_of task)) (Contains-get_or added (k - length old.states) (start_of task) short)).0);
      split = (let n = ap length same_states in let m = length-append old.states added in omega arith);
      quiet = λ t held. ⊎_elim
          (λ o. w.quiet t o)
          (λ a. let (is, cell) = at.each (state_at task.goal t) a in subst (IsBarredLater task) (sym is) (quiet cell))
          (cases (state_at task.goal t) held);
      followed = λ s held less to may. ⊎_elim
          (λ o. ⊎_elim
          (λ (early : s.tick < tick). ⊎_map (old_held (state_at to (s.tick + 1)))
          (⊎_map (λ (was, past). (cut ∙ e.cut was, subst (λ b. IsPast task b (state_at to (s.tick + 1))) (sym same_bound) past)) (λ none. none))
          (w.followed s o early to may))
          (λ (now, steps). ⊎_map
          (λ noted. subst (λ n. Contains after.states (state_at to (n + 1))) (sym now) (new_held (state_at to (tick + 1)) (at.all to noted)))
          (⊎_map (λ (was, past). (cut ∙ was, subst (λ b. IsPast task b (state_at to (s.tick + 1))) (sym bound) past)) (λ none. none))
          (steps to may))
          (step_of s o))
          (λ a. absurd (let is = (at.each s a).0 in omega arith))
          (cases s held);
      cut = λ is. (let (s, entered, past) = next.cut (sym cut ∙ is) in
          (s, entered_after s (subst (λ l. IsEntered task l s) e.states entered), subst (λ b. IsPast task b s) (sym bound) past));
    }

-- a sweep whose last tick has no states is whole
pub whole : (task : Task) (tick first : ℕ) (sweep : Sweeping) → IsSweep task tick first sweep → length sweep.states ≤ first → IsWhole task sweep
whole task tick first sweep w none = record {
  reached = w.reached;
  quiet = w.quiet;
  followed = λ s (k, inside, is) to. (
      let at : slice_index_or sweep.states k (start_of task) ≡ s = get_or_default sweep.states k (start_of task) s inside ∙ is in
      w.followed s (k, inside, is) (subst (λ (t : State). t.tick < tick) at (w.before k (omega arith))) to);
  cut = w.cut;
}

-- a state that is read while the steps of a tick are followed
pub read_state : (task : Task) (old now : Sweeping) → IsExtended old now → (items : List State) (k : ℕ) (read : State) → items ≡ now.states → k < length old.states → read ≡ slice_index_or items k read → read ≡ slice_index_or old.states k (start_of task)
read_state task old now e items k read same inside is = is ∙ ap (λ l. slice_index_or l k read) (same ∙ e.states) ∙ get_or_default old.states k read (start_of task) inside

-- no cell is taken yet
pub none_taken : (tick : ℕ) (cells : List ℕ) → AreTaken tick cells cells []
none_taken tick cells = record {
  each = λ s held. absurd (Contains-none s held);
  left = λ cell held. held;
  all = λ cell held. inl held;
  later = λ s cell held there. absurd (Contains-none s held);
  count = λ cell held. omega arith;
  rising = λ i j d less inside. absurd (omega arith);
}

-- the least cell is taken
pub one_taken : (tick : ℕ) (cells rest left : List ℕ) (states : List State) (cell : ℕ) → AreTaken tick cells rest states → HasNumber rest cell → ((other : ℕ) → HasNumber rest other → cell ≤ other) →
    ((other : ℕ) → HasNumber rest other → other ≢ cell → HasNumber left other) → ((other : ℕ) → HasNumber left other → HasNumber rest other × (other ≢ cell)) → AreTaken tick cells left (states ++ state_at cell tick ∷ [])
one_taken tick cells rest left states cell t here least kept only =
    let taken = state_at cell tick in
    let after : (other : ℕ) → HasNumber left other → cell < other = λ other held. (let (there, apart) = only other held in let le = least other there in omega arith) in
    record {
      each = λ s held. ⊎_elim
          (λ old. t.each s old)
          (λ same. (sym (ap (λ (x : State). x.tick) same), subst (HasNumber cells) (ap (λ (x : State). x.cell) same) (t.left cell here)))
          (Contains-push_cases states taken s held);
      left = λ other held. t.left other (only other held).0;
      all = λ other held. ⊎_elim
          (λ there. ⊎_elim
          (λ (same : other ≡ cell). inr (subst (λ n. Contains (states ++ taken ∷ []) (state_at n tick)) (sym same) (Contains-push states taken)))
          (λ apart. inl (kept other there apart))
          (cases_eq other cell))
          (λ old. inr (Contains-append_left states (taken ∷ []) (state_at other tick) old))
          (t.all other held);
      later = λ s other held there. ⊎_elim
          (λ old. t.later s other old (only other there).0)
          (λ same. (let cells_same = ap (λ (x : State). x.cell) same in let less = after other there in omega arith))
          (Contains-push_cases states taken s held);
      count = λ other held. (let n = length-append states (taken ∷ []) in let less = after other held in let le = t.count cell here in omega arith);
      rising = rising_append states (taken ∷ []) t.rising (λ i j d less inside. absurd (omega arith))
          (λ a b a_held b_held. (let same = one_held taken b b_held in
          let ticks = ap (λ (x : State). x.tick) same in let cells_same = ap (λ (x : State). x.cell) same in
          let (a_tick, a_cell) = t.each a a_held in
          let less = t.later a cell a_held here in
          inr (a_tick ∙ ticks, omega arith)));
    }

-- all cells are taken
pub all_taken : (tick : ℕ) (cells rest : List ℕ) (states : List State) → AreTaken tick cells rest states → HasNone rest → AreStatesAt tick cells states
all_taken tick cells rest states t none = record {
  each = t.each;
  all = λ cell held. ⊎_elim (λ left. absurd (none cell left)) (λ there. there) (t.all cell held);
  rising = t.rising;
}

-- a cell of a set is one of those for which it has room
pub has_room : (words : List ℕ) (cell : ℕ) → HasNumber words cell → cell < 64 * length words
has_room words cell held = ⊎_elim
    (λ (inside : cell / 64 < length words). omega arith)
    (λ (outside : length words ≤ cell / 64).
    let zero = ap (λ n. bit_at n (cell % 64)) (get_or_past words (cell / 64) 0 outside) ∙ bit_at-zero (cell % 64) in absurd (omega arith))
    (cases_lt (cell / 64) (length words))

-- which states a sweep has reached doesn't depend on its tick
pub meets_then : (task : Task) (cost tick : ℕ) (sweep : Sweeping) → MeetsGoal task cost sweep → MeetsGoal task cost (record sweep { tick = tick })
meets_then task cost tick sweep m = assumption

-- an agent that rests at its start
pub meets_at_start : (task : Task) (sweep : Sweeping) → sweep.states ≡ start_of task ∷ [] → IsWithin task sweep.bound (start_of task) → task.start ≡ task.goal → MayRestFrom task 0 → MeetsGoal task 0 sweep
meets_at_start task sweep states within at rest =
    let one : (s : State) → Contains sweep.states s → start_of task ≡ s = λ s held. one_held (start_of task) s (subst (λ l. Contains l s) states held) in
    let single : length sweep.states ≡ 1 = ap length states in
    let same : start_of task ≡ state_at task.goal 0 = ap (λ c. state_at c 0) at in
    let (value, is, le) = within in
    let there = subst (λ s. IsValue task s value) same is in
    let none = at_goal task (state_at task.goal 0) value there refl in
    record {
      reached = record {
        start = subst (λ l. Contains l (start_of task)) (sym states) (0, omega arith, refl);
        within = λ s held. subst (IsWithin task sweep.bound) (one s held) within;
        entered = λ s held. inl (sym (one s held));
        rising = λ i j d less inside. absurd (omega arith);
      };
      quiet = λ tick less. absurd (omega arith);
      followed = λ s held (value, is, less) to may. absurd (omega arith);
      arrival = inl (sym same);
      is_value = subst (IsValue task (state_at task.goal 0)) (sym none) there;
      rest = rest;
      within = omega arith;
    }

-- while there are states at the tick, it is at most the bound
pub last_tick : (task : Task) (tick first : ℕ) (sweep : Sweeping) → IsSweep task tick first sweep → first < length sweep.states → tick ≤ sweep.bound
last_tick task tick first sweep w some =
    let s = slice_index_or sweep.states first (start_of task) in
    let here = w.here first (omega arith) some in
    let (value, is, le) = w.reached.within s (Contains-get_or sweep.states first (start_of task) some) in
    let sum = is.sum in
    omega arith
