-- The properties of a frontier are preserved when states are added to it.
use Rattle.std.proofs.Common.{◌≡◌, ◌⊎◌, inl, inr, ⊎_elim, ℕ, ◌+◌, ◌<◌, ◌≤◌, Some, List, [], ◌∷◌, ◌++◌, length, Contains, refl, sym, ap, subst, ◌∙◌, arith, length-append}
use Rattle.std.proofs.Math.Logic.{⊎_map}
use Rattle.std.proofs.lemmas.List.{take-append-le}
use Rattle.std.proofs.lemmas.List.Elements.{Contains-append_left, Contains-push, Contains-push_cases}
use Rattle.mapf_model.specs.Labels.{MayGo}
use Rattle.mapf_model.specs.Neighbours.{neighbourhood}
use Rattle.mapf_model.proofs.StepLemmas.{step_neighbour}
use Rattle.mapf_model.specs.declared.state.State.{State}
use Rattle.mapf_spacetime.specs.Task.{Task, Goes, IsValue, IsWithin, IsPast, IsBarredLater, MayRestFrom, state_at, start_of}
use Rattle.mapf_spacetime.specs.States.{IsEntered}
use Rattle.mapf_spacetime.specs.Frontiers.{States, with_reached, with_open, with_next, with_later, low_states, IsWaiting, IsKnown, IsTaken, IsClosed, IsFrontier, Keeps, Takes}
use Rattle.mapf_spacetime.proofs.ValueLemmas.{below_within, level_within, value_free, at_goal}
use Rattle.mapf_model.proofs.ContainsLemmas.{Contains-none, Contains-cons_cases}

module _ (states : States) (new : State) where
  pub known_open : (s : State) → IsKnown states s → IsKnown (with_open states new) s
  known_open s k = ⊎_map (λ r. r) (⊎_map (Contains-append_left states.open_states (new ∷ []) s) (λ w. w)) k

  pub known_next : (s : State) → IsKnown states s → IsKnown (with_next states new) s
  known_next s k = ⊎_map (λ r. r) (⊎_map (λ o. o) (⊎_map (Contains-append_left states.next_states (new ∷ []) s) (λ l. l))) k

  pub known_later : (s : State) → IsKnown states s → IsKnown (with_later states new) s
  known_later s k = ⊎_map (λ r. r) (⊎_map (λ o. o) (⊎_map (λ n. n) (Contains-append_left states.later_states (new ∷ []) s))) k

  pub known_open_cases : (s : State) → IsKnown (with_open states new) s → IsKnown states s ⊎ (new ≡ s)
  known_open_cases s k = ⊎_elim (λ r. inl (inl r)) (λ other. ⊎_elim
      (λ o. ⊎_elim (λ old. inl (inr (inl old))) (λ same. inr same) (Contains-push_cases states.open_states new s o))
      (λ w. inl (inr (inr w)))
      other) k

  known_next_cases : (s : State) → IsKnown (with_next states new) s → IsKnown states s ⊎ (new ≡ s)
  known_next_cases s k = ⊎_elim (λ r. inl (inl r)) (λ other. ⊎_elim
      (λ o. inl (inr (inl o)))
      (λ w. ⊎_elim
      (λ n. ⊎_elim (λ old. inl (inr (inr (inl old)))) (λ same. inr same) (Contains-push_cases states.next_states new s n))
      (λ l. inl (inr (inr (inr l))))
      w)
      other) k

  known_later_cases : (s : State) → IsKnown (with_later states new) s → IsKnown states s ⊎ (new ≡ s)
  known_later_cases s k = ⊎_elim (λ r. inl (inl r)) (λ other. ⊎_elim
      (λ o. inl (inr (inl o)))
      (λ w. ⊎_elim
      (λ n. inl (inr (inr (inl n))))
      (λ l. ⊎_elim (λ old. inl (inr (inr (inr old)))) (λ same. inr same) (Contains-push_cases states.later_states new s l))
      w)
      other) k

pub IsTaken-known : (task : Task) (old new : States) → ((s : State) → IsKnown old s → IsKnown new s) → (from : State) (to : ℕ) → IsTaken task old from to → IsTaken task new from to
IsTaken-known task old new known from to taken may = ⊎_elim (λ k. inl (known (state_at to (from.tick + 1)) k)) (λ none. inr none) (taken may)

pub IsClosed-known : (task : Task) (old new : States) → ((s : State) → IsKnown old s → IsKnown new s) → (from : State) → IsClosed task old from → IsClosed task new from
IsClosed-known task old new known from closed to = IsTaken-known task old new known from to (closed to)

-- a reached state has an f-value of at most the cost
pub reached_within : (task : Task) (busy : List State) (states : States) → IsFrontier task busy states → (s : State) → Contains states.reached s → IsWithin task states.cost s
reached_within task busy states f s h = ⊎_elim (λ low. below_within task s states.cost (f.low s low)) (λ level. level_within task s states.cost level) (f.top s h)

-- a state that waits has an f-value above the cost
pub waiting_past : (task : Task) (busy : List State) (states : States) → IsFrontier task busy states → (s : State) → IsWaiting states s → IsPast task states.cost s
waiting_past task busy states f s w = ⊎_elim (λ n. (states.cost + 1, f.next s n, omega arith)) (λ l. (states.cost + 2, f.later s l, omega arith)) w

-- a state to which the agent can go is added to those that are open or wait
module _ (task : Task) (busy : List State) (states : States) (f : IsFrontier task busy states) (from to : State) (is_reached : Contains states.reached from) (goes : Goes task from to) where
  entered_by : (new : States) → ((s : State) → IsKnown new s → IsKnown states s ⊎ (to ≡ s)) → (s : State) → IsKnown new s → (s ≡ start_of task) ⊎ IsEntered task states.reached s
  entered_by new cases s k = ⊎_elim (λ old. f.entered s old) (λ same. inr (from, is_reached, subst (Goes task from) same goes)) (cases s k)

  closed_by : (new : States) → ((s : State) → IsKnown states s → IsKnown new s) → (s : State) → Contains states.reached s → Contains busy s ⊎ IsClosed task new s
  closed_by new known s h = ⊎_elim (λ b. inl b) (λ c. inr (IsClosed-known task states new known s c)) (f.closed s h)

  pushed : (value : ℕ) → IsValue task to value → (list : List State) → ((s : State) → Contains list s → IsValue task s value) → (s : State) → Contains (list ++ to ∷ []) s → IsValue task s value
  pushed value is list each s h = ⊎_elim (λ old. each s old) (λ same. subst (λ t. IsValue task t value) same is) (Contains-push_cases list to s h)

  add_open : IsValue task to states.cost → IsFrontier task busy (with_open states to)
  add_open value =
      let start = ⊎_elim {C = Contains states.reached (start_of task) ⊎ Contains (states.open_states ++ to ∷ []) (start_of task)} (λ r. inl r) (λ o. inr (Contains-append_left states.open_states (to ∷ []) (start_of task) o)) f.start in
      let level = pushed states.cost value states.open_states f.level in
      let entered = entered_by (with_open states to) (known_open_cases states to) in
      let closed = closed_by (with_open states to) (known_open states to) in
      assumption

  add_next : IsValue task to (states.cost + 1) → IsFrontier task busy (with_next states to)
  add_next value =
      let next = pushed (states.cost + 1) value states.next_states f.next in
      let entered = entered_by (with_next states to) (known_next_cases states to) in
      let closed = closed_by (with_next states to) (known_next states to) in
      assumption

  add_later : IsValue task to (states.cost + 2) → IsFrontier task busy (with_later states to)
  add_later value =
      let later = pushed (states.cost + 2) value states.later_states f.later in
      let entered = entered_by (with_later states to) (known_later_cases states to) in
      let closed = closed_by (with_later states to) (known_later states to) in
      assumption

pub Keeps-trans : (a b c : States) → Keeps a b → Keeps b c → Keeps a c
Keeps-trans a b c p q = record { reached = q.reached ∙ p.reached; cost = q.cost ∙ p.cost; below = q.below ∙ p.below; known = λ s k. q.known s (p.known s k) }

-- a step to a state that wasn't reached is taken
module _ (task : Task) (states : States) (from : State) (to : ℕ) (is_reached : Contains states.reached from) (may : MayGo task.grid task.bars from.cell to from.tick) where
  goes : Goes task from (state_at to (from.tick + 1))
  goes = record { may = may; tick = refl }

  pub take_level : IsValue task (state_at to (from.tick + 1)) states.cost → (new : States) → new ≡ with_open states (state_at to (from.tick + 1)) → Takes task from to states new
  take_level level new is =
      let next = state_at to (from.tick + 1) in
      subst (Takes task from to states) (sym is) (record {
        frontier = λ busy f. add_open task busy states f from next is_reached goes level;
        keeps = record { reached = refl; cost = refl; below = refl; known = known_open states next };
        taken = λ m. inl (inr (inl (Contains-push states.open_states next)));
      })

  pub take_next : IsValue task (state_at to (from.tick + 1)) (states.cost + 1) → (new : States) → new ≡ with_next states (state_at to (from.tick + 1)) → Takes task from to states new
  take_next value new is =
      let next = state_at to (from.tick + 1) in
      subst (Takes task from to states) (sym is) (record {
        frontier = λ busy f. add_next task busy states f from next is_reached goes value;
        keeps = record { reached = refl; cost = refl; below = refl; known = known_next states next };
        taken = λ m. inl (inr (inr (inl (Contains-push states.next_states next))));
      })

  pub take_later : IsValue task (state_at to (from.tick + 1)) (states.cost + 2) → (new : States) → new ≡ with_later states (state_at to (from.tick + 1)) → Takes task from to states new
  take_later value new is =
      let next = state_at to (from.tick + 1) in
      subst (Takes task from to states) (sym is) (record {
        frontier = λ busy f. add_later task busy states f from next is_reached goes value;
        keeps = record { reached = refl; cost = refl; below = refl; known = known_later states next };
        taken = λ m. inl (inr (inr (inr (Contains-push states.later_states next))));
      })

-- a step that leads to a known state, or to one from which the goal can't be reached, or is forbidden, changes nothing
pub take_none : (task : Task) (states : States) (from : State) (to : ℕ) → IsTaken task states from to → Takes task from to states states
take_none task states from to taken = record {
  frontier = λ busy f. f;
  keeps = record { reached = refl; cost = refl; below = refl; known = λ s known. known };
  taken = taken;
}

-- once all steps from the state were taken, they aren't to be taken any more
pub settle : (task : Task) (states : States) (from : State) (busy : List State) → IsFrontier task (from ∷ busy) states → IsClosed task states from → IsFrontier task busy states
settle task states from busy f done =
    let closed = λ (s : State) (h : Contains states.reached s). ⊎_elim {C = Contains busy s ⊎ IsClosed task states s}
    (λ waits. ⊎_elim
    (λ same. inr (subst (IsClosed task states) same done))
    (λ rest. inl rest)
    (Contains-cons_cases from s busy waits))
    (λ c. inr c)
    (f.closed s h) in
    assumption

-- that is so once the steps to all cells of the neighbourhood were taken
pub close : (task : Task) (states : States) (from : State) (busy : List State) → IsFrontier task (from ∷ busy) states → (value : ℕ) → IsValue task from value → 0 < task.grid.width →
    ((to : ℕ) → Contains (neighbourhood task.grid.width from.cell) (Some to) → IsTaken task states from to) →
    IsFrontier task busy states
close task states from busy f value is wide taken = settle task states from busy f
    (λ to may. taken to (step_neighbour task.grid from.cell wide (value_free task from value is) to may.step) may)

-- the last open state is taken
module _ (task : Task) (states : States) (state : State) (f : IsFrontier task [] (with_open states state)) where
  known_reached : (s : State) → IsKnown (with_open states state) s → IsKnown (with_reached states state) s
  known_reached s k = ⊎_elim
      (λ old. ⊎_elim (λ r. inl (Contains-append_left states.reached (state ∷ []) s r)) (λ other. inr other) old)
      (λ same. inl (subst (Contains (states.reached ++ state ∷ [])) same (Contains-push states.reached state)))
      (known_open_cases states state s k)

  known_back : (s : State) → IsKnown (with_reached states state) s → IsKnown (with_open states state) s
  known_back s k = ⊎_elim
      (λ r. ⊎_elim (λ old. inl old) (λ same. inr (inl (subst (Contains (states.open_states ++ state ∷ [])) same (Contains-push states.open_states state)))) (Contains-push_cases states.reached state s r))
      (λ other. ⊎_elim (λ o. inr (inl (Contains-append_left states.open_states (state ∷ []) s o))) (λ w. inr (inr w)) other)
      k

  pub open_value : IsValue task state states.cost
  open_value = f.level state (Contains-push states.open_states state)

  -- it is the arrival
  pub at_goal_open : state.cell ≡ task.goal → Contains (with_open states state).open_states (state_at task.goal states.cost)
  at_goal_open is =
      let tick = at_goal task state states.cost open_value is in
      let same : state ≡ state_at task.goal states.cost = λ i. record { tick = tick i; cell = is i } in
      subst (Contains (states.open_states ++ state ∷ [])) same (Contains-push states.open_states state)

  pub rest_at_cost : state.cell ≡ task.goal → MayRestFrom task state.tick → MayRestFrom task states.cost
  rest_at_cost is rest = subst (MayRestFrom task) (at_goal task state states.cost open_value is) rest

  low_same : low_states (with_reached states state) ≡ low_states states
  low_same = let bound : states.below ≤ length states.reached = f.bound in take-append-le states.below states.reached (state ∷ []) bound

  -- it is reached, and its steps are still to be taken
  pub reach_new : (state.cell ≡ task.goal → IsBarredLater task state.tick) → IsFrontier task (state ∷ []) (with_reached states state)
  reach_new no_arrival = record {
    start = ⊎_elim
        (λ r. inl (Contains-append_left states.reached (state ∷ []) (start_of task) r))
        (λ o. ⊎_elim (λ old. inr old) (λ same. inl (subst (Contains (states.reached ++ state ∷ [])) same (Contains-push states.reached state))) (Contains-push_cases states.open_states state (start_of task) o))
        f.start;
    low = λ s h. f.low s (subst (λ l. Contains l s) low_same h);
    top = λ s h. ⊎_elim
        (λ old. ⊎_elim (λ low. inl (subst (λ l. Contains l s) (sym low_same) low)) (λ level. inr level) (f.top s old))
        (λ same. inr (subst (λ t. IsValue task t states.cost) same open_value))
        (Contains-push_cases states.reached state s h);
    bound = (let bound : states.below ≤ length states.reached = f.bound in omega (arith, length-append states.reached (state ∷ [])));
    level = λ s h. f.level s (Contains-append_left states.open_states (state ∷ []) s h);
    next = f.next;
    later = f.later;
    entered = λ s k. ⊎_elim
        (λ is. inl is)
        (λ e. let (from, held, goes) = e in inr (from, Contains-append_left states.reached (state ∷ []) from held, goes))
        (f.entered s (known_back s k));
    closed = λ s h. ⊎_elim
        (λ old. ⊎_elim (λ b. absurd (Contains-none s b)) (λ c. inr (IsClosed-known task (with_open states state) (with_reached states state) known_reached s c)) (f.closed s old))
        (λ same. inl (subst (Contains (state ∷ [])) same (Contains-push [] state)))
        (Contains-push_cases states.reached state s h);
    quiet = λ tick h. ⊎_elim
        (λ old. f.quiet tick old)
        (λ same. subst (IsBarredLater task) (ap (λ s. s.tick) same) (no_arrival (ap (λ s. s.cell) same)))
        (Contains-push_cases states.reached state (state_at task.goal tick) h);
  }

  -- it was reached before
  pub reach_old : Contains states.reached state → IsFrontier task [] states
  reach_old there =
      let known : (s : State) → IsKnown (with_open states state) s → IsKnown states s = λ s k. ⊎_elim (λ old. old) (λ same. inl (subst (Contains states.reached) same there)) (known_open_cases states state s k) in
      let start = ⊎_elim {C = Contains states.reached (start_of task) ⊎ Contains states.open_states (start_of task)} (λ r. inl r) (λ o. ⊎_elim (λ old. inr old) (λ same. inl (subst (Contains states.reached) same there)) (Contains-push_cases states.open_states state (start_of task) o)) f.start in
      let level = λ (s : State) (h : Contains states.open_states s). f.level s (Contains-append_left states.open_states (state ∷ []) s h) in
      let entered = λ (s : State) (k : IsKnown states s). f.entered s (known_open states state s k) in
      let closed = λ (s : State) (h : Contains states.reached s). ⊎_elim {C = Contains [] s ⊎ IsClosed task states s} (λ b. inl b) (λ c. inr (IsClosed-known task (with_open states state) states known s c)) (f.closed s h) in
      assumption
