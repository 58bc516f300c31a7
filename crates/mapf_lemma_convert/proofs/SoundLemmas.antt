-- Sound entries of version 1 or 2 are sound in version 3, and labels are the same.
use Rattle.std.proofs.Common.{◌≡◌, ℕ, ◌+◌, List, [], ◌∷◌, Option, Some, None, Contains, refl, sym, subst, arith}
use Rattle.mapf_model.specs.declared.bar.Bar.{Bar}
use Rattle.mapf_model.specs.declared.bar.Bar.TheVariants.{Cell, Move}
use Rattle.mapf_model.specs.declared.label.Label.{Label}
use Rattle.mapf_model.specs.declared.label.Label.TheVariants.{Ticks, Never}
use Rattle.mapf_model.specs.declared.problem.Agent.{Agent}
use Rattle.mapf_model.specs.Grid.{GridMap}
use Rattle.mapf_model.specs.Labels.{Entries, IsAtMost, IsDistanceLabel, IsEntryOrDistance, IsLabel, MayGo, one_more, label_plus}
use Rattle.mapf_model.specs.Labels as old
use Rattle.mapf_lemmas.specs.declared.constraint.PathConstraint.TheVariants.{NotAt}
use Rattle.mapf_lemmas.specs.Constraints.{demanded_cost}
use Rattle.mapf_lemmas.specs.Prices.{no_list}
use Rattle.mapf_lemmas.specs.SingleLabels.{Task, Excludes, IsBarred, MayStep, IsDefault, IsListedOr, IsSingleLabel, AreSound, step_price}
use Rattle.mapf_lemma_convert.specs.Conversion.{path_constraint, path_constraints}
use Rattle.mapf_lemma_convert.proofs.ListLemmas.{contains_map, contained_of_map}

none_demanded : (bars : List Bar) → demanded_cost (path_constraints bars) ≡ 0
none_demanded [] = refl
none_demanded (Cell cell tick ∷ bars) = let rest = none_demanded bars in omega (arith, rest)
none_demanded (Move from to tick ∷ bars) = let rest = none_demanded bars in omega (arith, rest)

one_more_priced : (label after : Label) (from to tick : ℕ) → IsAtMost label (one_more after) → IsAtMost label (label_plus (Ticks (step_price no_list from to tick)) after)
one_more_priced label Never from to tick low = low
one_more_priced (Ticks m) (Ticks n) from to tick low = omega arith
one_more_priced Never (Ticks n) from to tick low = low

-- the task of the agent under these constraints, without prices
abbrev pub task_of : GridMap → Agent → List Bar → Task
task_of grid agent bars = record { grid = grid; list = no_list; agent = agent; constraints = path_constraints bars }

module _ (grid : GridMap) (agent : Agent) (bars : List Bar) where
  barred_of : (cell tick : ℕ) → Contains bars (Cell cell tick) → IsBarred (task_of grid agent bars) cell tick
  barred_of cell tick held = (NotAt cell tick, contains_map path_constraint bars (Cell cell tick) held, (refl, refl))

  barred_by : (cell tick : ℕ) (bar : Bar) → Contains bars bar → Excludes (task_of grid agent bars) cell tick (path_constraint bar) → Contains bars (Cell cell tick)
  barred_by cell tick (Cell there then) held excludes =
      subst (λ c. Contains bars (Cell c tick)) excludes.0 (subst (λ t. Contains bars (Cell there t)) excludes.1 held)
  barred_by cell tick (Move from to then) held excludes = absurd excludes

  barred_is : (cell tick : ℕ) → IsBarred (task_of grid agent bars) cell tick → Contains bars (Cell cell tick)
  barred_is cell tick (constraint, held, excludes) =
      let (bar, inside, same) = contained_of_map path_constraint bars constraint held in
      barred_by cell tick bar inside (subst (Excludes (task_of grid agent bars) cell tick) (sym same) excludes)

  may_go : (from to tick : ℕ) → MayStep (task_of grid agent bars) from to tick → MayGo grid bars from to tick
  may_go from to tick may = record {
    step = may.step;
    arrival = λ held. may.arrival (barred_of to (tick + 1) held);
    move = λ held. may.move (contains_map path_constraint bars (Move from to tick) held);
  }

  default_of : (cell tick : ℕ) (label : Label) → IsDistanceLabel grid agent.goal cell label → IsDefault (task_of grid agent bars) cell tick label
  default_of cell tick (Ticks n) is = (n, is, let none = none_demanded bars in omega (arith, none))
  default_of cell tick Never is = is

  default_is : (cell tick : ℕ) (label : Label) → IsDefault (task_of grid agent bars) cell tick label → IsDistanceLabel grid agent.goal cell label
  default_is cell tick (Ticks n) (distance, is, value) =
      let none = none_demanded bars in
      let same : distance ≡ n = omega (arith, none, value) in
      subst (λ d. IsDistanceLabel grid agent.goal cell (Ticks d)) same is
  default_is cell tick Never is = is

  listed_of : (entry : Option Label) (cell tick : ℕ) (label : Label) → IsEntryOrDistance grid agent.goal cell entry label → IsListedOr entry (IsDefault (task_of grid agent bars) cell tick) label
  listed_of (Some listed) cell tick label is = is
  listed_of None cell tick label is = default_of cell tick label is

  listed_is : (entry : Option Label) (cell tick : ℕ) (label : Label) → IsListedOr entry (IsDefault (task_of grid agent bars) cell tick) label → IsEntryOrDistance grid agent.goal cell entry label
  listed_is (Some listed) cell tick label is = is
  listed_is None cell tick label is = default_is cell tick label is

  module _ (entries : Entries) where
    pub single_of : (cell tick : ℕ) (label : Label) → IsLabel grid agent.goal entries cell tick label → IsSingleLabel (task_of grid agent bars) entries cell tick label
    single_of cell tick label is = listed_of (entries cell tick) cell tick label is

    pub single_is : (cell tick : ℕ) (label : Label) → IsSingleLabel (task_of grid agent bars) entries cell tick label → IsLabel grid agent.goal entries cell tick label
    single_is cell tick label is = listed_is (entries cell tick) cell tick label is

    pub sound_of : old.AreSound grid agent.goal bars entries → AreSound (task_of grid agent bars) entries
    sound_of sound cell tick label found =
        let entry = sound cell tick label found in
        record {
          raised = (entry.raised.0, default_of cell tick (Ticks entry.raised.0) entry.raised.1, entry.raised.2);
          at_rest = λ free rest.
              let (later, past, held) = entry.at_goal (λ bar. free (barred_of cell tick bar)) rest.at_goal in
              absurd (rest.allowed (NotAt agent.goal later) (contains_map path_constraint bars (Cell agent.goal later) held) (refl, past));
          onward = λ free next may.
              let (after, is, low) = entry.onward (λ bar. free (barred_of cell tick bar)) next (may_go cell next tick may) in
              (after, single_of next (tick + 1) after is, one_more_priced label after cell next tick low);
        }
