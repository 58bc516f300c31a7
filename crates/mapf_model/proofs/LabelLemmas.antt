-- Sound labels bound what is left of a path that obeys the bars.
use Rattle.std.proofs.Common.{◌≡◌, ℕ, zero, suc, ◌+◌, ◌-◌, min, length, List, Option, Some, None, Contains, refl, arith}
use Rattle.mapf_model.specs.declared.bar.Bar.{Bar}
use Rattle.mapf_model.specs.declared.bar.Bar.TheVariants.{Cell, Move}
use Rattle.mapf_model.specs.declared.label.Label.{Label}
use Rattle.mapf_model.specs.declared.label.Label.TheVariants.{Ticks, Never}
use Rattle.mapf_model.specs.Grid.{GridMap, Step}
use Rattle.mapf_model.specs.Path.{at, RestsFrom, IsLawful}
use Rattle.mapf_model.specs.declared.problem.Agent.{Agent}
use Rattle.mapf_model.specs.Distance.{Walk}
use Rattle.mapf_model.specs.Bars.{Satisfies}
use Rattle.mapf_model.specs.Labels.{Entries, AreSound, IsLabel, IsAtMost, IsDistanceLabel, MayGo, IsEntryOrDistance, one_more}
use Rattle.mapf_model.proofs.StepLemmas.{step_start}

pub one_more_bound : (a b : Label) (k : ℕ) → IsAtMost a (one_more b) → IsAtMost b (Ticks k) → IsAtMost a (Ticks (suc k))
one_more_bound a Never k p q = absurd q
one_more_bound (Ticks m) (Ticks n) k p q = omega arith
one_more_bound Never (Ticks n) k p q = p

module _
    (grid : GridMap) (goal : ℕ) (bars : List Bar) (entries : Entries) (path : List ℕ) (cost : ℕ)
    (sound : AreSound grid goal bars entries)
    (steps : (tick : ℕ) → Step grid (at path tick) (at path (tick + 1)))
    (obeys : Satisfies bars path)
    (rests : RestsFrom goal path cost)
  where
    -- what is left of the path is a walk to the goal
    pub walk_left : (k tick : ℕ) → tick + k ≡ cost → Walk grid (at path tick) goal k
    walk_left zero tick e = (step_start grid (at path tick) (at path (tick + 1)) (steps tick), rests tick (omega arith))
    walk_left (suc k) tick e = (at path (tick + 1), steps tick, walk_left k (tick + 1) (omega arith))

    pub distance_left : (k tick : ℕ) → tick + k ≡ cost → (label : Label) → IsDistanceLabel grid goal (at path tick) label → IsAtMost label (Ticks k)
    distance_left k tick e (Ticks n) d = d.least k (walk_left k tick e)
    distance_left k tick e Never d = d k (walk_left k tick e)

    free : (tick : ℕ) → Contains bars (Cell (at path tick) tick) → ⊥
    free tick h = obeys (Cell (at path tick) tick) h refl

    -- backwards from the last arrival, if the state has no entry
    pub label_left : (k tick : ℕ) → tick + k ≡ cost → (entry : Option Label) → entries (at path tick) tick ≡ entry → (label : Label) → IsEntryOrDistance grid goal (at path tick) entry label → IsAtMost label (Ticks k)
    label_left k tick e None is label d = distance_left k tick e label d
    label_left zero tick e (Some entry) is label same =
        let bar = (sound (at path tick) tick entry is).at_goal (free tick) (rests tick (omega arith)) in
        absurd (obeys (Cell goal bar.0) bar.2 (rests bar.0 (omega arith)))
    label_left (suc k) tick e (Some entry) is label same =
        let go : MayGo grid bars (at path tick) (at path (tick + 1)) tick = record { step = steps tick; arrival = free (tick + 1); move = λ h. obeys (Move (at path tick) (at path (tick + 1)) tick) h (refl, refl) } in
        let next = (sound (at path tick) tick entry is).onward (free tick) (at path (tick + 1)) go in
        rw same (one_more_bound entry next.0 k next.2 (label_left k (tick + 1) (omega arith) (entries (at path (tick + 1)) (tick + 1)) refl next.0 next.1))

pub lawful_rests : (grid : GridMap) (agent : Agent) (path : List ℕ) → IsLawful grid agent path → RestsFrom agent.goal path (length path)
lawful_rests grid agent path lawful tick past =
    let same : min tick (length path - 1) ≡ min (length path - 1) (length path - 1) = omega arith in
    rw same lawful.goal

pub lawful_bound : (grid : GridMap) (agent : Agent) (bars : List Bar) (entries : Entries) (path : List ℕ) (cost : ℕ) → AreSound grid agent.goal bars entries → IsLawful grid agent path → Satisfies bars path → RestsFrom agent.goal path cost → (label : Label) → IsLabel grid agent.goal entries agent.start 0 label → IsAtMost label (Ticks cost)
lawful_bound grid agent bars entries path cost sound lawful obeys rests label is =
    label_left grid agent.goal bars entries path cost sound lawful.is_path.steps obeys rests cost 0 (omega arith) (entries (at path 0) 0) refl label (rw lawful.start is)
