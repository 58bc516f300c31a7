-- A list of constraints denotes its set.
use Rattle.std.proofs.Common.{ℕ, ◌+◌, List}
use Rattle.mapf_model.specs.declared.bar.Bar.{Bar}
use Rattle.mapf_model.specs.declared.bar.Bar.TheVariants.{Cell, Move}
use Rattle.mapf_model.specs.Grid.{GridMap}
use Rattle.mapf_model.specs.Bars.{Satisfies}
use Rattle.mapf_model.specs.Labels.{Entries, AreSound}
use Rattle.mapf_model.specs.Laws.{AreSameBars}

pub Satisfies-same : (xs ys : List Bar) → AreSameBars xs ys → (path : List ℕ) → Satisfies xs path → Satisfies ys path
Satisfies-same xs ys same path obeys bar in_ys = obeys bar ((same bar).1 in_ys)

pub AreSound-same : (xs ys : List Bar) → AreSameBars xs ys → (grid : GridMap) (goal : ℕ) (entries : Entries) → AreSound grid goal xs entries → AreSound grid goal ys entries
AreSound-same xs ys same grid goal entries sound cell tick label is =
    let s = sound cell tick label is in
    record {
      raised = s.raised;
      at_goal = λ open_cell at. let bar = s.at_goal (λ h. open_cell ((same (Cell cell tick)).0 h)) at in (bar.0, bar.1, (same (Cell goal bar.0)).0 bar.2);
      onward = λ open_cell next go. s.onward (λ h. open_cell ((same (Cell cell tick)).0 h)) next
          (record { step = go.step; arrival = λ h. go.arrival ((same (Cell next (tick + 1))).0 h); move = λ h. go.move ((same (Move cell next tick)).0 h) });
    }
