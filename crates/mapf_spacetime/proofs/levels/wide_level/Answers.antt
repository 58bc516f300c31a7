use Rattle.std.proofs.Common.{◌<◌, ◌∙◌, ap, sym, subst}
use Rattle.mapf_spacetime.specs.Expansions.{IsExpanded}
use Rattle.mapf_spacetime.specs.Frontiers.{IsAtGoal}
use Rattle.mapf_spacetime.specs.PathSearch.{CanArrive, IsSearching, IsWholeWalk, first_walk}
use Rattle.mapf_spacetime.specs.PathSearchEnds.{IsEnd}
use Rattle.mapf_spacetime.specs.Task.{IsWithin, MayRestFrom, cost_bound, start_of}
use Rattle.mapf_spacetime.proofs.LevelLemmas.{walk_at_goal}
use Rattle.mapf_spacetime.proofs.WayLemmas.{first_searching, still_searching}
use Rattle.mapf_spacetime.proofs.levels.wide_level.Goals as goal

pub loop-walk-init : goal.loop-walk-init
loop-walk-init g c =
    let task = c.args.task.now in
    let cost = c.cost-cost.ensures in
    record {
      frontier = c.requires.frontier;
      cost = sym cost;
      searching = subst (IsSearching task c.cost-cost.result) (sym (c.in_ok-walk.ensures ∙ ap first_walk c.start.ensures.start))
          (first_searching task c.cost-cost.result (subst (λ n. IsWithin task n (start_of task)) (sym cost) c.requires.within));
    }

pub returns-in-AtGoal-clause-arrives : goal.returns-in-AtGoal-clause-arrives
returns-in-AtGoal-clause-arrives g c =
    let task = c.args.task.now in
    let states = c.loop-walk.frontier in
    let now = sym c.loop-walk.invariant.cost in
    let walk = subst (IsEnd task c.cost-cost.result c.search.new.self) c.in-AtGoal.is c.in_ok-search.ensures in
    let cells = subst (IsWholeWalk task c.cost-cost.result) (sym c.into_cells.ensures) walk in
    walk_at_goal task states c.into_cells.result.items c.loop-walk.invariant.frontier
    (subst (λ n. IsWholeWalk task n c.into_cells.result.items) now cells)
    (subst (MayRestFrom task) (sym c.cost-cost.ensures ∙ now) c.requires.rest)

pub finish-requires : goal.finish-requires
finish-requires g c =
    let task = c.args.task.now in
    let at_goal : IsAtGoal task c.expand.new.self = subst (IsExpanded task c.expand.new.self) c.in-Arrives.is c.in_ok-expand.ensures.expanded in
    let now = c.in_ok-expand.ensures.cost ∙ c.loop-walk.invariant.cost in
    record {
      small = subst (λ n. n < cost_bound) (sym c.cost-cost.ensures) c.requires.small;
      searching = still_searching task c.cost-cost.result c.search.new.self c.in_ok-search.field-0 c.in_ok-search.ensures c.in_default.not-AtGoal;
      arrives = subst (λ n. CanArrive task n (start_of task)) now at_goal.leads;
    }

pub loop-walk-preserved : goal.loop-walk-preserved
loop-walk-preserved g c =
    let task = c.args.task.now in record {
      frontier = subst (IsExpanded task c.expand.new.self) c.in-Paused.is c.in_ok-expand.ensures.expanded;
      cost = c.in_ok-expand.ensures.cost ∙ c.loop-walk.invariant.cost;
      searching = still_searching task c.cost-cost.result c.search.new.self c.in_ok-search.field-0 c.in_ok-search.ensures c.in_default.not-AtGoal;
    }
