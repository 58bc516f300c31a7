use Rattle.std.proofs.Common.{◌≡◌, ◌+◌, AllPairs, IfSome, IfNone, None, Contains, sym, subst, ◌∙◌, arith}
use Rattle.mapf_spacetime.specs.Listed.{AreEntriesOf}
use Rattle.mapf_spacetime.specs.PathSearch.{IsWholeWalk}
use Rattle.mapf_spacetime.specs.States.{IsBelowLimit}
use Rattle.mapf_model.specs.States.{IsEarlier}
use Rattle.mapf_spacetime.specs.Sweeps.{AreAll, AreSwept, HasArrived}
use Rattle.mapf_spacetime.specs.Task.{start_of}
use Rattle.mapf_spacetime.proofs.AnswerLemmas.{all_few, all_show}
use Rattle.mapf_spacetime.proofs.ListLemmas.{all_listed}
use Rattle.mapf_spacetime.proofs.SweptLemmas.{next_bound, next_limit, walk_arrived, whole_all, whole_swept}
use Rattle.mapf_spacetime.proofs.cheapest.above.Goals as goal

pub prove-unreachable-requires : goal.prove-unreachable-requires
prove-unreachable-requires g c =
    let task = c.args.task.now in
    let sweep = c.args.workspace.now.sweep in
    let w = c.requires.whole in
    let next = next_bound task sweep w (w.cut (sym c.is_cut.ensures ∙ c.if-not-is_cut.false)) c.horizon-horizon.result c.horizon-horizon.ensures.above in
    let bound = c.requires.bound in
    let test = c.if-prove.true in
    omega arith

pub try_walk-requires-clause-small : goal.try_walk-requires-clause-small
try_walk-requires-clause-small g c =
    let task = c.args.task.now in
    let sweep = c.args.workspace.now.sweep in
    let w = c.requires.whole in
    let next = next_bound task sweep w (w.cut (sym c.is_cut.ensures ∙ c.if-not-is_cut.false)) c.horizon-horizon.result c.horizon-horizon.ensures.above in
    let early = c.horizon-horizon.ensures.early in
    let bound = c.requires.bound in
    omega arith

pub try_walk-requires-clause-within : goal.try_walk-requires-clause-within
try_walk-requires-clause-within g c =
    let sweep = c.args.workspace.now.sweep in
    let w = c.requires.whole in
    let (value, is, le) = w.reached.within (start_of c.args.task.now) w.reached.start in
    let bound = c.requires.bound in
    (value, is, omega arith)

pub begin_above-requires-clause-small : goal.begin_above-requires-clause-small
begin_above-requires-clause-small g c =
    let task = c.args.task.now in
    let sweep = c.args.workspace.now.sweep in
    let w = c.requires.whole in
    let next = next_bound task sweep w (w.cut (sym c.is_cut.ensures ∙ c.if-not-is_cut.false)) c.horizon-horizon.result c.horizon-horizon.ensures.above in
    let early = c.horizon-horizon.ensures.early in
    let bound = c.requires.bound in
    omega arith

pub dead-requires : goal.dead-requires
dead-requires g c =
    let task = c.args.task.now in
    let sweep = c.args.workspace.now.sweep in
    let all = whole_all task sweep c.requires.whole (sym c.is_cut.ensures ∙ c.if-not-is_cut.true) in
    let small = c.requires.small in
    let bound = c.requires.bound in
    record {
      shape = c.requires.shape;
      few = λ s held. all_few task sweep.bound sweep.states all (omega arith) s (subst (λ l. Contains l s) c.states.ensures held);
      rising = subst (AllPairs IsEarlier) (sym c.states.ensures) c.requires.whole.reached.rising;
      none = λ entries a. all_show task sweep.bound sweep.states all entries (subst (λ l. AreEntriesOf l None entries) c.states.ensures a);
      all = λ entries a. all_listed task sweep.bound sweep.states entries all (subst (λ l. AreEntriesOf l None entries) c.states.ensures a) c.requires.start;
    }

pub arrive_by-requires : goal.arrive_by-requires
arrive_by-requires g c =
    let task = c.args.task.now in
    let sweep = c.args.workspace.now.sweep in
    let w = c.requires.whole in
    let past = w.cut (sym c.is_cut.ensures ∙ c.if-not-is_cut.false) in
    let next = next_bound task sweep w past c.horizon-horizon.result c.horizon-horizon.ensures.above in
    let early = c.horizon-horizon.ensures.early in
    let bound = c.requires.bound in
    let cost : sweep.bound + 1 ≡ c.args.bound + 1 = omega arith in
    let way = subst (λ o. IfSome o (λ cells. IsWholeWalk task (c.args.bound + 1) cells.items)) c.in-Some.is c.in_ok-cells.ensures in
    let rest = c.requires.rest in
    record {
      shape = c.requires.shape;
      small = omega arith;
      limit = subst (IsBelowLimit task) cost (next_limit task sweep w past);
      start = c.requires.start;
      arrived = subst (HasArrived task (c.args.bound + 1)) (sym c.states-in-Some.ensures)
          (walk_arrived task (c.args.bound + 1) sweep.states c.in-Some.cells.items (subst (λ n. AreSwept task n sweep.states) cost (whole_swept task sweep w)) way (record {
            stay = λ later after. rest.stay later (omega arith);
            wait = λ later after. rest.wait later (omega arith);
          }));
      walk = way;
    }

pub by_levels-requires : goal.by_levels-requires
by_levels-requires g c =
    let task = c.args.task.now in
    let sweep = c.args.workspace.now.sweep in
    let w = c.requires.whole in
    let past = w.cut (sym c.is_cut.ensures ∙ c.if-not-is_cut.false) in
    let (value, is, le) = w.reached.within (start_of task) w.reached.start in
    let bound = c.requires.bound in
    let rest = c.requires.rest in
    let at = c.in_ok-begin_above.ensures.cost in
    let cost : sweep.bound + 1 ≡ c.begin_above.new.self.cost = omega arith in
    record {
      frontier = c.in_ok-begin_above.ensures.frontier;
      within = (value, is, omega arith);
      rest = record { stay = λ later after. rest.stay later (omega arith); wait = λ later after. rest.wait later (omega arith) };
      limit = subst (IsBelowLimit task) cost (next_limit task sweep w past);
      small = λ last above. let next = next_bound task sweep w past last above in omega arith;
    }

pub dead-requires-in-None : goal.dead-requires-in-None
dead-requires-in-None g c =
    let task = c.args.task.now in
    let frontier = c.by_levels.new.frontier in
    let all = subst (λ o. IfNone o (AreAll task frontier.cost frontier.reached)) c.in-None.is c.in_ok-cells-2.ensures.all in
    let same = c.reached-in-None.ensures in
    record {
      shape = c.requires.shape;
      few = λ s held. all_few task frontier.cost frontier.reached all c.in_ok-cells-2.ensures.small s (subst (λ l. Contains l s) same held);
      rising = subst (AllPairs IsEarlier) (sym same) all.reached.rising;
      none = λ entries a. all_show task frontier.cost frontier.reached all entries (subst (λ l. AreEntriesOf l None entries) same a);
      all = λ entries a. all_listed task frontier.cost frontier.reached entries all (subst (λ l. AreEntriesOf l None entries) same a) c.requires.start;
    }
