use Rattle.std.proofs.Common.{◌≡◌, ◌+◌, ◌<◌, ◌∙◌, [], ap, sym, subst, arith}
use Rattle.std.proofs.lemmas.Bool.{iff_false}
use Rattle.mapf_spacetime.specs.Frontiers.{IsFrontier}
use Rattle.mapf_spacetime.specs.States.{IsBelowLimit}
use Rattle.mapf_spacetime.proofs.GrowLemmas.{from_none, raised_frontier, limit_next, number_next}
use Rattle.mapf_spacetime.proofs.levels.by_levels.Goals as goal
use Rattle.mapf_model.specs.Limits.{most_cells}

pub prove-unreachable-requires : goal.prove-unreachable-requires
prove-unreachable-requires g c =
    let task = c.args.task.now in
    let done = from_none c.in_ok-cells.field-0 c.in_default.not-Some c.in_ok-cells.ensures.done in
    let some = iff_false c.none_waits.ensures c.if-none_waits.false in
    let small = number_next task c.level.new.frontier done some c.horizon-horizon.result c.horizon-horizon.ensures.above in
    let h = c.if-prove.true in
    let same = c.in_ok-cells.ensures.cost in
    let cost = c.loop-cells.invariant.cost in
    omega arith

pub loop-cells-preserved : goal.loop-cells-preserved
loop-cells-preserved g c =
    let task = c.args.task.now in
    let done = from_none c.in_ok-cells.field-0 c.in_default.not-Some c.in_ok-cells.ensures.done in
    let some = iff_false c.none_waits.ensures c.if-none_waits.false in
    let raised_is = c.raise.ensures done.none_open in
    let cost : c.level.new.frontier.cost ≡ c.loop-cells.cost = c.in_ok-cells.ensures.cost ∙ c.loop-cells.invariant.cost in
    let next : c.level.new.frontier.cost + 1 ≡ c.loop-cells.cost + 1 = omega arith in
    record {
      frontier = subst (IsFrontier task []) (sym raised_is) (raised_frontier task c.level.new.frontier done);
      cost = ap (λ states. states.cost) raised_is ∙ next;
      within = (let (value, is, le) = c.loop-cells.invariant.within in (value, is, omega arith));
      rest = (let rest = c.loop-cells.invariant.rest in record { stay = λ later after. rest.stay later (omega arith); wait = λ later after. rest.wait later (omega arith) });
      limit = subst (IsBelowLimit task) next (limit_next task c.level.new.frontier done some);
      small = subst (λ n. n < c.horizon-horizon.result + most_cells) next (number_next task c.level.new.frontier done some c.horizon-horizon.result c.horizon-horizon.ensures.above);
    }

pub returns-then-none_waits-clause-all : goal.returns-then-none_waits-clause-all
returns-then-none_waits-clause-all g c =
    let done = from_none c.in_ok-cells.field-0 c.in_default.not-Some c.in_ok-cells.ensures.done in
    c.keep_all.ensures.all c.args.task.now (record { done = done; none_waits = c.none_waits.ensures.0 c.if-none_waits.true })
