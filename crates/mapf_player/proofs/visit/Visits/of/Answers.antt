use Rattle.std.proofs.Common.{◌≡◌, ◌≤◌, ◌+◌, length, arith, refl, subst, sym, ap}
use Rattle.mapf_player.specs.Visits.{IsEntry}
use Rattle.mapf_player.proofs.VisitLemmas.{AreVisitsBefore, all_visits, with_entry, without_entry, at_cell, entries_within}
use Rattle.mapf_player.proofs.visit.Visits.of.Goals.{then-is_entry+in_ok-push, else-is_entry}
use Rattle.mapf_player.proofs.visit.Visits.of.Goals as goal

pub loop-tick-preserved : goal.loop-tick-preserved
loop-tick-preserved c = elim c.if-is_entry.branch [
  | then-is_entry+in_ok-push w ↦
      let cells = c.cells-cells.ensures.value in
      let added = with_entry c.args.path.now c.loop-tick.tick c.loop-tick.visits.items (record { cell = c.index-cells-tick.result; entry = c.loop-tick.tick }) c.loop-tick.invariant
      (subst (λ p. IsEntry p c.loop-tick.tick) cells (c.is_entry.ensures.0 w.if-is_entry.true))
      (at_cell c.cells-cells.result.now c.args.path.now cells c.loop-tick.tick c.index-cells-tick.result c.loop-tick-test.true c.index-cells-tick.is) refl in
      subst (λ vs. AreVisitsBefore c.args.path.now (c.loop-tick.tick + 1) vs.items) (sym w.visits-is) (subst (λ xs. AreVisitsBefore c.args.path.now (c.loop-tick.tick + 1) xs) (sym w.in_ok-push.ensures.items) added)
  | else-is_entry w ↦
      subst (λ vs. AreVisitsBefore c.args.path.now (c.loop-tick.tick + 1) vs.items) (sym w.visits-is)
      (without_entry c.args.path.now c.loop-tick.tick c.loop-tick.visits.items c.loop-tick.invariant (λ entry. let is = c.is_entry.ensures.1 (subst (λ p. IsEntry p c.loop-tick.tick) (sym c.cells-cells.ensures.value) entry) in let no = w.if-is_entry.false in absurd cc))
]

pub invariant_of-result : goal.invariant_of-result
invariant_of-result c =
    let few = c.cells-cells.ensures.few in
    let last : c.loop-tick.tick ≤ length c.cells-cells.result.now = c.loop-tick.auto.tick-end in
    entries_within c.args.path.now c.loop-tick.tick c.loop-tick.visits.items c.loop-tick.invariant (omega arith)

pub returns : goal.returns
returns c =
    let cells = c.cells-cells.ensures.value in
    let low : c.loop-tick.tick ≤ length c.cells-cells.result.now = c.loop-tick.auto.tick-end in
    let high : length c.cells-cells.result.now ≤ c.loop-tick.tick = c.loop-tick-test.false in
    let size = ap length cells in
    let end : c.loop-tick.tick ≡ length c.args.path.now = omega arith in
    all_visits c.args.path.now c.loop-tick.visits.items (subst (λ p. 1 ≤ length p) cells c.cells-cells.ensures.some) (subst (λ n. AreVisitsBefore c.args.path.now n c.loop-tick.visits.items) end c.loop-tick.invariant)
