use Rattle.std.proofs.Common.{◌≡◌, subst}
use Rattle.std.specs.BTreeMap.{get}
use Rattle.mapf_cases.specs.Clears.{IsEntryOf}
use Rattle.mapf_cases.proofs.ClearLemmas.{added, cell_cmp}
use Rattle.mapf_cases.proofs.clear_index.ClearIndex.add.Goals as goal

pub returns-clause-added : goal.returns-clause-added
returns-clause-added c clears keeps =
    let kept : get cell_cmp c.args.self.now.earliest c.args.cell ≡ c.copied-before.result = cc (c.get.ensures.value, c.copied-before.ensures) in
    let entry = subst (λ o. IsEntryOf clears c.args.cell o) kept (keeps c.args.cell) in
    added clears c.args.agent c.args.cell c.args.tick c.args.self.now (record { earliest = c.insert.new.self }) c.with-now.result keeps (c.with-now.ensures.ordered entry.ordered)
    (rw kept (c.with-now.ensures.clear entry.ordered)) c.in_ok-insert.ensures.updates

pub returns-clause-undo : goal.returns-clause-undo
returns-clause-undo c clears keeps =
    let kept : get cell_cmp c.args.self.now.earliest c.args.cell ≡ c.copied-before.result = cc (c.get.ensures.value, c.copied-before.ensures) in
    subst (λ o. IsEntryOf clears c.args.cell o) kept (keeps c.args.cell)
