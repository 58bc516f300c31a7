use Rattle.std.proofs.Common.{◌≤◌, ◌+◌, None, drop, get_or, length, subst, ◌∙◌, arith}
use Rattle.std.proofs.lemmas.List.{drop_more, drop_all}
use Rattle.mapf_checker.specs.declared.starts.StartChange.{StartChange}
use Rattle.mapf_checker.proofs.ChangeLemmas.{AreBetween, between_none, one_undone}
use Rattle.mapf_checker.proofs.starts.Starts.undo.Goals as goal

pub loop-change-preserved : goal.loop-change-preserved
loop-change-preserved c =
    let changes = c.args.changes.now in
    let k = c.loop-change.change-index in
    let nothing : StartChange = record { agent = 0; before = None; now = None } in
    let within = c.loop-change-test.true in
    record {
      count = c.set.ensures.count ∙ c.loop-change.invariant.count;
      between = λ entries kept known. one_undone c.loop-change.self.entries.items c.set.new.entries.items (get_or changes k nothing) (drop (k + 1) changes) entries c.set.ensures.here c.set.ensures.others (known k nothing within)
          (subst (λ cs. AreBetween cs entries c.loop-change.self.entries.items) (drop_more changes k nothing within) (c.loop-change.invariant.between entries kept known));
    }

pub returns-clause-entries : goal.returns-clause-entries
returns-clause-entries c entries kept known =
    let over : length c.args.changes.now ≤ c.loop-change.change-index = let none = c.loop-change-test.false in omega (arith, none) in
    between_none entries c.loop-change.self.entries.items
    (subst (λ cs. AreBetween cs entries c.loop-change.self.entries.items) (drop_all c.loop-change.change-index c.args.changes.now over) (c.loop-change.invariant.between entries kept known))
