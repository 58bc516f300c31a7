use Rattle.std.proofs.Common.{reverse, arith}
use Rattle.mapf_cases.specs.Paths.{first_added}
use Rattle.mapf_cases.proofs.PathLemmas.{AreLevels-deeper, added_since, contexts-next}
use Rattle.mapf_cases.proofs.StandingLemmas.{reverse_push}
use Rattle.mapf_cases.proofs.case_path.CasePath.next.Goals as goal

pub invariant_of-self-in_err-add : goal.invariant_of-self-in_err-add
invariant_of-self-in_err-add c =
    let items = c.in-Some.ensures.items in
    let levels = rw (items, reverse_push) at c.self.invariant in
    let (more, is, count) = added_since c.in-Some.child.level c.self.inside.standing levels.0 in
    let back = c.take_back_to.ensures.taken more (first_added c.in-Some.child.level c.self.inside.standing) is count in
    let unchanged = c.in_err-add.ensures.unchanged in
    rw (unchanged, back) (AreLevels-deeper c.in-Some.child.level _ (reverse c.pop.new.self.items) (omega (arith, count)) levels.1)

pub invariant_of-self-2 : goal.invariant_of-self-2
invariant_of-self-2 c =
    let items = c.in-Some.ensures.items in
    let levels = rw (items, reverse_push) at c.self.invariant in
    let (more, is, count) = added_since c.in-Some.child.level c.self.inside.standing levels.0 in
    let back = c.take_back_to.ensures.taken more (first_added c.in-Some.child.level c.self.inside.standing) is count in
    let added = c.in_ok-add.ensures.added in
    rw (added, back) (AreLevels-deeper c.in-Some.child.level _ (reverse c.pop.new.self.items) (omega (arith, count)) levels.1)

pub returns : goal.returns
returns c =
    let items = c.in-Some.ensures.items in
    let levels = rw (items, reverse_push) at c.self.invariant in
    let (more, is, count) = added_since c.in-Some.child.level c.self.inside.standing levels.0 in
    let back = c.take_back_to.ensures.taken more (first_added c.in-Some.child.level c.self.inside.standing) is count in
    let added = c.in_ok-add.ensures.added in
    rw (← c.self.view_is) (rw (items, reverse_push, added, back) (contexts-next c.in-Some.child c.self.inside.standing (reverse c.pop.new.self.items) levels))
