use Rattle.std.proofs.Common.{length, reverse, arith}
use Rattle.std.proofs.lemmas.List.{length-append}
use Rattle.mapf_cases.proofs.PathLemmas.{AreLevels-deeper, contexts-split}
use Rattle.mapf_cases.proofs.StandingLemmas.{reverse_push}
use Rattle.mapf_cases.proofs.case_path.CasePath.split.Goals as goal

pub invariant_of-self-in_err-add_left : goal.invariant_of-self-in_err-add_left
invariant_of-self-in_err-add_left c =
    let kept = c.in_ok-reserve.ensures.items in
    let (more, is) = c.in_err-add_left.ensures.more in
    rw (kept, is) (AreLevels-deeper (length c.self.inside.standing) _ (reverse c.self.inside.pending.items) (omega (arith, length-append more c.self.inside.standing)) c.self.invariant)

pub returns : goal.returns
returns c =
    let items = c.push_reserved.ensures.items in
    let kept = c.in_ok-reserve.ensures.items in
    let added = c.in_ok-add_left.ensures.added in
    let own = c.right_of.ensures in
    let level = c.count-level.ensures in
    rw (← c.self.view_is) (rw (added, items, kept, reverse_push, own, level) (contexts-split c.args.problem.now c.args.split.now c.self.inside.standing (reverse c.self.inside.pending.items) c.self.invariant))
