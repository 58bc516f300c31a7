use Rattle.std.proofs.Common.{Contains, take, length, sym, subst, arith}
use Rattle.std.proofs.lemmas.List.{take_all}
use Rattle.mapf_spacetime.specs.Frontiers.{States, IsExhausted}
use Rattle.mapf_spacetime.proofs.LevelLemmas.{exhausted_all}
use Rattle.mapf_spacetime.proofs.frontier.Frontier.keep_all.Goals as goal

pub returns-clause-all : goal.returns-clause-all
returns-clause-all c task h =
    let inside = c.self.inside in
    let states : States = record { reached = inside.reached; open_states = inside.open_states.items; next_states = inside.next_states.items; later_states = inside.later_states.items; cost = inside.cost; below = inside.below } in
    let exhausted : IsExhausted task states = subst (IsExhausted task) (sym c.self.view_is) h in
    let did = c.keep_sorted.ensures in
    let count = c.len.ensures in
    let whole = take_all (length inside.reached) inside.reached (omega arith) in
    exhausted_all task states exhausted c.keep_sorted.new.self
    (λ s held. subst (λ l. Contains l s) whole (subst (λ n. Contains (take n inside.reached) s) count ((did.same s).0 held)))
    (λ s held. (did.same s).1 (subst (λ n. Contains (take n inside.reached) s) (sym count) (subst (λ l. Contains l s) (sym whole) held)))
    did.rising
