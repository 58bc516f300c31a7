use Rattle.std.proofs.Common.{rules, ◌<◌, All, ap, length, sym, subst, ◌∙◌}
use Rattle.std.specs.BTreeMap.{is_at}
use Rattle.std.specs.Map.{values_of}
use Rattle.std.specs.Ordering.{nat_cmp}
use Rattle.std.proofs.lemmas.Map.Views.{All-values-set_value}
use Rattle.mapf_cbs.specs.Queues.{IsOpenQueue, keys_of_entries}
use Rattle.mapf_cbs.specs.State.{IsLeastKey}
use Rattle.mapf_cbs.proofs.QueueLemmas.{found_queue, later_queues, queue_popped, removed_first, taken_first}
use Rattle.mapf_cbs.proofs.open_nodes.OpenNodes.take_least.Goals as goal

pub invariant_of-self-then-was_last : goal.invariant_of-self-then-was_last
invariant_of-self-then-was_last c =
    let es = c.self.inside.queues.entries in
    let new = c.take_first.new.queue in
    let total = c.in_ok-total.total in
    let number = c.in_ok-number.number in
    let taken = taken_first es total number c.in_ok-queue.queue.now new c.get_mut.ensures.ordered c.in_ok-total.ensures.some c.in_ok-queue.ensures.value c.self.invariant c.in_ok-number.ensures.first in
    let removed = removed_first es (c.get_mut.follows.lender new).entries c.remove_sum.new.queues.entries total new ((c.get_mut.follows.holds new).0 ∙ taken.0) c.remove_sum.ensures (search rules) in
    subst (λ l. All IsOpenQueue (values_of l)) (sym removed.0) (later_queues es c.self.invariant)

pub invariant_of-self-else-was_last : goal.invariant_of-self-else-was_last
invariant_of-self-else-was_last c =
    let es = c.self.inside.queues.entries in
    let new = c.take_first.new.queue in
    let total = c.in_ok-total.total in
    let old = c.in_ok-queue.queue.now in
    let queue = found_queue es total old c.self.invariant c.in_ok-queue.ensures.value in
    let some : 0 < length new.items = search rules in
    let popped = queue_popped old new c.in_ok-number.number queue c.in_ok-number.ensures.first some in
    subst (λ l. All IsOpenQueue (values_of l)) (sym (c.get_mut.follows.holds new).0) (All-values-set_value (is_at (nat_cmp total)) IsOpenQueue es new c.self.invariant popped)

pub returns-then-was_last-clause-some : goal.returns-then-was_last-clause-some
returns-then-was_last-clause-some c =
    let es = c.self.inside.queues.entries in
    let new = c.take_first.new.queue in
    let total = c.in_ok-total.total in
    let number = c.in_ok-number.number in
    let taken = taken_first es total number c.in_ok-queue.queue.now new c.get_mut.ensures.ordered c.in_ok-total.ensures.some c.in_ok-queue.ensures.value c.self.invariant c.in_ok-number.ensures.first in
    let removed = removed_first es (c.get_mut.follows.lender new).entries c.remove_sum.new.queues.entries total new ((c.get_mut.follows.holds new).0 ∙ taken.0) c.remove_sum.ensures (search rules) in
    subst (λ l. IsLeastKey (total, number) l (keys_of_entries c.remove_sum.new.queues.entries)) c.self.view_is (subst (IsLeastKey (total, number) (keys_of_entries es)) removed.1 taken.1)

pub returns-else-was_last-clause-some : goal.returns-else-was_last-clause-some
returns-else-was_last-clause-some c =
    let es = c.self.inside.queues.entries in
    let new = c.take_first.new.queue in
    let total = c.in_ok-total.total in
    let number = c.in_ok-number.number in
    let taken = taken_first es total number c.in_ok-queue.queue.now new c.get_mut.ensures.ordered c.in_ok-total.ensures.some c.in_ok-queue.ensures.value c.self.invariant c.in_ok-number.ensures.first in
    let left = sym (ap keys_of_entries ((c.get_mut.follows.holds new).0 ∙ taken.0)) in
    subst (λ l. IsLeastKey (total, number) l (keys_of_entries (c.get_mut.follows.lender new).entries)) c.self.view_is (subst (IsLeastKey (total, number) (keys_of_entries es)) left taken.1)
