use Rattle.std.proofs.Common.{◌≡◌, ◌<◌, ◌++◌, ◌∷◌, [], All, Err, Ok, OnErr, Result, ap, sym, subst, ◌∙◌}
use Rattle.std.specs.BTreeMap.{insert_entry, is_at}
use Rattle.std.specs.Map.{values_of}
use Rattle.std.specs.Ordering.{nat_cmp}
use Rattle.std.specs.BTreeSet.{insert_key}
use Rattle.std.proofs.lemmas.Map.Views.{All-values-insert_entry, All-values-set_value}
use Rattle.mapf_cbs.specs.Queues.{IsOpenQueue, keys_of_entries}
use Rattle.mapf_cbs.specs.State.{key_cmp}
use Rattle.mapf_cbs.proofs.QueueLemmas.{added_to_queue, added_queue, found_below, found_queue, queue_kept, queue_of_one, queue_pushed, same_keys}
use Rattle.mapf_cbs.proofs.open_nodes.OpenNodes.add.Goals as goal

on_err : {T E P : Type 0} (result : Result T E) → P → OnErr result P
on_err (Ok x) p = tt
on_err (Err e) p = p

pub invariant_of-self : goal.invariant_of-self
invariant_of-self c =
    let es = c.self.inside.queues.entries in
    let new = c.push_back.new.self in
    let queue = found_queue es c.args.total c.in-Some.queue.now c.self.invariant c.in-Some.ensures.value in
    subst (λ l. All IsOpenQueue (values_of l)) (sym (c.get_mut.follows.holds new).0) (All-values-set_value (is_at (nat_cmp c.args.total)) IsOpenQueue es new c.self.invariant (queue_kept c.in-Some.queue.now new queue c.in_err-push_back.ensures.items))

pub invariant_of-self-in-Some : goal.invariant_of-self-in-Some
invariant_of-self-in-Some c =
    let es = c.self.inside.queues.entries in
    let new = c.push_back.new.self in
    let queue = found_queue es c.args.total c.in-Some.queue.now c.self.invariant c.in-Some.ensures.value in
    let below = found_below es (is_at (nat_cmp c.args.total)) c.args.number c.in-Some.queue.now (sym c.in-Some.ensures.value) (subst (All (λ key. key.1 < c.args.number)) (sym c.self.view_is) c.requires) in
    subst (λ l. All IsOpenQueue (values_of l)) (sym (c.get_mut.follows.holds new).0) (All-values-set_value (is_at (nat_cmp c.args.total)) IsOpenQueue es new c.self.invariant (queue_pushed c.in-Some.queue.now new c.args.number queue below c.in_ok-push_back.ensures.items))

pub returns-in-Some-clause-added : goal.returns-in-Some-clause-added
returns-in-Some-clause-added c =
    let es = c.self.inside.queues.entries in
    let new = c.push_back.new.self in
    let newest = subst (All (λ key. key.1 < c.args.number)) (sym c.self.view_is) c.requires in
    ap keys_of_entries (c.get_mut.follows.holds new).0 ∙ added_to_queue es c.args.total c.args.number c.in-Some.queue.now new c.get_mut.ensures.ordered (sym c.in-Some.ensures.value) c.in_ok-push_back.ensures.items newest
    ∙ ap (λ l. insert_key key_cmp l (c.args.total, c.args.number)) c.self.view_is

pub invariant_of-self-2 : goal.invariant_of-self-2
invariant_of-self-2 c =
    let es = c.self.inside.queues.entries in
    let new = c.push_back-2.new.self in
    let number = c.args.number in
    let entered : c.insert.new.self.entries ≡ insert_entry nat_cmp es c.args.total new = c.in_ok-insert.ensures.entries ∙ ap (λ m. insert_entry nat_cmp m.entries c.args.total new) c.get_mut.follows.holds-at-none in
    let items : new.items ≡ number ∷ [] = c.in_ok-push_back-2.ensures.items ∙ ap (λ l. l ++ number ∷ []) c.new-queue.ensures.items in
    subst (λ l. All IsOpenQueue (values_of l)) (sym entered) (All-values-insert_entry nat_cmp c.args.total new IsOpenQueue es c.self.invariant (queue_of_one new number items))

pub returns-clause-added : goal.returns-clause-added
returns-clause-added c =
    let es = c.self.inside.queues.entries in
    let new = c.push_back-2.new.self in
    let number = c.args.number in
    let entered : c.insert.new.self.entries ≡ insert_entry nat_cmp es c.args.total new = c.in_ok-insert.ensures.entries ∙ ap (λ m. insert_entry nat_cmp m.entries c.args.total new) c.get_mut.follows.holds-at-none in
    let items : new.items ≡ number ∷ [] = c.in_ok-push_back-2.ensures.items ∙ ap (λ l. l ++ number ∷ []) c.new-queue.ensures.items in
    let added = added_queue es c.args.total number new c.get_mut.ensures.ordered (sym c.in_default.ensures.value) items in
    ap keys_of_entries entered ∙ added ∙ ap (λ l. insert_key key_cmp l (c.args.total, number)) c.self.view_is

pub returns-in_err-push_back-clause-kept : goal.returns-in_err-push_back-clause-kept
returns-in_err-push_back-clause-kept c =
    let es = c.self.inside.queues.entries in
    let new = c.push_back.new.self in
    on_err c.from_residual.result (ap keys_of_entries (c.get_mut.follows.holds new).0 ∙ same_keys es (is_at (nat_cmp c.args.total)) c.in-Some.queue.now new (sym c.in-Some.ensures.value) c.in_err-push_back.ensures.items ∙ c.self.view_is)
