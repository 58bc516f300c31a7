use Rattle.std.proofs.Common.{ap, subst, sym, take}
use Rattle.std.specs.List.{dedup}
use Rattle.std.specs.List.Sorted.{IsPermutation}
use Rattle.std.proofs.Common.{AllPairs, Contains, ◌∙◌}
use Rattle.std.proofs.lemmas.List.Filters.{dedup_is}
use Rattle.std.proofs.lemmas.List.Kept.{Contains-dedup, Contains-from_dedup, IsStrictlySortedBy-dedup}
use Rattle.std.proofs.lemmas.List.Sorted.{IsPermutation-sym, Contains-permutation}
use Rattle.mapf_spacetime.specs.States.{same_state}
use Rattle.mapf_model.specs.States.{IsEarlier}
use Rattle.mapf_spacetime.proofs.OrderLemmas.{states_ordered, states_told_apart, states_tied, sorted_rising}
use Rattle.mapf_spacetime.proofs.SetLemmas.{same_state-exact}
use Rattle.mapf_spacetime.proofs.StampLemmas.{none_last, below_of_base}
use Rattle.mapf_spacetime.proofs.reached.Reached.keep_sorted.Goals as goal

pub invariant_of-self : goal.invariant_of-self
invariant_of-self c = (
  none_last c.next_base-self-inside.result c.next_base-self-inside.new.stamps.items c.dedup.new.self.items c.next_base-self-inside.ensures.above,
  below_of_base c.next_base-self-inside.result c.next_base-self-inside.new.stamps.items c.next_base-self-inside.ensures.above,
  c.next_base-self-inside.ensures.base,
)

pub returns-clause-rising : goal.returns-clause-rising
returns-clause-rising c =
    let sorted = c.sort_unstable.new.self.items in
    let kept = c.dedup.new.self.items in
    subst (AllPairs IsEarlier) (sym (dedup_is same_state sorted kept c.dedup.ensures.filtered))
    (sorted_rising (dedup same_state sorted) (IsStrictlySortedBy-dedup states_ordered states_tied sorted c.sort_unstable.ensures.sorted))

pub returns-clause-same : goal.returns-clause-same
returns-clause-same c s =
    let states = take c.args.count c.args.self.now in
    let sorted = c.sort_unstable.new.self.items in
    let kept = c.dedup.new.self.items in
    let is = dedup_is same_state sorted kept c.dedup.ensures.filtered in
    let cut = c.truncate.ensures.items ∙ ap (take c.args.count) c.self.view_is in
    let moved = subst (λ l. IsPermutation l sorted) cut c.sort_unstable.ensures.permutation in (
      λ held. Contains-permutation sorted states s (IsPermutation-sym states sorted moved) (Contains-from_dedup same_state sorted s (subst (λ l. Contains l s) is held)),
      λ held. subst (λ l. Contains l s) (sym is) (Contains-dedup states_told_apart same_state-exact sorted s (Contains-permutation states sorted s moved held)),
    )
