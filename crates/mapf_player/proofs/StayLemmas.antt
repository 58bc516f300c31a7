-- Agents in full cycles stay where they are, whoever asks.
use Rattle.std.proofs.Common.{◌≡◌, ◌≢◌, ℕ, ◌+◌, List, [], ◌∷◌, Some, slice_get, refl, sym, subst, ◌∙◌}
use Rattle.mapf_model.proofs.PlaceLemmas.{slice_get-set_other}
use Rattle.mapf_player.specs.declared.visit.Visit.{Visit}
use Rattle.mapf_player.specs.declared.reply.Reply.{Reply}
use Rattle.mapf_player.specs.declared.reply.Reply.TheVariants.{Go, Hold, Done}
use Rattle.mapf_player.specs.Cycles.{IsHeldBy, IsChain, IsInCycle, FullCyclesStay}
use Rattle.mapf_player.specs.Dispatching.{Progress, IsNext, IsAwaited, IsReply, AreReplies}
use Rattle.mapf_player.proofs.DispatchLemmas.{one_next, replies_are_one, still_left, with_number}

-- an agent that is held isn't one that goes on
held_differs : (p : Progress) (goer : ℕ) (visit : Visit) → IsNext p goer visit → ((other : ℕ) → IsAwaited p goer visit other → ⊥) → (agent other : ℕ) → IsHeldBy p agent other → agent ≢ goer
held_differs p goer visit next none agent other held same =
    let of_goer : IsHeldBy p goer other = subst (λ a. IsHeldBy p a other) same held in
    none other (subst (λ v. IsAwaited p goer v other) (one_next p goer of_goer.1 visit of_goer.2 next) of_goer.3)

-- where another agent goes on, an agent is held as before
still_held : (p : Progress) (goer number : ℕ) → slice_get p.numbers goer ≡ Some number → (agent other : ℕ) → agent ≢ goer → other ≢ goer → IsHeldBy p agent other → IsHeldBy (with_number p goer (number + 1)) agent other
still_held p goer number is agent other differ also (same, visit, (own, own_is, visit_is), (apart, n, earlier, earlier_is, cell, entry, still), least) = (
  refl,
  visit,
  (own, slice_get-set_other p.numbers goer agent (number + 1) differ ∙ own_is, visit_is),
  (apart, n, earlier, earlier_is, cell, entry, λ left. still (left.0, sym (slice_get-set_other p.numbers goer other (number + 1) also) ∙ left.1, left.2)),
  λ low awaited. least low (awaited.0, awaited.1, awaited.2, awaited.3, awaited.4, awaited.5, λ left. awaited.6 (still_left p goer number is low awaited.1 left)),
)

-- and a chain that ends at another agent stands
chain_stays : (p : Progress) (goer number : ℕ) → slice_get p.numbers goer ≡ Some number → ((agent other : ℕ) → IsHeldBy p agent other → agent ≢ goer) → (last : ℕ) → last ≢ goer →
    (agent : ℕ) (others : List ℕ) → IsChain p agent others last → (agent ≢ goer) × IsChain (with_number p goer (number + 1)) agent others last
chain_stays p goer number is held_apart last apart agent [] same = (λ e. apart (sym same ∙ e), same)
chain_stays p goer number is held_apart last apart agent (next ∷ others) (held, rest) =
    let later = chain_stays p goer number is held_apart last apart next others rest in
    (held_apart agent next held, (still_held p goer number is agent next (held_apart agent next held) later.0 held, later.1))

-- the agent is in a full cycle, and in the same visit as before
abbrev Stays : Progress → ℕ → Progress → Type 0
Stays before agent after = IsInCycle after agent × (slice_get after.numbers agent ≡ slice_get before.numbers agent)

stays_after_one : (before after : Progress) (asker : ℕ) (reply : Reply) (agent : ℕ) → IsReply before asker reply after → IsInCycle before agent → Stays before agent after
stays_after_one before after asker Done agent reply cycle = subst (Stays before agent) reply.0 (cycle, refl)
stays_after_one before after asker (Hold other) agent reply cycle = subst (Stays before agent) reply.0 (cycle, refl)
stays_after_one before after asker (Go cell) agent ((number, is, after_is), visit, next, cell_is, none) (first, others, chain) =
    let held_apart = held_differs before asker visit next none in
    let apart : agent ≢ asker = held_apart agent first chain.0 in
    let kept = chain_stays before asker number is held_apart agent apart agent (first ∷ others) chain in
    subst (Stays before agent) (sym after_is) ((first, others, kept.1), slice_get-set_other before.numbers asker agent (number + 1) apart)

stays : (agents : List ℕ) (replies : List Reply) (before after : Progress) (agent : ℕ) → AreReplies before agents replies after → IsInCycle before agent → Stays before agent after
stays [] [] before after agent same cycle = subst (Stays before agent) same (cycle, refl)
stays [] (reply ∷ replies) before after agent none cycle = absurd none
stays (asker ∷ agents) [] before after agent none cycle = absurd none
stays (asker ∷ agents) (reply ∷ replies) before after agent (between, first, rest) cycle =
    let one = stays_after_one before between asker reply agent first cycle in
    let all = stays agents replies between after agent rest one.0 in
    (all.0, all.1 ∙ one.1)

pub full_cycles_stay : FullCyclesStay
full_cycles_stay before after agents replies agent cycle replied =
    let all = stays agents replies before after agent replied cycle in
    let (first, others, chain) = all.0 in
    (all.0, all.1, λ reply next is. (first, (replies_are_one after agent reply (Hold first) next after is chain.0).0))
