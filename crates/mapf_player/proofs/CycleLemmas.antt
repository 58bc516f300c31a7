-- Chains of agents, each held by the next, and the cycles among them.
use Rattle.std.proofs.Common.{◌≡◌, ◌≢◌, ◌⊎◌, ℕ, ◌+◌, ◌<◌, ◌≤◌, ◌||◌, true, false, eqb, List, [], ◌∷◌, ◌++◌, Option, Some, None, MatchOption, IfSome, codes, length, length-append, slice_get, refl, sym, ap, subst, ◌∙◌, inl, inr, ⊎_elim, arith, append_assoc, append-nil}
use Rattle.std.specs.List.{IsDistinct, AllByRecursion, list_any}
use Rattle.std.proofs.lemmas.Bool.{cases_eq, cases_lt, ne_eqb}
use Rattle.std.proofs.lemmas.Map.Steps.{length-le_from_distinct_below}
use Rattle.std.proofs.lemmas.Option.{same_Some, slice_get_within}
use Rattle.mapf_fields.specs.Numbers.{field}
use Rattle.mapf_model.proofs.PlaceLemmas.{slice_get-front, slice_get-here}
use Rattle.mapf_player.specs.declared.reply.Reply.{Reply}
use Rattle.mapf_player.specs.declared.reply.Reply.TheVariants.{Hold}
use Rattle.mapf_player.specs.Cycles.{IsHeldBy, IsChain, IsInCycle, AreInCycles, agent_fields, cycle_line}
use Rattle.mapf_player.specs.declared.visit.Visit.{Visit}
use Rattle.mapf_player.specs.Dispatching.{Progress, IsProgress, IsNext, IsAwaited, IsLeastAwaited}
use Rattle.mapf_player.proofs.DispatchLemmas.{one_next, replies_are_one}

same_holder : (a b : ℕ) → ◌≡◌ {A = Reply} (Hold a) (Hold b) → a ≡ b
same_holder a b same = cc

-- an agent is held by one agent
one_holder : (p : Progress) (agent a b : ℕ) → IsHeldBy p agent a → IsHeldBy p agent b → a ≡ b
one_holder p agent a b x y = same_holder a b (replies_are_one p agent (Hold a) (Hold b) p p x y).0

pub holder_within : (p : Progress) → IsProgress p → (agent other : ℕ) → IsHeldBy p agent other → other < length p.numbers
holder_within p progress agent other (same, visit, next, (differ, n, earlier, (own, own_is, is), cell, entry, still), least) =
    let within = slice_get_within p.visits other own own_is in let count = progress.count in omega arith

-- the holder of an agent that has a next visit
pub held_by : (p : Progress) (agent : ℕ) (visit : Visit) → IsNext p agent visit → (r : Option ℕ) → IsLeastAwaited p agent visit r → MatchOption r ((other : ℕ) → IsHeldBy p agent other → ⊥) (IsHeldBy p agent)
held_by p agent visit next None none = λ other held. none other (subst (λ v. IsAwaited p agent v other) (one_next p agent held.1 visit held.2 next) held.3)
held_by p agent visit next (Some other) least = (refl, visit, next, least.0, least.1)

pub held_within : (p : Progress) → IsProgress p → (agent : ℕ) (visit : Visit) → IsNext p agent visit → (r : Option ℕ) → IsLeastAwaited p agent visit r → IfSome r (λ other. other < length p.numbers)
held_within p progress agent visit next None none = tt
held_within p progress agent visit next (Some other) least = holder_within p progress agent other (refl, visit, next, least.0, least.1)

-- none of these agents is this one
abbrev pub IsOff : ℕ → List ℕ → Type 0
IsOff agent [] = Unit {0}
IsOff agent (other ∷ others) = (agent ≢ other) × IsOff agent others

pub off_more : (agent other : ℕ) (others : List ℕ) → IsOff agent others → agent ≢ other → IsOff agent (others ++ other ∷ [])
off_more agent other [] off differ = (differ, tt)
off_more agent other (x ∷ others) off differ = (off.0, off_more agent other others off.1 differ)

pub chain_more : (p : Progress) (agent last next : ℕ) (steps : List ℕ) → IsChain p agent steps last → IsHeldBy p last next → IsChain p agent (steps ++ next ∷ []) next
chain_more p agent last next [] same held = (subst (λ n. IsHeldBy p n next) (sym same) held, refl)
chain_more p agent last next (x ∷ steps) chain held = (chain.0, chain_more p x last next steps chain.1 held)

-- no agent is there twice
abbrev AreDifferent : List ℕ → Type 0
AreDifferent [] = Unit {0}
AreDifferent (x ∷ xs) = IsOff x xs × AreDifferent xs

all_off : (x : ℕ) (xs : List ℕ) → IsOff x xs → AllByRecursion (λ y. eqb x y ≡ false) xs
all_off x [] off = tt
all_off x (y ∷ ys) off = (ne_eqb x y off.0, all_off x ys off.1)

distinct_of : (xs : List ℕ) → AreDifferent xs → IsDistinct eqb xs
unfolding IsDistinct
distinct_of [] different = tt
distinct_of (x ∷ xs) different = (all_off x xs different.0, distinct_of xs different.1)

-- where the agent is in a chain, the chain goes on from it
seen : (p : Progress) (agent from last : ℕ) (xs : List ℕ) → IsChain p from xs last → AreDifferent xs → IsOff agent xs ⊎ ((ys : List ℕ) × IsChain p agent ys last × AreDifferent ys × IsOff agent ys)
seen p agent from last [] chain different = inl tt
seen p agent from last (x ∷ xs) chain different = ⊎_elim
    (λ (same : agent ≡ x). inr (xs, subst (λ n. IsChain p n xs last) (sym same) chain.1, different.1, subst (λ n. IsOff n xs) (sym same) different.0))
    (λ (differ : agent ≢ x). ⊎_elim (λ (off : IsOff agent xs). inl (differ, off)) (λ found. inr found) (seen p agent x last xs chain.1 different.1))
    (cases_eq agent x)

joined : (p : Progress) (agent next last : ℕ) (ys : List ℕ) → IsHeldBy p agent next → IsChain p next ys last → AreDifferent ys → (zs : List ℕ) × IsChain p agent (next ∷ zs) last × AreDifferent (next ∷ zs)
joined p agent next last ys held rest different = ⊎_elim
    (λ (off : IsOff next ys). (ys, (held, rest), (off, different)))
    (λ found. let (zs, later, others, off) = found in (zs, (held, later), (off, others)))
    (seen p next next last ys rest different)

-- each chain can be made one without an agent twice
shortened : (p : Progress) (agent last : ℕ) (xs : List ℕ) → IsChain p agent xs last → (ys : List ℕ) × IsChain p agent ys last × AreDifferent ys
shortened p agent last [] chain = ([], chain, tt)
shortened p agent last (x ∷ xs) chain =
    let (ys, rest, different) = shortened p x last xs chain.1 in
    let (zs, whole, all) = joined p agent x last ys chain.0 rest different in (x ∷ zs, whole, all)

shortened_first : (p : Progress) (agent next last : ℕ) (xs : List ℕ) → IsHeldBy p agent next → IsChain p next xs last → (ys : List ℕ) × IsChain p agent (next ∷ ys) last × AreDifferent (next ∷ ys)
shortened_first p agent next last xs held chain =
    let (ys, rest, different) = shortened p next last xs chain in
    joined p agent next last ys held rest different

-- its agents are agents
below : (p : Progress) → IsProgress p → (agent last : ℕ) (xs : List ℕ) → IsChain p agent xs last → (q : ℕ) → list_any (eqb q) xs ≡ true → q < length p.numbers
below p progress agent last [] chain q is = cc
below p progress agent last (x ∷ xs) chain q is = ⊎_elim
    (λ (same : q ≡ x). subst (λ n. n < length p.numbers) (sym same) (holder_within p progress agent x chain.0))
    (λ (differ : q ≢ x). below p progress x last xs chain.1 q (subst (λ b. (b || list_any (eqb q) xs) ≡ true) (ne_eqb q x differ) is))
    (cases_eq q x)

-- a chain that isn't longer than another from the same agent ends at one of its agents
met : (p : Progress) (agent next last end : ℕ) (xs ys : List ℕ) → IsChain p agent (next ∷ xs) last → IsChain p agent ys end → length xs < length ys → IsOff last ys → ⊥
met p agent next last end xs [] chain other short off = omega arith
met p agent next last end [] (y ∷ ys) chain other short off = off.0 (sym chain.1 ∙ one_holder p agent next y chain.0 other.0)
met p agent next last end (x ∷ xs) (y ∷ ys) chain other short off =
    met p next x last end xs ys chain.1 (subst (λ n. IsChain p n ys end) (sym (one_holder p agent next y chain.0 other.0)) other.1) (omega arith) off.1

-- so does any where the other ends at an agent that isn't held
stopped : (p : Progress) (agent next last end : ℕ) (xs ys : List ℕ) → IsChain p agent (next ∷ xs) last → IsChain p agent ys end → ((other : ℕ) → IsHeldBy p end other → ⊥) → IsOff last ys → ⊥
stopped p agent next last end xs [] chain same free off = free next (subst (λ n. IsHeldBy p n next) same chain.0)
stopped p agent next last end [] (y ∷ ys) chain other free off = off.0 (sym chain.1 ∙ one_holder p agent next y chain.0 other.0)
stopped p agent next last end (x ∷ xs) (y ∷ ys) chain other free off =
    stopped p next x last end xs ys chain.1 (subst (λ n. IsChain p n ys end) (sym (one_holder p agent next y chain.0 other.0)) other.1) free off.1

-- the agents that were gone through, one after another, from this agent on
pub record IsWalked (p : Progress) (agent last count : ℕ) : Type 0 where
  pub steps : List ℕ
  pub chain : IsChain p agent steps last
  pub off : IsOff agent steps
  pub many : length steps ≡ count
  pub within : last < length p.numbers

pub walked_first : (p : Progress) (agent : ℕ) → agent < length p.numbers → IsWalked p agent agent 0
walked_first p agent within = record { steps = []; chain = refl; off = tt; many = refl; within = within }

pub walked_more : (p : Progress) (agent last next count : ℕ) → IsWalked p agent last count → IsHeldBy p last next → next ≢ agent → next < length p.numbers → IsWalked p agent next (count + 1)
walked_more p agent last next count walked held differ within = record {
  steps = walked.steps ++ next ∷ [];
  chain = chain_more p agent last next walked.steps walked.chain held;
  off = off_more agent next walked.steps walked.off (λ e. differ (sym e));
  many = omega (arith, length-append walked.steps (next ∷ []), walked.many);
  within = within;
}

-- after as many steps as there are agents none leads back
pub walked_all : (p : Progress) → IsProgress p → (agent last count : ℕ) → IsWalked p agent last count → length p.numbers ≤ count → IsInCycle p agent → ⊥
walked_all p progress agent last count walked all (next, others, cycle) =
    let (ys, short, different) = shortened_first p agent next agent others cycle.0 cycle.1 in
    let few = length-le_from_distinct_below (next ∷ ys) (length p.numbers) (distinct_of (next ∷ ys) different) (below p progress agent agent (next ∷ ys) short) in
    met p agent next agent last ys walked.steps short walked.chain (omega (arith, walked.many, few)) walked.off

-- nor where the last one isn't held
pub walked_to_end : (p : Progress) (agent last count : ℕ) → IsWalked p agent last count → ((other : ℕ) → IsHeldBy p last other → ⊥) → IsInCycle p agent → ⊥
walked_to_end p agent last count walked free (next, others, cycle) = stopped p agent next agent last others walked.steps cycle walked.chain free walked.off

in_cycle : (p : Progress) (agent last : ℕ) (steps : List ℕ) → IsChain p agent steps last → IsHeldBy p last agent → IsInCycle p agent
in_cycle p agent last [] same held = (agent, [], (subst (λ n. IsHeldBy p n agent) (sym same) held, refl))
in_cycle p agent last (x ∷ steps) chain held = (x, steps ++ agent ∷ [], (chain.0, chain_more p x last agent steps chain.1 held))

pub walked_round : (p : Progress) (agent last count : ℕ) → IsWalked p agent last count → IsHeldBy p last agent → IsInCycle p agent
walked_round p agent last count walked held = in_cycle p agent last walked.steps walked.chain held

chain_within : (p : Progress) → IsProgress p → (agent next last : ℕ) (xs : List ℕ) → IsChain p agent (next ∷ xs) last → last < length p.numbers
chain_within p progress agent next last [] chain = subst (λ n. n < length p.numbers) chain.1 (holder_within p progress agent next chain.0)
chain_within p progress agent next last (x ∷ xs) chain = chain_within p progress next x last xs chain.1

-- the agents below a number that stand in cycles
pub record AreInCyclesBelow (p : Progress) (bound : ℕ) (agents : List ℕ) : Type 0 where
  pub each : (n agent : ℕ) → slice_get agents n ≡ Some agent → IsInCycle p agent × (agent < bound)
  pub all : (agent : ℕ) → agent < bound → IsInCycle p agent → (n : ℕ) × (slice_get agents n ≡ Some agent)
  pub rising : (m n a b : ℕ) → m < n → slice_get agents m ≡ Some a → slice_get agents n ≡ Some b → a < b

pub cycles_first : (p : Progress) → AreInCyclesBelow p 0 []
cycles_first p = record { each = λ n agent is. absurd cc; all = λ agent low in_cycle. absurd (omega arith); rising = λ m n a b less is_a is_b. absurd cc }

pub cycles_without : (p : Progress) (bound : ℕ) (agents : List ℕ) → AreInCyclesBelow p bound agents → (IsInCycle p bound → ⊥) → AreInCyclesBelow p (bound + 1) agents
cycles_without p bound agents are none = record {
  each = λ n agent is. let here = are.each n agent is in (here.0, let low = here.1 in omega arith);
  all = λ agent low in_cycle. ⊎_elim
      (λ (lower : agent < bound). are.all agent lower in_cycle)
      (λ (high : bound ≤ agent). let same : agent ≡ bound = omega arith in absurd (none (subst (IsInCycle p) same in_cycle)))
      (cases_lt agent bound);
  rising = are.rising;
}

-- an agent of the list with one more is that one, or was there
more_agents : (agents : List ℕ) (new n agent : ℕ) → slice_get (agents ++ new ∷ []) n ≡ Some agent → ((n ≡ length agents) × (agent ≡ new)) ⊎ (slice_get agents n ≡ Some agent)
more_agents agents new n agent is = ⊎_elim
    (λ (within : n < length agents). inr (sym (slice_get-front agents (new ∷ []) n within) ∙ is))
    (λ (past : length agents ≤ n).
    let inside = slice_get_within (agents ++ new ∷ []) n agent is in
    let count = length-append agents (new ∷ []) in
    let here : n ≡ length agents = omega arith in
    inl (here, same_Some agent new (sym is ∙ ap (slice_get (agents ++ new ∷ [])) here ∙ slice_get-here agents [] new)))
    (cases_lt n (length agents))

pub cycles_with : (p : Progress) (bound : ℕ) (agents : List ℕ) → AreInCyclesBelow p bound agents → IsInCycle p bound → AreInCyclesBelow p (bound + 1) (agents ++ bound ∷ [])
cycles_with p bound agents are this = record {
  each = λ n agent is. ⊎_elim
      (λ (last : (n ≡ length agents) × (agent ≡ bound)). (subst (IsInCycle p) (sym last.1) this, let same = last.1 in omega arith))
      (λ (was : slice_get agents n ≡ Some agent). let here = are.each n agent was in (here.0, let low = here.1 in omega arith))
      (more_agents agents bound n agent is);
  all = λ agent low in_cycle. ⊎_elim
      (λ (lower : agent < bound).
      let (n, is) = are.all agent lower in_cycle in
      (n, slice_get-front agents (bound ∷ []) n (slice_get_within agents n agent is) ∙ is))
      (λ (high : bound ≤ agent). let same : bound ≡ agent = omega arith in (length agents, slice_get-here agents [] bound ∙ ap Some same))
      (cases_lt agent bound);
  rising = λ m n a b less is_a is_b. ⊎_elim
      (λ (last : (n ≡ length agents) × (b ≡ bound)). ⊎_elim
      (λ (also : (m ≡ length agents) × (a ≡ bound)). absurd (let x = last.0 in let y = also.0 in omega arith))
      (λ (was : slice_get agents m ≡ Some a). let low = (are.each m a was).1 in let same = last.1 in omega arith)
      (more_agents agents bound m a is_a))
      (λ (was : slice_get agents n ≡ Some b).
      let inside = slice_get_within agents n b was in
      are.rising m n a b less (sym (slice_get-front agents (bound ∷ []) m (omega arith)) ∙ is_a) was)
      (more_agents agents bound n b is_b);
}

pub cycles_all : (p : Progress) → IsProgress p → (agents : List ℕ) (bound : ℕ) → length p.numbers ≤ bound → AreInCyclesBelow p bound agents → AreInCycles p agents
cycles_all p progress agents bound enough are = record {
  each = λ n agent is. (are.each n agent is).0;
  all = λ agent cycle. are.all agent (let within = chain_within p progress agent cycle.0 agent cycle.1 cycle.2 in omega arith) cycle;
  rising = are.rising;
}

pub fields_more : (agents : List ℕ) (agent : ℕ) → agent_fields (agents ++ agent ∷ []) ≡ agent_fields agents ++ field 32 agent
fields_more [] agent = append-nil (field 32 agent)
fields_more (x ∷ agents) agent = ap (λ bs. field 32 x ++ bs) (fields_more agents agent) ∙ sym (append_assoc (field 32 x) (agent_fields agents) (field 32 agent))

-- one agent more is named
pub cycle_more : (old now new agents : List ℕ) (agent n : ℕ) → now ≡ old ++ (codes "cycle" ++ agent_fields agents) → n ≡ agent → new ≡ now ++ field 32 n → new ≡ old ++ (codes "cycle" ++ agent_fields (agents ++ agent ∷ []))
cycle_more old now new agents agent n now_is same new_is =
    new_is ∙ ap (λ k. now ++ field 32 k) same ∙ ap (λ bs. bs ++ field 32 agent) now_is ∙ append_assoc old (codes "cycle" ++ agent_fields agents) (field 32 agent)
    ∙ ap (λ bs. old ++ bs) (append_assoc (codes "cycle") (agent_fields agents) (field 32 agent) ∙ ap (λ bs. codes "cycle" ++ bs) (sym (fields_more agents agent)))

-- all are named
pub cycle_end : (old now new agents : List ℕ) → now ≡ old ++ (codes "cycle" ++ agent_fields agents) → new ≡ now ++ 10 ∷ [] → new ≡ old ++ cycle_line agents
cycle_end old now new agents now_is new_is =
    new_is ∙ ap (λ bs. bs ++ 10 ∷ []) now_is ∙ append_assoc old (codes "cycle" ++ agent_fields agents) (10 ∷ [])
    ∙ ap (λ bs. old ++ bs) (append_assoc (codes "cycle") (agent_fields agents) (10 ∷ []))
