use Rattle.std.proofs.Common.{◌≡◌, ◌≤◌, ◌++◌, ◌∷◌, [], List, ℕ, Contains, length-set, max, min, ◌∙◌, ap, subst, take, ⊎_elim, arith}
use Rattle.std.proofs.lemmas.List.Elements.{Contains-push_cases}
use Rattle.mapf_model.specs.declared.state.State.{State}
use Rattle.mapf_spacetime.proofs.SetLemmas.{added_few, added_more}
use Rattle.mapf_spacetime.proofs.state_set.StateSet.add.Goals as goal
use Rattle.mapf_spacetime.proofs.state_set.StateSet.add.Goals.{then-count-lt-FEW, else-count-lt-FEW+in_ok-insert}

-- the state is the last one of the set
now_last : (c : goal.After-len-count) → take c.if-count-lt-FEW.self-inside.count c.if-count-lt-FEW.self-inside.few ++ c.if-count-lt-FEW.self-inside.more.keys ≡ (take c.self.inside.count c.self.inside.few ++ c.self.inside.more.keys) ++ c.args.state ∷ []
now_last c =
    let few = c.self.inside.few in
    let n = c.self.inside.count in
    let more = c.self.inside.more.keys in
    elim c.if-count-lt-FEW.branch [
      | then-count-lt-FEW w ↦ let below = w.if-count-lt-FEW.true in
          rw w.self-inside-is (added_few few more n c.args.state (let size = c.self.invariant.0 in omega (arith, size, below)) (c.self.invariant.2 below))
      | else-count-lt-FEW+in_ok-insert w ↦
          rw w.self-inside-is (added_more (take n few) more w.insert.new.self.keys c.args.state (rw (← c.self.view_is) at c.requires) w.in_ok-insert.ensures.keys)
    ]

pub returns-clause-added : goal.returns-clause-added
returns-clause-added c = now_last c ∙ ap (λ (set : List State). set ++ c.args.state ∷ []) c.self.view_is

-- if memory ran out, the set is as before
pub invariant_of-self : goal.invariant_of-self
invariant_of-self c = rw c.in_err-insert.ensures.err c.self.invariant

-- the ticks reach to the state that was added
reach : (old now : List State) (s : State) (first last least most : ℕ) → now ≡ old ++ s ∷ [] → ((x : State) → Contains old x → (first ≤ x.tick) × (x.tick ≤ last)) → least ≡ min first s.tick → most ≡ max last s.tick → (x : State) → Contains now x → (least ≤ x.tick) × (x.tick ≤ most)
reach old now s first last least most is within low high x held = ⊎_elim
    (λ (before : Contains old x). let w = within x before in (omega (arith, w.0, low), omega (arith, w.1, high)))
    (λ (same : s ≡ x). let tick = ap (λ (s : State). s.tick) same in (omega (arith, tick, low), omega (arith, tick, high)))
    (Contains-push_cases old s x (subst (λ (xs : List State). Contains xs x) is held))

pub invariant_of-self-2 : goal.invariant_of-self-2
invariant_of-self-2 c =
    let old = take c.self.inside.count c.self.inside.few ++ c.self.inside.more.keys in
    let now = take c.if-count-lt-FEW.self-inside.count c.if-count-lt-FEW.self-inside.few ++ c.if-count-lt-FEW.self-inside.more.keys in
    let size = c.self.invariant.0 in
    elim c.if-count-lt-FEW.branch [
      | then-count-lt-FEW w ↦ let below = w.if-count-lt-FEW.true in (
        rw w.self-inside-is (length-set c.self.inside.few c.self.inside.count c.args.state ∙ size),
        rw w.self-inside-is (omega (arith, below)),
        λ more. rw w.self-inside-is (c.self.invariant.2 below),
        reach old now c.args.state c.self.inside.first c.self.inside.last c.min-self-inside.result c.max-self-inside.result (now_last c) c.self.invariant.3 (rw w.self-inside-is at c.min-self-inside.ensures) (rw w.self-inside-is at c.max-self-inside.ensures),
      )
      | else-count-lt-FEW+in_ok-insert w ↦ let full = w.if-count-lt-FEW.false in (
        rw w.self-inside-is size,
        rw w.self-inside-is c.self.invariant.1,
        λ more. absurd (let below = rw w.self-inside-is at more in omega (arith, below, full)),
        reach old now c.args.state c.self.inside.first c.self.inside.last c.min-self-inside.result c.max-self-inside.result (now_last c) c.self.invariant.3 (rw w.self-inside-is at c.min-self-inside.ensures) (rw w.self-inside-is at c.max-self-inside.ensures),
      )
    ]
