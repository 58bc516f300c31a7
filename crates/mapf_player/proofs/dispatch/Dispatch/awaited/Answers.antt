use Rattle.std.proofs.Common.{◌≡◌, ◌<◌, ◌≤◌, ◌-◌, ℕ, Some, length, slice_get, arith, refl, sym, subst}
use Rattle.std.proofs.lemmas.Option.{slice_get_read}
use Rattle.mapf_player.specs.declared.dispatch.Turn.{Turn}
use Rattle.mapf_player.specs.Dispatching.{Progress, IsOfValidPlan}
use Rattle.mapf_player.specs.Turns.{AreSortedTurns, IsDue}
use Rattle.mapf_player.proofs.DueLemmas.{IsScanned, of_valid_progress, scanned_least, stopped_least, scanned_more}
use Rattle.mapf_player.proofs.dispatch.Dispatch.awaited.Goals as goal

pub is_due-requires-clause-progress : goal.is_due-requires-clause-progress
is_due-requires-clause-progress c = (of_valid_progress c.args.self.now (subst (λ (p : Progress). IsOfValidPlan p) c.self.view_is c.self.invariant.0)).0

pub is_due-requires-clause-turn : goal.is_due-requires-clause-turn
is_due-requires-clause-turn c =
    let sorted = subst (λ (p : Progress). AreSortedTurns p.visits c.self.inside.turns.items) c.self.view_is c.self.invariant.1 in
    let inside : c.loop-place.place - 1 < length c.self.inside.turns.items = (let w = c.loop-place.invariant.within in let i = c.loop-place.invariant.inside in let t = c.loop-place-test.true in omega arith) in
    sorted.complete.each c.index.result.now (c.loop-place.place - 1, inside, sym c.index.ensures)

pub loop-place-preserved : goal.loop-place-preserved
loop-place-preserved c =
    let inside : c.loop-place.place - 1 < length c.self.inside.turns.items = (let w = c.loop-place.invariant.within in let i = c.loop-place.invariant.inside in let t = c.loop-place-test.true in omega arith) in
    let is = slice_get_read c.self.inside.turns.items (length c.self.inside.turns.items) (c.loop-place.place - 1) c.index.result.now refl inside c.index.ensures in
    scanned_more c.args.self.now c.self.inside.turns.items c.first_key-from.result c.loop-place.place c.place_of-earlier.result c.loop-place.least c.index.result.now c.lesser.result c.loop-place.invariant c.loop-place-test.true is
    (c.is_due.ensures.0 c.if-not-is_due.false) c.lesser.ensures

pub returns-after-loop-place : goal.returns-after-loop-place
returns-after-loop-place c = λ agent next.
    let of_valid = subst (λ (p : Progress). IsOfValidPlan p) c.self.view_is c.self.invariant.0 in
    let sorted = subst (λ (p : Progress). AreSortedTurns p.visits c.self.inside.turns.items) c.self.view_is c.self.invariant.1 in
    let turns = c.self.inside.turns.items in
    let end = c.place_of-earlier.result in
    let scanned = subst (λ from. IsScanned c.args.self.now turns from c.loop-place.place end c.loop-place.least) c.first_key-from.ensures.key c.loop-place.invariant in
    scanned_least c.args.self.now of_valid turns sorted agent c.args.visit.now next c.requires end c.loop-place.invariant.inside
    (subst (λ (k : ℕ). (p : ℕ) (turn : Turn) → p < end → slice_get turns p ≡ Some turn → turn.key < k) c.key_of-key.ensures (subst (λ ts. (p : ℕ) (turn : Turn) → p < end → slice_get ts p ≡ Some turn → turn.key < c.key_of-key.result) c.deref.ensures.value c.place_of-earlier.ensures.before))
    (subst (λ (k : ℕ). (p : ℕ) (turn : Turn) → end ≤ p → slice_get turns p ≡ Some turn → k ≤ turn.key) c.key_of-key.ensures (subst (λ ts. (p : ℕ) (turn : Turn) → end ≤ p → slice_get ts p ≡ Some turn → c.key_of-key.result ≤ turn.key) c.deref.ensures.value c.place_of-earlier.ensures.behind))
    c.loop-place.place c.loop-place.least scanned (λ p turn below is due. let none = c.loop-place-test.false in absurd (omega arith))

pub returns-then-not-is_due : goal.returns-then-not-is_due
returns-then-not-is_due c = λ agent next.
    let of_valid = subst (λ (p : Progress). IsOfValidPlan p) c.self.view_is c.self.invariant.0 in
    let sorted = subst (λ (p : Progress). AreSortedTurns p.visits c.self.inside.turns.items) c.self.view_is c.self.invariant.1 in
    let turns = c.self.inside.turns.items in
    let end = c.place_of-earlier.result in
    let scanned = subst (λ from. IsScanned c.args.self.now turns from c.loop-place.place end c.loop-place.least) c.first_key-from.ensures.key c.loop-place.invariant in
    let inside : c.loop-place.place - 1 < length turns = (let w = c.loop-place.invariant.within in let i = c.loop-place.invariant.inside in let t = c.loop-place-test.true in omega arith) in
    let is = slice_get_read turns (length turns) (c.loop-place.place - 1) c.index.result.now refl inside c.index.ensures in
    stopped_least c.args.self.now of_valid turns sorted agent c.args.visit.now next c.requires end c.loop-place.invariant.inside
    (subst (λ (k : ℕ). (p : ℕ) (turn : Turn) → p < end → slice_get turns p ≡ Some turn → turn.key < k) c.key_of-key.ensures (subst (λ ts. (p : ℕ) (turn : Turn) → p < end → slice_get ts p ≡ Some turn → turn.key < c.key_of-key.result) c.deref.ensures.value c.place_of-earlier.ensures.before))
    (subst (λ (k : ℕ). (p : ℕ) (turn : Turn) → end ≤ p → slice_get turns p ≡ Some turn → k ≤ turn.key) c.key_of-key.ensures (subst (λ ts. (p : ℕ) (turn : Turn) → end ≤ p → slice_get ts p ≡ Some turn → c.key_of-key.result ≤ turn.key) c.deref.ensures.value c.place_of-earlier.ensures.behind))
    c.loop-place.place c.loop-place.least c.index.result.now scanned c.loop-place-test.true is
    (λ due. let yes = c.is_due.ensures.1 (subst (λ from. IsDue c.args.self.now c.index.result.now from) (sym c.first_key-from.ensures.key) due) in let no = c.if-not-is_due.true in absurd cc)
