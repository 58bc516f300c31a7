use Rattle.std.proofs.Common.{map, reverse, subst}
use Rattle.mapf_lemmas.specs.Cases.{with_constraint}
use Rattle.mapf_cases.specs.Layers.{addition_of}
use Rattle.mapf_cases.specs.Rules.{CanRemove, Indexes}
use Rattle.mapf_cases.specs.Standing.{singles_after, clearings_of}
use Rattle.mapf_cases.proofs.StandingLemmas.{AreLayers-one, AreLayers-others, reverse_push}
use Rattle.mapf_cases.proofs.standing.Standing.add.Goals as goal
use Rattle.mapf_cases.proofs.standing.Standing.add.Goals.{in-One+in_ok-add-in-One, in-Others+in_ok-add-in-Others}

pub invariant_of-self-in_err-add-in-One : goal.invariant_of-self-in_err-add-in-One
invariant_of-self-in_err-add-in-One c =
    let are = c.self.invariant in
    let items = c.in_ok-reserve.ensures.items in
    rw items (record {
      indexed = c.in_err-add-in-One.ensures.unchanged (singles_after (map addition_of (reverse c.self.inside.layers.items))) are.indexed;
      kept = are.kept;
      undone = are.undone;
    })

pub invariant_of-self-in_err-add-in-Others : goal.invariant_of-self-in_err-add-in-Others
invariant_of-self-in_err-add-in-Others c =
    let are = c.self.invariant in
    let items = c.in_ok-reserve.ensures.items in
    rw items (record {
      indexed = are.indexed;
      kept = c.in_err-add-in-Others.ensures.unchanged (clearings_of (map addition_of (reverse c.self.inside.layers.items))) are.kept;
      undone = are.undone;
    })

pub invariant_of-self-2 : goal.invariant_of-self-2
invariant_of-self-2 c =
    let items = c.push_reserved.ensures.items in
    let kept = c.in_ok-reserve.ensures.items in
    let layers = reverse c.self.inside.layers.items in
    let are = c.self.invariant in
    elim c.match-addition.branch [
      | in-One+in_ok-add-in-One w ↦
          let layer = w.layer-is in
          let inside = w.self-inside-is in
          let own = w.in-One.own in
          let singles = singles_after (map addition_of layers) in
          rw (items, inside, layer, kept, reverse_push) (AreLayers-one layers c.self.inside.rules w.add.new.self c.self.inside.clears c.self.inside.clears are own w.in_ok-add-in-One.field-0
          (subst (λ k. Indexes (with_constraint singles own.agent k) w.add.new.self) w.of.ensures (w.in_ok-add-in-One.ensures.added singles are.indexed))
          (subst (λ k. CanRemove singles own.agent k w.in_ok-add-in-One.field-0) w.of.ensures (w.in_ok-add-in-One.ensures.undo singles are.indexed)))
      | in-Others+in_ok-add-in-Others w ↦
          let layer = w.layer-is in
          let inside = w.self-inside-is in
          let clears = clearings_of (map addition_of layers) in
          rw (items, inside, layer, kept, reverse_push) (AreLayers-others layers c.self.inside.rules c.self.inside.rules c.self.inside.clears w.add-in-Others.new.self are w.in-Others.agent w.in-Others.cell w.in-Others.tick w.in_ok-add-in-Others.field-0
          (w.in_ok-add-in-Others.ensures.added clears are.kept) (w.in_ok-add-in-Others.ensures.undo clears are.kept))
    ]
