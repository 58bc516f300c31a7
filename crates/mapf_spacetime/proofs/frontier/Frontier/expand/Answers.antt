use Rattle.std.proofs.Common.{◌≡◌, ◌+◌, ◌^◌, ◌<◌, ◌≤◌, ◌∷◌, ◌++◌, ◌∙◌, [], length, length-append, refl, sym, ap, subst, Contains, arith}
use Rattle.std.proofs.lemmas.List.Elements.{Contains-push}
use Rattle.mapf_spacetime.specs.Task.{IsWithin}
use Rattle.mapf_spacetime.specs.Frontiers.{AreLowReached, IsFrontier, takes_left, with_open, with_reached}
use Rattle.mapf_spacetime.proofs.FrontierLemmas.{open_value, reach_new, reach_old}
use Rattle.mapf_spacetime.proofs.LevelLemmas.{level_steps, open_arrived, takes_new, takes_old}
use Rattle.mapf_spacetime.proofs.ValueLemmas.{level_within}
use Rattle.mapf_spacetime.proofs.frontier.Frontier.expand.Goals as goal
use Rattle.mapf_spacetime.proofs.frontier.Frontier.expand.Goals.{then-branch+in_ok-take_all, else-branch}

pub returns-then-is_arrival-clause-expanded : goal.returns-then-is_arrival-clause-expanded
returns-then-is_arrival-clause-expanded g c =
    let task = c.args.task.now in
    let f = subst (IsFrontier task []) c.in-Some.ensures.some c.loop.invariant.frontier in
    open_arrived task c.take_open.new.self c.in-Some.state f (c.if-is_arrival.ensures.goal refl) (c.if-is_arrival.ensures.rest refl)

pub reach-requires : goal.reach-requires
reach-requires g c =
    let task = c.args.task.now in
    let f = subst (IsFrontier task []) c.in-Some.ensures.some c.loop.invariant.frontier in
    let sum = (open_value task c.take_open.new.self c.in-Some.state f).sum in
    let cost = sym (ap (λ states. states.cost) c.in-Some.ensures.some) ∙ c.loop.invariant.cost in
    let small = c.requires.small in
    omega arith

pub take_all-requires-clause-reached : goal.take_all-requires-clause-reached
take_all-requires-clause-reached g c = subst (λ states. Contains states.reached c.in-Some.state) (sym (c.in_ok-reach.ensures.new c.if-branch.true)) (Contains-push c.take_open.new.self.reached c.in-Some.state)

pub take_all-requires-clause-within : goal.take_all-requires-clause-within
take_all-requires-clause-within g c =
    let task = c.args.task.now in
    let f = subst (IsFrontier task []) c.in-Some.ensures.some c.loop.invariant.frontier in
    subst (λ states. IsWithin task states.cost c.in-Some.state) (sym (c.in_ok-reach.ensures.new c.if-branch.true)) (level_within task c.in-Some.state c.take_open.new.self.cost (open_value task c.take_open.new.self c.in-Some.state f))

pub take_all-requires-clause-low : goal.take_all-requires-clause-low
take_all-requires-clause-low g c =
    let task = c.args.task.now in
    let f = subst (IsFrontier task []) c.in-Some.ensures.some c.loop.invariant.frontier in
    let states = with_reached c.take_open.new.self c.in-Some.state in
    subst (AreLowReached task c.in-Some.state) (sym (c.in_ok-reach.ensures.new c.if-branch.true)) (level_steps task states c.in-Some.state (open_value task c.take_open.new.self c.in-Some.state f))

pub loop-preserved : goal.loop-preserved
loop-preserved g c =
    let task = c.args.task.now in
    let before = c.take_open.new.self in
    let state = c.in-Some.state in
    let some = c.in-Some.ensures.some in
    let f = subst (IsFrontier task []) some c.loop.invariant.frontier in
    let cost = sym (ap (λ states. states.cost) some) ∙ c.loop.invariant.cost in
    let fewer = subst (λ states. takes_left states + c.loop.counter ≤ takes_left c.args.self.now) some c.loop.invariant.fewer in
    elim c.if-branch.branch [
      | then-branch+in_ok-take_all w ↦
          let new = c.in_ok-reach.ensures.new w.if-branch.true in
          let reached = subst (IsFrontier task (state ∷ [])) (sym new) (reach_new task before state f (c.if-is_arrival.ensures.no refl)) in
          let keeps = w.in_ok-take_all.ensures.keeps in
          let one : length w.take_all.new.self.reached ≡ length (with_open before state).reached + 1 =
          ap length (keeps.reached ∙ ap (λ states. states.reached) new) ∙ length-append before.reached (state ∷ []) in
          let small : length w.take_all.new.self.reached < 2 ^ 64 = subst (λ l. length l < 2 ^ 64) (sym keeps.reached) c.in_ok-reach.ensures.small in
          let left = takes_new (with_open before state) w.take_all.new.self one small in
          rw w.self-is (record {
            frontier = w.in_ok-take_all.ensures.frontier [] reached;
            cost = keeps.cost ∙ ap (λ states. states.cost) new ∙ cost;
            fewer = omega arith;
          })
      | else-branch w ↦
          let old = c.in_ok-reach.ensures.old w.if-branch.false in
          let open_small : length (before.open_states ++ state ∷ []) < 2 ^ 64 = subst (λ states. length states.open_states < 2 ^ 64) some c.in-Some.ensures.small in
          let left = subst (λ states. takes_left states + 1 ≤ takes_left (with_open before state)) (sym old.0) (takes_old before state open_small) in
          rw w.self-is (record {
            frontier = subst (IsFrontier task []) (sym old.0) (reach_old task before state f old.1);
            cost = ap (λ states. states.cost) old.0 ∙ cost;
            fewer = omega arith;
          })
    ]
