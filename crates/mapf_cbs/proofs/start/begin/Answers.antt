use Rattle.std.proofs.Common.{◌∷◌, [], length, subst, ap, arith, ◌∙◌}
use Rattle.mapf_model.specs.Grid.{IsGridMap}
use Rattle.mapf_model.specs.Tree.{LeafNode}
use Rattle.mapf_model.specs.Pairs.{IsFirstPair, HoldsOfNoPair}
use Rattle.mapf_cbs.specs.Start.{HaveGoal}
use Rattle.mapf_cbs.proofs.StartLemmas.{leaf_answer, clash_answer, none_share}
use Rattle.mapf_cbs.proofs.start.begin.Goals as goal

pub returns-in-Some : goal.returns-in-Some
returns-in-Some c limit =
    let agents = c.agents.ensures.value in
    clash_answer c.args.problem.now limit c.in-Some.i c.in-Some.j (subst (λ xs. IsFirstPair (HaveGoal xs) (length xs) (c.in-Some.i, c.in-Some.j)) agents c.in-Some.ensures.some) c.in_ok-tree.tree.items (c.in_ok-tree.ensures ∙ ap (λ n. n ∷ []) c.clash-clash.ensures)

pub returns-in-Some-2 : goal.returns-in-Some-2
returns-in-Some-2 c =
    let agents = c.agents.ensures.value in
    let size = ap length agents in
    let some = c.agents.ensures.some in
    let few = c.agents.ensures.few in
    let found = rw c.in-Some-2.is at c.in_ok-paths.ensures.count in
    record {
      shape = subst IsGridMap c.grid.ensures c.width-width.ensures.shape;
      agents = (omega (arith, size, some), omega (arith, size, few));
      goals = none_share c.args.problem.now (subst (λ xs. HoldsOfNoPair (HaveGoal xs) (length xs)) agents c.in_default.ensures.none);
      count = found;
      shortest = rw c.in-Some-2.is at c.in_ok-paths.ensures.shortest;
    }

pub returns-in_ok-tree-in-None : goal.returns-in_ok-tree-in-None
returns-in_ok-tree-in-None c limit =
    let unreachable = rw c.in-None.is at c.in_ok-paths.ensures.unreachable in
    let agents = c.agents.ensures.value in
    let goals = none_share c.args.problem.now (subst (λ xs. HoldsOfNoPair (HaveGoal xs) (length xs)) agents c.in_default.ensures.none) in
    leaf_answer c.args.problem.now limit goals unreachable c.in_ok-tree-in-None.tree.items (c.in_ok-tree-in-None.ensures ∙ ap (λ n. n ∷ []) (c.leaf.ensures ∙ ap LeafNode c.none.ensures))
