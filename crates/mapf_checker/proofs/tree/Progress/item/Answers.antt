use Rattle.std.proofs.Common.{◌≡◌, ◌∙◌, sym, ap, subst}
use Rattle.mapf_certificate.specs.Certificates.{IsNode}
use Rattle.mapf_model.specs.Nodes.{node_with}
use Rattle.mapf_model.specs.Tree.{Node, SplitNode, LeafNode, ClashNode, blocks_of, node_of}
use Rattle.std.specs.Prelude.{OnOk, IfErr, length}
use Rattle.mapf_checker.specs.Faults.{IsOfJudging}
use Rattle.mapf_checker.specs.NodeDefects.{HasNodeDefect, IsGoodNode}
use Rattle.mapf_checker.specs.Progress.{AreAllAlike, here_of, pending_by, contexts_after}
use Rattle.mapf_checker.proofs.TreeLemmas.{on_ok, all_alike_if_same}
use Rattle.mapf_checker.proofs.tree.Progress.item.Goals as goal

pub split-requires-clause-blocks : goal.split-requires-clause-blocks
split-requires-clause-blocks c =
    let node = node_of c.args.item.now in
    let is : node ≡ SplitNode c.in-Split.conflict c.blocks-in-Split.result.now = sym c.kind.ensures ∙ ap (λ k. node_with k (blocks_of node)) c.in-Split.is ∙ ap (SplitNode c.in-Split.conflict) (sym c.blocks-in-Split.ensures) in
    let (version, of) = c.requires.node in
    (subst (IsNode version c.args.problem.now.grid (length c.args.problem.now.agents)) is of).1

pub returns-in-Split-clause-pending : goal.returns-in-Split-clause-pending
returns-in-Split-clause-pending c =
    let node = node_of c.args.item.now in
    let is : node ≡ SplitNode c.in-Split.conflict c.blocks-in-Split.result.now = sym c.kind.ensures ∙ ap (λ k. node_with k (blocks_of node)) c.in-Split.is ∙ ap (SplitNode c.in-Split.conflict) (sym c.blocks-in-Split.ensures) in
    subst (λ (n : Node). OnOk c.split.result (AreAllAlike c.args.problem.now (pending_by c.split.new.self) (contexts_after (pending_by c.args.self.now) n))) (sym is) c.split.ensures.pending

pub returns-in-Split-clause-good : goal.returns-in-Split-clause-good
returns-in-Split-clause-good c =
    let node = node_of c.args.item.now in
    let is : node ≡ SplitNode c.in-Split.conflict c.blocks-in-Split.result.now = sym c.kind.ensures ∙ ap (λ k. node_with k (blocks_of node)) c.in-Split.is ∙ ap (SplitNode c.in-Split.conflict) (sym c.blocks-in-Split.ensures) in
    subst (λ (n : Node). OnOk c.split.result (IsGoodNode c.args.problem.now c.args.claim.now (here_of c.args.self.now) n)) (sym is) c.split.ensures.good

pub returns-in-Split-clause-refused : goal.returns-in-Split-clause-refused
returns-in-Split-clause-refused c =
    let node = node_of c.args.item.now in
    let is : node ≡ SplitNode c.in-Split.conflict c.blocks-in-Split.result.now = sym c.kind.ensures ∙ ap (λ k. node_with k (blocks_of node)) c.in-Split.is ∙ ap (SplitNode c.in-Split.conflict) (sym c.blocks-in-Split.ensures) in
    subst (λ (n : Node). IfErr c.split.result (IsOfJudging (HasNodeDefect c.args.problem.now c.args.claim.now (here_of c.args.self.now) n))) (sym is) (c.split.ensures.refused c.args.claim.now)

pub leaf-requires-clause-blocks : goal.leaf-requires-clause-blocks
leaf-requires-clause-blocks c =
    let node = node_of c.args.item.now in
    let is : node ≡ LeafNode c.blocks-in-Leaf.result.now = sym c.kind.ensures ∙ ap (λ k. node_with k (blocks_of node)) c.in-Leaf.is ∙ ap LeafNode (sym c.blocks-in-Leaf.ensures) in
    let (version, of) = c.requires.node in
    subst (IsNode version c.args.problem.now.grid (length c.args.problem.now.agents)) is of

pub returns-in-Leaf-clause-pending : goal.returns-in-Leaf-clause-pending
returns-in-Leaf-clause-pending c =
    let node = node_of c.args.item.now in
    let is : node ≡ LeafNode c.blocks-in-Leaf.result.now = sym c.kind.ensures ∙ ap (λ k. node_with k (blocks_of node)) c.in-Leaf.is ∙ ap LeafNode (sym c.blocks-in-Leaf.ensures) in
    subst (λ (n : Node). OnOk c.leaf.result (AreAllAlike c.args.problem.now (pending_by c.leaf.new.self) (contexts_after (pending_by c.args.self.now) n))) (sym is)
    (on_ok c.leaf.result (all_alike_if_same c.args.problem.now (pending_by c.leaf.new.self) (contexts_after (pending_by c.args.self.now) (LeafNode c.blocks-in-Leaf.result.now))) c.leaf.ensures.pending)

pub returns-in-Leaf-clause-good : goal.returns-in-Leaf-clause-good
returns-in-Leaf-clause-good c =
    let node = node_of c.args.item.now in
    let is : node ≡ LeafNode c.blocks-in-Leaf.result.now = sym c.kind.ensures ∙ ap (λ k. node_with k (blocks_of node)) c.in-Leaf.is ∙ ap LeafNode (sym c.blocks-in-Leaf.ensures) in
    subst (λ (n : Node). OnOk c.leaf.result (IsGoodNode c.args.problem.now c.args.claim.now (here_of c.args.self.now) n)) (sym is) c.leaf.ensures.good

pub returns-in-Leaf-clause-refused : goal.returns-in-Leaf-clause-refused
returns-in-Leaf-clause-refused c =
    let node = node_of c.args.item.now in
    let is : node ≡ LeafNode c.blocks-in-Leaf.result.now = sym c.kind.ensures ∙ ap (λ k. node_with k (blocks_of node)) c.in-Leaf.is ∙ ap LeafNode (sym c.blocks-in-Leaf.ensures) in
    subst (λ (n : Node). IfErr c.leaf.result (IsOfJudging (HasNodeDefect c.args.problem.now c.args.claim.now (here_of c.args.self.now) n))) (sym is) c.leaf.ensures.refused

pub returns-in-Clash-clause-pending : goal.returns-in-Clash-clause-pending
returns-in-Clash-clause-pending c =
    let node = node_of c.args.item.now in
    let is : node ≡ ClashNode c.in-Clash.i c.in-Clash.j = sym c.kind.ensures ∙ ap (λ k. node_with k (blocks_of node)) c.in-Clash.is in
    subst (λ (n : Node). OnOk c.clash.result (AreAllAlike c.args.problem.now (pending_by c.clash.new.self) (contexts_after (pending_by c.args.self.now) n))) (sym is)
    (on_ok c.clash.result (all_alike_if_same c.args.problem.now (pending_by c.clash.new.self) (contexts_after (pending_by c.args.self.now) (ClashNode c.in-Clash.i c.in-Clash.j))) c.clash.ensures.pending)

pub returns-in-Clash-clause-good : goal.returns-in-Clash-clause-good
returns-in-Clash-clause-good c =
    let node = node_of c.args.item.now in
    let is : node ≡ ClashNode c.in-Clash.i c.in-Clash.j = sym c.kind.ensures ∙ ap (λ k. node_with k (blocks_of node)) c.in-Clash.is in
    subst (λ (n : Node). OnOk c.clash.result (IsGoodNode c.args.problem.now c.args.claim.now (here_of c.args.self.now) n)) (sym is) c.clash.ensures.good

pub returns-in-Clash-clause-refused : goal.returns-in-Clash-clause-refused
returns-in-Clash-clause-refused c =
    let node = node_of c.args.item.now in
    let is : node ≡ ClashNode c.in-Clash.i c.in-Clash.j = sym c.kind.ensures ∙ ap (λ k. node_with k (blocks_of node)) c.in-Clash.is in
    subst (λ (n : Node). IfErr c.clash.result (IsOfJudging (HasNodeDefect c.args.problem.now c.args.claim.now (here_of c.args.self.now) n))) (sym is) (c.clash.ensures.refused c.args.claim.now)
