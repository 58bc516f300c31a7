use Rattle.std.proofs.Common.{◌≡◌, length, refl, ap, subst, arith, None, Some, slice_get}
use Rattle.std.proofs.lemmas.Option.{slice_get_read}
use Rattle.mapf_model.proofs.ClaimLemmas.{slice_get_inside}
use Rattle.mapf_cbs.specs.declared.node.Status.TheVariants.{Open}
use Rattle.mapf_cbs.specs.declared.whole_node.WholeNode.{WholeNode}
use Rattle.mapf_cbs.specs.Whole.{IsLeastOpen, IsLeastBelow}
use Rattle.mapf_cbs.proofs.WholeLemmas.{skip_closed, keep_least, take_cheaper, take_first}
use Rattle.mapf_cbs.proofs.whole_tree.least_with.Goals as goal

pub returns-then-not-is_open : goal.returns-then-not-is_open
returns-then-not-is_open c =
    let same = c.requires.same in let inside = c.requires.inside in
    let status = slice_get_read c.args.statuses.now (length c.args.statuses.now) c.args.k c.index-statuses-k.result refl (omega (arith, same, inside)) c.index-statuses-k.is in
    skip_closed c.args.nodes.now c.args.statuses.now c.args.k c.args.least c.index-statuses-k.result status (λ e. let closed = c.if-not-is_open.ensures.1 e in cc) c.requires.least

pub returns-then-nodes-m : goal.returns-then-nodes-m
returns-then-nodes-m c =
    let nodes = c.args.nodes.now in
    let least : IsLeastOpen nodes c.args.statuses.now c.args.k c.in-Some.m = subst (IsLeastBelow nodes c.args.statuses.now c.args.k) c.in-Some.is c.requires.least in
    let inside = c.requires.inside in let before = least.inside in
    let old = slice_get_read nodes (length nodes) c.in-Some.m c.index-nodes-m.result refl (omega (arith, inside, before)) c.index-nodes-m.is in
    let here = slice_get_read nodes (length nodes) c.args.k c.index-nodes-k.result refl inside c.index-nodes-k.is in
    let a = ap (λ (n : WholeNode). n.total) c.index-nodes-m.is in let b = ap (λ (n : WholeNode). n.total) c.index-nodes-k.is in
    keep_least nodes c.args.statuses.now c.args.k c.in-Some.m c.index-nodes-m.result old c.index-nodes-k.result here least (let h = c.if-nodes-m.true in omega (arith, a, b, h))

pub returns-else-nodes-m : goal.returns-else-nodes-m
returns-else-nodes-m c =
    let nodes = c.args.nodes.now in
    let least : IsLeastOpen nodes c.args.statuses.now c.args.k c.in-Some.m = subst (IsLeastBelow nodes c.args.statuses.now c.args.k) c.in-Some.is c.requires.least in
    let inside = c.requires.inside in let before = least.inside in let same = c.requires.same in
    let old = slice_get_read nodes (length nodes) c.in-Some.m c.index-nodes-m.result refl (omega (arith, inside, before)) c.index-nodes-m.is in
    let here = slice_get_read nodes (length nodes) c.args.k c.index-nodes-k.result refl inside c.index-nodes-k.is in
    let status = slice_get_read c.args.statuses.now (length c.args.statuses.now) c.args.k c.index-statuses-k.result refl (omega (arith, same, inside)) c.index-statuses-k.is in
    let a = ap (λ (n : WholeNode). n.total) c.index-nodes-m.is in let b = ap (λ (n : WholeNode). n.total) c.index-nodes-k.is in
    let is_open : c.index-statuses-k.result ≡ Open = c.if-not-is_open.ensures.0 refl in
    take_cheaper nodes c.args.statuses.now c.args.k c.in-Some.m c.index-nodes-m.result old c.index-nodes-k.result here least (subst (λ f. slice_get c.args.statuses.now c.args.k ≡ Some f) is_open status) (let h = c.if-nodes-m.false in omega (arith, a, b, h))

pub returns-in_default : goal.returns-in_default
returns-in_default c =
    let same = c.requires.same in let inside = c.requires.inside in
    let none : IsLeastBelow c.args.nodes.now c.args.statuses.now c.args.k None = subst (IsLeastBelow c.args.nodes.now c.args.statuses.now c.args.k) c.in_default.is c.requires.least in
    let here : (node : WholeNode) × (slice_get c.args.nodes.now c.args.k ≡ Some node) = slice_get_inside c.args.nodes.now c.args.k inside in
    let status = slice_get_read c.args.statuses.now (length c.args.statuses.now) c.args.k c.index-statuses-k.result refl (omega (arith, same, inside)) c.index-statuses-k.is in
    let is_open : c.index-statuses-k.result ≡ Open = c.if-not-is_open.ensures.0 refl in
    take_first c.args.nodes.now c.args.statuses.now c.args.k here.0 here.1 (subst (λ f. slice_get c.args.statuses.now c.args.k ≡ Some f) is_open status) none
