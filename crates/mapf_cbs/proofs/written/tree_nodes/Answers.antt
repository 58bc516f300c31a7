use Rattle.std.proofs.Common.{◌≡◌, ◌<◌, ◌+◌, ◌∷◌, [], ◌++◌, Some, All, reverse, length, slice_set, refl, sym, ◌∙◌, ap, subst, arith}
use Rattle.std.proofs.lemmas.Option.{slice_get_read}
use Rattle.std.proofs.lemmas.List.Elements.{All-pop, All-push}
use Rattle.mapf_cbs.specs.Search.{AreBlocksAt}
use Rattle.mapf_model.proofs.PlaceLemmas.{length-slice_set}
use Rattle.mapf_cbs.proofs.ItemLemmas.{Leads, AreOwed, pending_first, pending_split, pending_leaf, blocks_at, leads_first, weights, weights-leaf, weights-split, reverse_push, leads_split, leads_leaf, leads_done, end_of}
use Rattle.mapf_cbs.proofs.written.tree_nodes.Goals as goal
use Rattle.std.proofs.lemmas.List.{nil_from_length}

pub loop-k-init : goal.loop-k-init
loop-k-init c =
    let pending : c.push.new.self.items ≡ 0 ∷ [] = c.in_ok-push.ensures.items ∙ ap (λ xs. xs ++ 0 ∷ []) c.new-pending.ensures.items in
    record {
      within = subst (λ xs. All (λ n. n < length c.args.statuses.now) xs) (sym pending) (All-push (λ n. n < length c.args.statuses.now) [] 0 (λ k d within. absurd (omega arith)) c.requires.some);
      count = sym c.requires.same;
      still = subst (λ xs. AreOwed c.args.statuses.now c.args.lists.items c.args.lists.items (reverse xs)) (sym pending) (pending_first c.args.statuses.now c.args.lists.items c.requires.one.0 c.requires.one.1);
      leads = λ views are. subst (λ xs. Leads views c.args.statuses.now c.new-nodes.result.items (reverse xs)) (sym pending) (subst (λ its. Leads views c.args.statuses.now its (0 ∷ [])) (sym c.new-nodes.ensures.items) (leads_first views c.args.statuses.now));
    }

pub index_mut-requires : goal.index_mut-requires
index_mut-requires c =
    let popped = All-pop (λ n. n < length c.args.statuses.now) c.loop-k.pending.items c.pop.new.self.items (Some c.in-Some.k) c.in-Some.ensures.items c.loop-k.invariant.within in
    let inside = popped.1 in let count = c.loop-k.invariant.count in
    omega (arith, inside, count, c.loop-k.lists.ok)

pub bounds-statuses-k : goal.bounds-statuses-k
bounds-statuses-k c =
    (All-pop (λ n. n < length c.args.statuses.now) c.loop-k.pending.items c.pop.new.self.items (Some c.in-Some.k) c.in-Some.ensures.items c.loop-k.invariant.within).1

pub overflow_add-left : goal.overflow_add-left
overflow_add-left c =
    let popped = All-pop (λ n. n < length c.args.statuses.now) c.loop-k.pending.items c.pop.new.self.items (Some c.in-Some.k) c.in-Some.ensures.items c.loop-k.invariant.within in
    let expanded = slice_get_read c.args.statuses.now (length c.args.statuses.now) c.in-Some.k c.index-statuses-k.result refl popped.1 c.index-statuses-k.is ∙ ap Some c.in-Expanded.is in
    let later = c.requires.later c.in-Some.k c.in-Expanded.conflict c.in-Expanded.left expanded in
    omega (arith, later.2)

pub loop-k-smaller-in-Continue-branch-4 : goal.loop-k-smaller-in-Continue-branch-4
loop-k-smaller-in-Continue-branch-4 c =
    let popped = All-pop (λ n. n < length c.args.statuses.now) c.loop-k.pending.items c.pop.new.self.items (Some c.in-Some.k) c.in-Some.ensures.items c.loop-k.invariant.within in
    let expanded = slice_get_read c.args.statuses.now (length c.args.statuses.now) c.in-Some.k c.index-statuses-k.result refl popped.1 c.index-statuses-k.is ∙ ap Some c.in-Expanded.is in
    let later = c.requires.later c.in-Some.k c.in-Expanded.conflict c.in-Expanded.left expanded in
    let before : c.loop-k.pending.items ≡ c.pop.new.self.items ++ c.in-Some.k ∷ [] = c.in-Some.ensures.items in
    let after : c.push-in-Expanded-3.new.self.items ≡ (c.pop.new.self.items ++ (c.in-Expanded.left + 1) ∷ []) ++ c.in-Expanded.left ∷ [] = c.in_ok-push-in-Expanded-3.ensures.items ∙ ap (λ xs. xs ++ c.in-Expanded.left ∷ []) c.in_ok-push-in-Expanded-2.ensures.items in
    subst (λ xs. weights (length c.args.statuses.now) xs < weights (length c.args.statuses.now) c.loop-k.pending.items) (sym after)
    (subst (λ xs. weights (length c.args.statuses.now) ((c.pop.new.self.items ++ (c.in-Expanded.left + 1) ∷ []) ++ c.in-Expanded.left ∷ []) < weights (length c.args.statuses.now) xs) (sym before)
    (weights-split (length c.args.statuses.now) c.pop.new.self.items c.in-Some.k c.in-Expanded.left (c.in-Expanded.left + 1) later.0 (omega (arith, later.0)) (omega (arith, later.1)) later.1))

pub loop-k-preserved-in-Continue-branch-4 : goal.loop-k-preserved-in-Continue-branch-4
loop-k-preserved-in-Continue-branch-4 c =
    let popped = All-pop (λ n. n < length c.args.statuses.now) c.loop-k.pending.items c.pop.new.self.items (Some c.in-Some.k) c.in-Some.ensures.items c.loop-k.invariant.within in
    let inside = popped.1 in
    let count = c.loop-k.invariant.count in
    let there = slice_get_read c.loop-k.lists.items (length c.loop-k.lists.items) c.in-Some.k c.index_mut.result.now refl (omega (arith, inside, count)) c.index_mut.ensures.value in
    let front : reverse c.loop-k.pending.items ≡ c.in-Some.k ∷ reverse c.pop.new.self.items = ap reverse c.in-Some.ensures.items ∙ reverse_push c.pop.new.self.items c.in-Some.k in
    let still : AreOwed c.args.statuses.now c.args.lists.items c.loop-k.lists.items (c.in-Some.k ∷ reverse c.pop.new.self.items) = subst (λ xs. AreOwed c.args.statuses.now c.args.lists.items c.loop-k.lists.items xs) front c.loop-k.invariant.still in
    let size = length-slice_set c.loop-k.lists.items c.in-Some.k c.replace-bound.new.dest in
    let expanded = slice_get_read c.args.statuses.now (length c.args.statuses.now) c.in-Some.k c.index-statuses-k.result refl popped.1 c.index-statuses-k.is ∙ ap Some c.in-Expanded.is in
    let later = c.requires.later c.in-Some.k c.in-Expanded.conflict c.in-Expanded.left expanded in
    let pending : c.push-in-Expanded-3.new.self.items ≡ (c.pop.new.self.items ++ (c.in-Expanded.left + 1) ∷ []) ++ c.in-Expanded.left ∷ [] = c.in_ok-push-in-Expanded-3.ensures.items ∙ ap (λ xs. xs ++ c.in-Expanded.left ∷ []) c.in_ok-push-in-Expanded-2.ensures.items in
    let next : reverse c.push-in-Expanded-3.new.self.items ≡ c.in-Expanded.left ∷ (c.in-Expanded.left + 1) ∷ reverse c.pop.new.self.items =
    ap reverse pending ∙ reverse_push (c.pop.new.self.items ++ (c.in-Expanded.left + 1) ∷ []) c.in-Expanded.left ∙ ap (λ xs. c.in-Expanded.left ∷ xs) (reverse_push c.pop.new.self.items (c.in-Expanded.left + 1)) in
    record {
      within = subst (λ xs. All (λ n. n < length c.args.statuses.now) xs) (sym pending)
          (All-push (λ n. n < length c.args.statuses.now) (c.pop.new.self.items ++ (c.in-Expanded.left + 1) ∷ []) c.in-Expanded.left
          (All-push (λ n. n < length c.args.statuses.now) c.pop.new.self.items (c.in-Expanded.left + 1) popped.0 later.1) (omega (arith, later.1)));
      count = size ∙ count;
      still = subst (λ xs. AreOwed c.args.statuses.now c.args.lists.items (slice_set c.loop-k.lists.items c.in-Some.k c.replace-bound.new.dest) xs) (sym next)
          (pending_split c.args.statuses.now c.args.lists.items c.loop-k.lists.items c.in-Some.k (reverse c.pop.new.self.items) still c.replace-bound.new.dest c.in-Expanded.conflict c.in-Expanded.left expanded);
      leads = λ views are.
          let before : Leads views c.args.statuses.now c.loop-k.nodes.items (c.in-Some.k ∷ reverse c.pop.new.self.items) = subst (λ xs. Leads views c.args.statuses.now c.loop-k.nodes.items xs) front (c.loop-k.invariant.leads views are) in
          let here : AreBlocksAt views c.in-Some.k c.replace-bound.result = blocks_at c.args.statuses.now c.args.lists.items c.loop-k.lists.items c.in-Some.k (reverse c.pop.new.self.items) still views are c.replace-bound.result (there ∙ ap Some (sym c.replace-bound.ensures.value)) in
          let after = leads_split views c.args.statuses.now c.loop-k.nodes.items c.in-Some.k (reverse c.pop.new.self.items) before c.split.result c.replace-bound.result here c.in-Expanded.conflict c.in-Expanded.left expanded c.split.ensures in
          subst (λ xs. Leads views c.args.statuses.now c.push-in-Expanded.new.self.items xs) (sym next)
          (subst (λ its. Leads views c.args.statuses.now its (c.in-Expanded.left ∷ (c.in-Expanded.left + 1) ∷ reverse c.pop.new.self.items)) (sym c.in_ok-push-in-Expanded.ensures.items) after);
    }

pub loop-k-smaller : goal.loop-k-smaller
loop-k-smaller c =
    let before : c.loop-k.pending.items ≡ c.pop.new.self.items ++ c.in-Some.k ∷ [] = c.in-Some.ensures.items in
    subst (λ xs. weights (length c.args.statuses.now) c.pop.new.self.items < weights (length c.args.statuses.now) xs) (sym before) (weights-leaf (length c.args.statuses.now) c.pop.new.self.items c.in-Some.k)

pub loop-k-preserved : goal.loop-k-preserved
loop-k-preserved c =
    let popped = All-pop (λ n. n < length c.args.statuses.now) c.loop-k.pending.items c.pop.new.self.items (Some c.in-Some.k) c.in-Some.ensures.items c.loop-k.invariant.within in
    let inside = popped.1 in
    let count = c.loop-k.invariant.count in
    let there = slice_get_read c.loop-k.lists.items (length c.loop-k.lists.items) c.in-Some.k c.index_mut.result.now refl (omega (arith, inside, count)) c.index_mut.ensures.value in
    let front : reverse c.loop-k.pending.items ≡ c.in-Some.k ∷ reverse c.pop.new.self.items = ap reverse c.in-Some.ensures.items ∙ reverse_push c.pop.new.self.items c.in-Some.k in
    let still : AreOwed c.args.statuses.now c.args.lists.items c.loop-k.lists.items (c.in-Some.k ∷ reverse c.pop.new.self.items) = subst (λ xs. AreOwed c.args.statuses.now c.args.lists.items c.loop-k.lists.items xs) front c.loop-k.invariant.still in
    let size = length-slice_set c.loop-k.lists.items c.in-Some.k c.replace-bound.new.dest in
    let status = slice_get_read c.args.statuses.now (length c.args.statuses.now) c.in-Some.k c.index-statuses-k.result refl popped.1 c.index-statuses-k.is in
    let end = end_of c.index-statuses-k.result c.in_default-status.not-Expanded in
    record {
      within = popped.0;
      count = size ∙ count;
      still = pending_leaf c.args.statuses.now c.args.lists.items c.loop-k.lists.items c.in-Some.k (reverse c.pop.new.self.items) still c.replace-bound.new.dest c.index-statuses-k.result status end;
      leads = λ views are.
          let before : Leads views c.args.statuses.now c.loop-k.nodes.items (c.in-Some.k ∷ reverse c.pop.new.self.items) = subst (λ xs. Leads views c.args.statuses.now c.loop-k.nodes.items xs) front (c.loop-k.invariant.leads views are) in
          let here : AreBlocksAt views c.in-Some.k c.replace-bound.result = blocks_at c.args.statuses.now c.args.lists.items c.loop-k.lists.items c.in-Some.k (reverse c.pop.new.self.items) still views are c.replace-bound.result (there ∙ ap Some (sym c.replace-bound.ensures.value)) in
          let after = leads_leaf views c.args.statuses.now c.loop-k.nodes.items c.in-Some.k (reverse c.pop.new.self.items) before c.leaf.result c.replace-bound.result here c.index-statuses-k.result status end c.leaf.ensures in
          subst (λ its. Leads views c.args.statuses.now its (reverse c.pop.new.self.items)) (sym c.in_ok-push-in_default-status.ensures.items) after;
    }

pub returns : goal.returns
returns c views are =
    let none : c.loop-k.pending.items ≡ [] = nil_from_length c.loop-k.pending.items (let h = c.in_default.ensures.cases.0 in omega (arith, h, c.loop-k.pending.ok)) in
    leads_done views c.args.statuses.now c.loop-k.nodes.items
    (subst (λ xs. Leads views c.args.statuses.now c.loop-k.nodes.items xs) (ap reverse none) (c.loop-k.invariant.leads views are))
