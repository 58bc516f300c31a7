-- The state that a node denotes, by the state of its parent.
use Rattle.std.proofs.Common.{◌≡◌, ◌≢◌, ◌⊎◌, ℕ, ◌<◌, List, Some, length, slice_get, refl, sym, ◌∙◌, ap, subst, inl, inr, ⊎_elim, arith, ◌∷◌, cond, nat_eq, true, eq-eqb, Contains, []}
use Rattle.std.proofs.lemmas.Bool.{cond_both, eqb-true}
use Rattle.mapf_model.specs.Tree.{NodeContext, with_constraint}
use Rattle.mapf_model.specs.Laws.{AreSameBars}
use Rattle.mapf_model.proofs.ContainsLemmas.{Contains-cons_cases, Contains-none, Contains-cons_old}
use Rattle.std.proofs.lemmas.Option.{slice_get_within, same_Some}
use Rattle.mapf_model.specs.declared.bar.Bar.{Bar}
use Rattle.mapf_model.specs.declared.constraint.Constraint.{Constraint}
use Rattle.mapf_model.specs.declared.label.Entry.{Entry}
use Rattle.mapf_model.proofs.ClaimLemmas.{slice_get_inside}
use Rattle.mapf_spacetime.specs.declared.found.Found.{Found}
use Rattle.mapf_spacetime.specs.declared.found.Found.TheVariants.{Arrives, Dead}
use Rattle.mapf_cbs.specs.declared.node.Node.{Node}
use Rattle.mapf_cbs.specs.declared.node.Node.TheVariants.{Root, Child}
use Rattle.mapf_model.specs.Blocks.{LabelBlock}
use Rattle.mapf_cbs.specs.Search.{View, bound_blocks, labels_of}
use Rattle.mapf_cbs.specs.Nodes.{AreViews, IsNodeView, IsOwnOf, IsChildView, AreJoined}
use Rattle.mapf_model.proofs.PlaceLemmas.{slice_get-set_same, slice_get-set_other}

-- a path that wasn't found at this node is the parent's
pub paths_kept : (before : View) (agent : ℕ) (constraint : Constraint) (found : Found (List Entry)) (view : View) → (agent ≢ constraint.agent) ⊎ ((labels : List Entry) × (found ≡ Dead labels)) → IsChildView before constraint found view → slice_get view.paths agent ≡ slice_get before.paths agent
paths_kept before agent constraint (Arrives path labels) view (inl other) (cost, e) = ap (λ (v : View). slice_get v.paths agent) e ∙ slice_get-set_other before.paths constraint.agent agent path other
paths_kept before agent constraint (Arrives path labels) view (inr (ls, dead)) is = absurd cc
paths_kept before agent constraint (Dead labels) view why e = ap (λ (v : View). slice_get v.paths agent) e

cond_not : {X : Type 0} (k i : ℕ) (x y : X) → k ≢ i → cond (nat_eq k i) x y ≡ y
cond_not k i x y other = cond_both (nat_eq k i) x y (λ z. z ≡ y) (λ same. absurd (other (eqb-true k i same))) (λ differ. refl)

cond_same : {X : Type 0} (k : ℕ) (x y : X) → cond (nat_eq k k) x y ≡ x
cond_same k x y = let h : nat_eq k k ≡ true = eq-eqb k k refl in rw h refl

context_are : (before : View) (constraint : Constraint) (found : Found (List Entry)) (view : View) → IsChildView before constraint found view → view.context.bars ≡ with_constraint before.context.bars constraint
context_are before constraint (Arrives path labels) view (cost, e) = ap (λ (v : View). v.context.bars) e
context_are before constraint (Dead labels) view e = ap (λ (v : View). v.context.bars) e

-- the blocks of a node are its own
pub blocks_new : (before : View) (constraint : Constraint) (found : Found (List Entry)) (view : View) → IsChildView before constraint found view → view.blocks ≡ bound_blocks constraint.agent (labels_of found)
blocks_new before constraint (Arrives path labels) view (cost, e) = ap (λ (v : View). v.blocks) e
blocks_new before constraint (Dead labels) view e = ap (λ (v : View). v.blocks) e

-- the constraints at a node are the parent's, with one more for the agent of the node's constraint
pub bars_other : (before : View) (agent : ℕ) (constraint : Constraint) (found : Found (List Entry)) (view : View) → agent ≢ constraint.agent → IsChildView before constraint found view → view.context.bars agent ≡ before.context.bars agent
bars_other before agent constraint found view other is = ap (λ (bars : ℕ → List Bar). bars agent) (context_are before constraint found view is) ∙ cond_not agent constraint.agent (constraint.bar ∷ before.context.bars agent) (before.context.bars agent) other

pub bars_bound : (before : View) (constraint : Constraint) (found : Found (List Entry)) (view : View) → IsChildView before constraint found view → view.context.bars constraint.agent ≡ constraint.bar ∷ before.context.bars constraint.agent
bars_bound before constraint found view is = ap (λ (bars : ℕ → List Bar). bars constraint.agent) (context_are before constraint found view is) ∙ cond_same constraint.agent (constraint.bar ∷ before.context.bars constraint.agent) (before.context.bars constraint.agent)

module _ (nodes : List Node) (views : List View) (are : AreViews nodes views) (k : ℕ) (view : View) (is : slice_get views k ≡ Some view) where
  pub view_in : k < length nodes
  view_in = let e = are.lengths in let h : k < length views = slice_get_within views k view is in omega arith

  pub root_path : (paths : List (List ℕ)) (agent : ℕ) → slice_get nodes k ≡ Some (Root paths) → slice_get view.paths agent ≡ slice_get paths agent
  root_path paths agent at = ap (λ ps. slice_get ps agent) (are.each k (Root paths) view at is).same_paths

  module _ (parent : ℕ) (constraint : Constraint) (found : Found (List Entry)) (at : slice_get nodes k ≡ Some (Child parent constraint found)) where
    pub paths_up : (agent : ℕ) → (agent ≢ constraint.agent) ⊎ ((labels : List Entry) × (found ≡ Dead labels)) → (before : View) → slice_get views parent ≡ Some before → slice_get view.paths agent ≡ slice_get before.paths agent
    paths_up agent why before before_is =
        let h = are.each k (Child parent constraint found) view at is in
        let same : h.1 ≡ before = same_Some h.1 before (sym h.2 ∙ before_is) in
        subst (λ (v : View). slice_get view.paths agent ≡ slice_get v.paths agent) same (paths_kept h.1 agent constraint found view why h.4)

    pub bars_up : (agent : ℕ) → agent ≢ constraint.agent → (before : View) → slice_get views parent ≡ Some before → view.context.bars agent ≡ before.context.bars agent
    bars_up agent other before before_is =
        let h = are.each k (Child parent constraint found) view at is in
        let same : h.1 ≡ before = same_Some h.1 before (sym h.2 ∙ before_is) in
        subst (λ (v : View). view.context.bars agent ≡ v.context.bars agent) same (bars_other h.1 agent constraint found view other h.4)

    pub bars_more : (before : View) → slice_get views parent ≡ Some before → view.context.bars constraint.agent ≡ constraint.bar ∷ before.context.bars constraint.agent
    bars_more before before_is =
        let h = are.each k (Child parent constraint found) view at is in
        let same : h.1 ≡ before = same_Some h.1 before (sym h.2 ∙ before_is) in
        subst (λ (v : View). view.context.bars constraint.agent ≡ constraint.bar ∷ v.context.bars constraint.agent) same (bars_bound h.1 constraint found view h.4)

  pub root_bars : (paths : List (List ℕ)) (agent : ℕ) → slice_get nodes k ≡ Some (Root paths) → view.context.bars agent ≡ []
  root_bars paths agent at = ap (λ (w : NodeContext). w.bars agent) (are.each k (Root paths) view at is).context

  pub found_path : (parent : ℕ) (constraint : Constraint) (path : List ℕ) (labels : List Entry) → slice_get nodes k ≡ Some (Child parent constraint (Arrives path labels)) → slice_get view.paths constraint.agent ≡ Some path
  found_path parent constraint path labels at =
      let h = are.each k (Child parent constraint (Arrives path labels)) view at is in
      ap (λ (v : View). slice_get v.paths constraint.agent) h.4.1 ∙ slice_get-set_same h.1.paths constraint.agent path h.3

pub own_blocks : (views : List View) (k : ℕ) (node : Node) (view : View) → IsNodeView views k node view → (blocks : List LabelBlock) → IsOwnOf node blocks → blocks ≡ view.blocks
own_blocks views k (Root paths) view is blocks own = own ∙ sym is.blocks
own_blocks views k (Child parent constraint found) view is blocks own = own ∙ sym (blocks_new is.1 constraint found view is.4)

pub view_at : (nodes : List Node) (views : List View) → AreViews nodes views → (k : ℕ) → k < length nodes → (view : View) × (slice_get views k ≡ Some view)
view_at nodes views are k within = let e = are.lengths in slice_get_inside views k (omega arith)

pub joined_first : (all : List Bar) (front : List Bar) → front ≡ [] → AreJoined all front all
joined_first all front e = record {
  apart = λ bar in_all. inr in_all;
  from_front = λ bar in_front. absurd (Contains-none bar (subst (λ bs. Contains bs bar) e in_front));
  from_rest = λ bar in_rest. in_rest;
}

pub joined_same : (all front rest here : List Bar) → here ≡ rest → AreJoined all front here → AreJoined all front rest
joined_same all front rest here e joined = subst (λ bs. AreJoined all front bs) e joined

pub joined_more : (all front rest more : List Bar) (bar : Bar) → AreJoined all front (bar ∷ rest) → AreSameBars more (bar ∷ front) → AreJoined all more rest
joined_more all front rest more bar joined same = record {
  apart = λ b in_all. ⊎_elim
      (λ (h : Contains front b). inl ((same b).1 (Contains-cons_old bar b front h)))
      (λ (h : Contains (bar ∷ rest) b). ⊎_elim
      (λ (e : bar ≡ b). inl ((same b).1 (0, omega arith, e)))
      (λ (in_rest : Contains rest b). inr in_rest)
      (Contains-cons_cases bar b rest h))
      (joined.apart b in_all);
  from_front = λ b in_more. ⊎_elim
      (λ (e : bar ≡ b). joined.from_rest b (0, omega arith, e))
      (λ (in_front : Contains front b). joined.from_front b in_front)
      (Contains-cons_cases bar b front ((same b).0 in_more));
  from_rest = λ b in_rest. joined.from_rest b (Contains-cons_old bar b rest in_rest);
}

pub joined_done : (all front rest : List Bar) → rest ≡ [] → AreJoined all front rest → AreSameBars all front
joined_done all front rest e joined bar = (
  λ in_all. ⊎_elim (λ (h : Contains front bar). h) (λ (h : Contains rest bar). absurd (Contains-none bar (subst (λ bs. Contains bs bar) e h))) (joined.apart bar in_all),
  λ in_front. joined.from_front bar in_front,
)
