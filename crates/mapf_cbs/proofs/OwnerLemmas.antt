-- The paths and the constraints of a node are found at its ancestors.
use Rattle.std.proofs.Common.{◌≡◌, ◌≢◌, ℕ, ◌<◌, List, Option, None, Some, length, slice_get, refl, sym, ◌∙◌, subst, inl, ⊎_elim, arith}
use Rattle.std.proofs.lemmas.Bool.{cases_eq}
use Rattle.std.proofs.lemmas.Option.{slice_get_within, same_Some}
use Rattle.mapf_model.specs.declared.constraint.Constraint.{Constraint}
use Rattle.mapf_model.proofs.ClaimLemmas.{slice_get_inside}
use Rattle.mapf_model.specs.declared.label.Entry.{Entry}
use Rattle.mapf_spacetime.specs.declared.found.Found.{Found}
use Rattle.mapf_cbs.specs.declared.node.Node.{Node}
use Rattle.mapf_cbs.specs.declared.node.Node.TheVariants.{Child}
use Rattle.mapf_model.specs.Laws.{AreSameBars}
use Rattle.mapf_model.specs.declared.bar.Bar.{Bar}
use Rattle.mapf_cbs.specs.Nodes.{AreViews, HoldsOfNode}
use Rattle.mapf_cbs.specs.PathOwners.{number_of, AreInside, AreNone, HaveSame, IsOwner, IsNoted}
use Rattle.mapf_cbs.specs.Search.{View}
use Rattle.mapf_cbs.proofs.NodeLemmas.{paths_up, bars_up}

-- the agent has the same path and the same constraints at the node that was entered for it so far, or at the node here if
-- none was
abbrev pub IsFoundSoFar : List View → View → View → ℕ → Option ℕ → Type 0
IsFoundSoFar views view here i None = HaveSame i view here
IsFoundSoFar views view here i (Some k) = (other : View) × (slice_get views k ≡ Some other) × HaveSame i view other

pub none_inside : (nodes : List Node) (owners : List (Option ℕ)) → 0 < length nodes → AreNone owners → AreInside nodes owners
none_inside nodes owners some none i owner is = rw (none i owner is) some

pub none_so_far : (views : List View) (view here : View) → view ≡ here → (owners : List (Option ℕ)) → AreNone owners → (i : ℕ) (owner : Option ℕ) → slice_get owners i ≡ Some owner → IsFoundSoFar views view here i owner
none_so_far views view here same owners none i owner is = rw (none i owner is) (rw same (refl, refl))

module _ (old new : List (Option ℕ)) (agent node : ℕ) (size : length new ≡ length old) (noted : IsNoted old new agent node) where
  -- an index of the new list
  pub data Was (i : ℕ) (owner : Option ℕ) : Type 0 where
    Other : i ≢ agent → slice_get old i ≡ Some owner → Was i owner
    First : i ≡ agent → slice_get old i ≡ Some None → owner ≡ Some node → Was i owner
    Later : (nearer : ℕ) → owner ≡ Some nearer → slice_get old i ≡ Some owner → Was i owner

  by_before : (i : ℕ) → i ≡ agent → (before : Option ℕ) → slice_get old agent ≡ Some before → (owner : Option ℕ) → slice_get new agent ≡ Some owner → Was i owner
  by_before i here None before owner is = First here (subst (λ n. slice_get old n ≡ Some None) (sym here) before) (sym (same_Some (Some node) owner (sym (noted.first before) ∙ is)))
  by_before i here (Some k) before owner is =
      let same : Some k ≡ owner = same_Some (Some k) owner (sym (noted.later k before) ∙ is) in
      Later k (sym same) (subst (λ n. slice_get old n ≡ Some owner) (sym here) (subst (λ f. slice_get old agent ≡ Some f) same before))

  pub was : (i : ℕ) (owner : Option ℕ) → slice_get new i ≡ Some owner → Was i owner
  was i owner is = ⊎_elim
      (λ (here : i ≡ agent).
      let at = subst (λ n. slice_get new n ≡ Some owner) here is in
      let inside : agent < length new = slice_get_within new agent owner at in
      let before = slice_get_inside old agent (omega arith) in
      by_before i here before.0 before.1 owner at)
      (λ (other : i ≢ agent). Other other (sym (noted.others i other) ∙ is))
      (cases_eq i agent)

  inside_by : (nodes : List Node) → node < length nodes → AreInside nodes old → (i : ℕ) (owner : Option ℕ) → Was i owner → number_of owner < length nodes
  inside_by nodes in_it inside i owner (Other other is) = inside i owner is
  inside_by nodes in_it inside i owner (First here is owner_is) = rw owner_is in_it
  inside_by nodes in_it inside i owner (Later nearer owner_is is) = inside i owner is

  pub noted_inside : (nodes : List Node) → node < length nodes → AreInside nodes old → AreInside nodes new
  noted_inside nodes in_it inside i owner is = inside_by nodes in_it inside i owner (was i owner is)

  module _ (nodes : List Node) (views : List View) (are : AreViews nodes views) (view here : View) (here_is : slice_get views node ≡ Some here)
      (parent : ℕ) (constraint : Constraint) (bound : constraint.agent ≡ agent) (found : Found (List Entry)) (at : slice_get nodes node ≡ Some (Child parent constraint found)) (before : View) (before_is : slice_get views parent ≡ Some before)
    where
      go_up : (i : ℕ) (owner : Option ℕ) → i ≢ agent → IsFoundSoFar views view here i owner → IsFoundSoFar views view before i owner
      go_up i None other same = (
        same.0 ∙ paths_up nodes views are node here here_is parent constraint found at i (inl (λ e. other (e ∙ bound))) before before_is,
        same.1 ∙ bars_up nodes views are node here here_is parent constraint found at i (λ e. other (e ∙ bound)) before before_is,
      )
      go_up i (Some k) other same = same

      up_by : ((i : ℕ) (owner : Option ℕ) → slice_get old i ≡ Some owner → IsFoundSoFar views view here i owner) → (i : ℕ) (owner : Option ℕ) → Was i owner → IsFoundSoFar views view before i owner
      up_by same i owner (Other other is) = go_up i owner other (same i owner is)
      up_by same i owner (First this is owner_is) = rw owner_is (here, here_is, same i None is)
      up_by same i owner (Later nearer owner_is is) = rw owner_is (rw owner_is at (same i owner is))

      pub noted_up : ((i : ℕ) (owner : Option ℕ) → slice_get old i ≡ Some owner → IsFoundSoFar views view here i owner) → (i : ℕ) (owner : Option ℕ) → slice_get new i ≡ Some owner → IsFoundSoFar views view before i owner
      noted_up same i owner is = up_by same i owner (was i owner is)

-- at the root each agent is found
pub found_at_root : (views : List View) (view here : View) (i : ℕ) (owner : Option ℕ) → slice_get views 0 ≡ Some here → IsFoundSoFar views view here i owner → (other : View) × (slice_get views (number_of owner) ≡ Some other) × HaveSame i view other
found_at_root views view here i None here_is same = (here, here_is, same)
found_at_root views view here i (Some k) here_is same = same

-- the agent's path at its owner is its path at the node
pub path_by_owner : (nodes : List Node) (k agent owner : ℕ) → IsOwner nodes k agent owner → (path : List ℕ) → HoldsOfNode nodes owner (λ view. slice_get view.paths agent ≡ Some path) → HoldsOfNode nodes k (λ view. slice_get view.paths agent ≡ Some path)
path_by_owner nodes k agent owner is path there views view are view_is =
    let other = is.same views view are view_is in
    other.2.0 ∙ there views other.0 are other.1

-- and so are its constraints
pub bars_by_owner : (nodes : List Node) (k agent owner : ℕ) → IsOwner nodes k agent owner → (bars : List Bar) → HoldsOfNode nodes owner (λ view. AreSameBars (view.context.bars agent) bars) → HoldsOfNode nodes k (λ view. AreSameBars (view.context.bars agent) bars)
bars_by_owner nodes k agent owner is bars there views view are view_is =
    let other = is.same views view are view_is in
    subst (λ bs. AreSameBars bs bars) (sym other.2.1) (there views other.0 are other.1)
