-- A node's paths are those of its parent, but for the agent that was replanned.
use Rattle.std.proofs.Common.{◌≡◌, ◌≢◌, ℕ, List, Some, length, slice_get, sym, ◌∙◌, inl, arith}
use Rattle.std.proofs.lemmas.Option.{slice_get_within}
use Rattle.mapf_model.proofs.ClaimLemmas.{slice_get_inside}
use Rattle.mapf_model.specs.declared.constraint.Constraint.{Constraint}
use Rattle.mapf_model.specs.declared.label.Entry.{Entry}
use Rattle.mapf_model.specs.Conflicts.{AreConflictFreeBefore}
use Rattle.mapf_model.specs.Plan.{Instance}
use Rattle.mapf_spacetime.specs.declared.found.Found.{Found}
use Rattle.mapf_conflicts.specs.Pairs.{AreOthersFreeBefore}
use Rattle.mapf_cbs.specs.declared.node.Node.{Node}
use Rattle.mapf_cbs.specs.declared.node.Node.TheVariants.{Child}
use Rattle.mapf_cbs.specs.declared.node.Status.{Status}
use Rattle.mapf_cbs.specs.declared.node.Status.TheVariants.{Open, Dead, Expanded}
use Rattle.mapf_cbs.specs.Nodes.{AreViews, AreViewedAt}
use Rattle.mapf_cbs.specs.Replanned.{AreSplitsFirst}
use Rattle.mapf_cbs.specs.Search.{View, IsStatus, IsSearched}
use Rattle.mapf_cbs.specs.State.{IsPopped}
use Rattle.mapf_cbs.proofs.NodeLemmas.{paths_up}
use Rattle.mapf_cbs.proofs.StateLemmas.{in_hand}

-- if the parent's paths have no conflict before the tick, the other agents have none at the child
pub others_free : (nodes : List Node) (views : List View) → AreViews nodes views → (k : ℕ) (view : View) → slice_get views k ≡ Some view → (parent : ℕ) (constraint : Constraint) (found : Found (List Entry)) → slice_get nodes k ≡ Some (Child parent constraint found)
    → (end : ℕ) → ((before : View) → slice_get views parent ≡ Some before → AreConflictFreeBefore before.paths end) → AreOthersFreeBefore view.paths constraint.agent end
others_free nodes views are k view is parent constraint found at end free i j tick p q below i_other j_other differ i_is j_is conflict =
    let h = are.each k (Child parent constraint found) view at is in
    let up = λ (agent : ℕ) (other : agent ≢ constraint.agent). paths_up nodes views are k view is parent constraint found at agent (inl other) h.1 h.2 in
    free h.1 h.2 i j tick p q below differ (sym (up i i_other) ∙ i_is) (sym (up j j_other) ∙ j_is) conflict

splits_first : (problem : Instance) (views : List View) (statuses : List Status) (count : ℕ) → IsSearched problem views statuses count → AreSplitsFirst views statuses
splits_first problem views statuses count searched k view conflict left view_is status_is = (searched.each k view (Expanded conflict left) view_is status_is).on_first.earliest

-- each node that was reached has a path of each agent
counted : (problem : Instance) (views : List View) (k : ℕ) (view : View) (status : Status) → IsStatus problem views k view status → length view.paths ≡ length problem.agents
counted problem views k view Open live = live.counted.paths
counted problem views k view Dead dead = dead.counted.paths
counted problem views k view (Expanded conflict left) split = split.live.counted.paths

-- what the search knows of the node that is being expanded, and so of the conflicts there
module _ {problem : Instance} {nodes : List Node} {statuses : List Status} {rest : List (ℕ × ℕ)} {count total k : ℕ} (popped : IsPopped problem nodes statuses rest count total k) where
  pub free_at : {agents : ℕ} → length problem.agents ≡ agents → (agent free : ℕ)
      → ((views : List View) (view : View) → AreViews nodes views → AreSplitsFirst views statuses → slice_get views k ≡ Some view → AreOthersFreeBefore view.paths agent free)
      → AreViewedAt nodes k agents (λ view. AreOthersFreeBefore view.paths agent free)
  free_at same agent free others =
      let h = in_hand popped in
      let searched = popped.state.searched in
      let root = searched.first in
      let sizes = searched.lengths in
      let inside = slice_get_within popped.state.views 0 root.0 root.1 in
      let status = slice_get_inside statuses 0 (omega (arith, inside, sizes)) in
      record {
        views = popped.state.views;
        view = h.view;
        are = popped.state.are;
        is = h.is;
        count = h.live.counted.paths ∙ same;
        root = root.0;
        root_is = root.1;
        root_count = counted problem popped.state.views 0 root.0 status.0 (searched.each 0 root.0 status.0 root.1 status.1) ∙ same;
        holds = others popped.state.views h.view popped.state.are (splits_first problem popped.state.views statuses count searched) h.is;
      }
