-- What holds when a search over trees ends.
use Rattle.std.proofs.Common.{◌≡◌, ℕ, ◌≤◌, All, List, Some, Vec, length, slice_get, sum, refl, sym, ◌∙◌, subst, arith}
use Rattle.std.specs.declared.alloc.Global.{Global}
use Rattle.std.proofs.lemmas.Option.{same_Some}
use Rattle.mapf_model.specs.declared.cause.Cause.{Cause}
use Rattle.mapf_model.specs.Blocks.{LabelBlock}
use Rattle.mapf_model.specs.Plan.{Instance}
use Rattle.mapf_model.specs.Tree.{ConstraintTree, Node as TreeNode, nodes_of}
use Rattle.mapf_model.specs.Limits.{most_path_cells, most_splits}
use Rattle.mapf_cbs.specs.declared.node.Status.{Status}
use Rattle.mapf_cbs.specs.declared.node.Node.{Node}
use Rattle.mapf_cbs.specs.declared.outcome.Outcome.TheVariants.{Found, Impossible, Limit}
use Rattle.mapf_cbs.specs.Answer.{IsOptimalAnswer, IsOutcome}
use Rattle.mapf_cbs.specs.Endings.{CanBeDrawn, IsExhausted, IsAtNode, IsAtPlan, IsAtCause}
use Rattle.mapf_cbs.specs.Search.{View, IsLive, AreBlockLists, IsTreeAt}
use Rattle.mapf_cbs.specs.Start.{IsRootStart}
use Rattle.mapf_cbs.specs.State.{IsPopped, IsState}
use Rattle.mapf_cbs.proofs.AnswerLemmas.{children_later, answer_impossible, answer_found, answer_limit}
use Rattle.mapf_cbs.proofs.StartLemmas.{root_names}
use Rattle.mapf_cbs.proofs.StateLemmas.{IsInHand, in_hand}

-- these are the nodes of a tree with the blocks of the nodes' states
abbrev pub IsDrawn : List (List LabelBlock) → List Status → List TreeNode → Type 0
IsDrawn lists statuses listed = (views : List View) → AreBlockLists views lists → (tree : ConstraintTree) × (listed ≡ nodes_of tree) × IsTreeAt views statuses 0 tree

module _ {problem : Instance} {nodes : List Node} {statuses : List Status} {keys : List (ℕ × ℕ)} {count : ℕ} (state : IsState problem nodes statuses keys count) where
  pub can_be_drawn : count ≤ most_splits → {lists : List (List LabelBlock)} → AreBlockLists state.views lists → CanBeDrawn lists statuses
  can_be_drawn few blocks =
      let size = state.size in let views = state.are.lengths in let same = state.searched.lengths in let lengths = blocks.lengths in
      record {
        same = omega (arith, same, lengths);
        some = omega (arith, size, views, same);
        later = children_later problem nodes statuses keys count state few;
        one = (count, state.searched.tree);
      }

-- a search is at the node that is being expanded
module _ {problem : Instance} {nodes : List Node} {statuses : List Status} {rest : List (ℕ × ℕ)} {count total k limit : ℕ} {lists : List (List LabelBlock)} {paths : List (List ℕ)} {view : View} where
  pub at_popped : IsRootStart problem paths → (popped : IsPopped problem nodes statuses rest count total k) → slice_get popped.state.views k ≡ Some view → All (λ path. length path ≤ most_path_cells) view.paths → count ≤ limit → AreBlockLists popped.state.views lists
      → IsAtNode problem limit lists statuses count total view
  at_popped root popped is short within blocks = record { paths = paths; root = root; nodes = nodes; rest = rest; k = k; popped = popped; is = is; short = short; within = within; blocks = blocks }

pub end_impossible : (problem : Instance) (limit : ℕ) (lists : List (List LabelBlock)) (statuses : List Status) → IsExhausted problem limit lists statuses → (whole : Vec TreeNode Global) → IsDrawn lists statuses whole.items → IsOutcome problem limit (Impossible whole)
end_impossible problem limit lists statuses e whole drawn =
    answer_impossible problem e.root.shape (root_names problem e.paths e.root) e.nodes statuses e.count limit e.within e.state whole.items (drawn e.state.views e.blocks)

module _ (problem : Instance) (limit : ℕ) (lists : List (List LabelBlock)) (statuses : List Status) where
  module _ (count total : ℕ) (view : View) (a : IsAtNode problem limit lists statuses count total view) where
    hand : IsInHand problem statuses a.k total a.popped.state.views
    hand = in_hand a.popped

    same : hand.view ≡ view
    same = same_Some hand.view view (sym hand.is ∙ a.is)

    live : IsLive problem view
    live = subst (λ v. IsLive problem v) same hand.live

    total_is : total ≡ sum view.costs
    total_is = subst (λ (v : View). total ≡ sum v.costs) same hand.total_is

  pub end_found : (plan : List (List ℕ)) → IsAtPlan problem limit lists statuses plan → (whole : Vec TreeNode Global) → IsDrawn lists statuses whole.items → IsOutcome problem limit (Found plan whole)
  end_found plan e whole drawn =
      let a = e.at_node in
      subst (λ ps. IsOptimalAnswer problem limit ps whole.items) (sym e.same)
      (answer_found problem a.root.shape (root_names problem a.paths a.root) a.nodes statuses a.rest e.count e.total a.k a.popped limit a.within whole.items (drawn a.popped.state.views a.blocks) e.view a.is (hand e.count e.total e.view a).is_open (live e.count e.total e.view a) a.root.agents.0 a.root.agents.1 a.short e.none)

  pub end_limit : (cause : Cause) (bound : ℕ) → IsAtCause problem limit lists statuses cause bound → (whole : Vec TreeNode Global) → IsDrawn lists statuses whole.items → IsOutcome problem limit (Limit cause bound whole)
  end_limit cause bound e whole drawn =
      let a = e.at_node in
      answer_limit problem a.root.shape (root_names problem a.paths a.root) a.nodes statuses a.rest e.count bound a.k a.popped limit a.within whole.items (drawn a.popped.state.views a.blocks) e.view a.is (hand e.count bound e.view a).is_open (live e.count bound e.view a) a.root.agents.0 a.root.agents.1 a.short bound (total_is e.count bound e.view a) a.root.goals e.conflict e.first.has e.first.earliest cause e.met whole refl
