-- Full nodes, and the states that they denote.
use Rattle.std.proofs.Common.{◌≡◌, ◌≢◌, ℕ, ◌+◌, ◌^◌, ◌<◌, ◌≤◌, All, List, [], ◌∷◌, ◌++◌, Option, None, Some, length, sum, slice_get, slice_set, refl, sym, ◌∙◌, ap, subst, inl, ⊎_elim, arith, below_more, Vec}
use Rattle.std.proofs.lemmas.Bool.{cases_eq}
use Rattle.std.proofs.lemmas.Option.{slice_get_within, same_Some}
use Rattle.mapf_model.specs.declared.bar.Bar.{Bar}
use Rattle.mapf_model.specs.Laws.{AreSameBars}
use Rattle.mapf_model.proofs.SumLemmas.{snoc_get}
use Rattle.mapf_cbs.specs.declared.node.Status.{Status}
use Rattle.mapf_cbs.specs.declared.node.Status.TheVariants.{Open}
use Rattle.std.specs.declared.alloc.Global.{Global}
use Rattle.std.specs.Option.{unwrap_or}
use Rattle.mapf_model.specs.Plan.{Instance}
use Rattle.mapf_model.specs.declared.label.Entry.{Entry}
use Rattle.mapf_spacetime.specs.declared.found.Found.{Found}
use Rattle.mapf_spacetime.specs.declared.found.Found.TheVariants.{Arrives, Dead}
use Rattle.mapf_cbs.specs.declared.whole_node.AgentPath.{AgentPath}
use Rattle.mapf_cbs.specs.declared.whole_node.WholeNode.{WholeNode}
use Rattle.mapf_model.specs.declared.constraint.Constraint.{Constraint}
use Rattle.mapf_cbs.specs.Nodes.{IsChildView}
use Rattle.mapf_cbs.specs.GeneratedChild.{IsTotal, IsGeneratedState}
use Rattle.mapf_model.specs.Blocks.{LabelBlock}
use Rattle.mapf_cbs.specs.Search.{View, bound_blocks, labels_of}
use Rattle.mapf_cbs.specs.Whole.{IsAgentPathAt, IsWhole, IsCopy, AreCopies, IsAfter, IsLeastOpen, IsLeastBelow}
use Rattle.mapf_model.proofs.PlaceLemmas.{slice_get-set_same, slice_get-set_other, length-slice_set}
use Rattle.mapf_cbs.proofs.NodeLemmas.{paths_kept, blocks_new, bars_other, bars_bound}

-- the least open node is found by a scan
module _ (nodes : List WholeNode) (statuses : List Status) (k : ℕ) where
  -- the node at an index isn't open, or has at least this sum
  abbrev HasAtLeast : ℕ → ℕ → Type 0
  HasAtLeast total m = (other : WholeNode) → slice_get nodes m ≡ Some other → slice_get statuses m ≡ Some Open → total ≤ other.total

  has_at_least : (node : WholeNode) → slice_get nodes k ≡ Some node → (total : ℕ) → total ≤ node.total → HasAtLeast total k
  has_at_least node here total le other is is_open = let same = ap (λ (n : WholeNode). n.total) (same_Some node other (sym here ∙ is)) in omega (arith, same, le)

  pub skip_closed : (least : Option ℕ) (status : Status) → slice_get statuses k ≡ Some status → (status ≡ Open → ⊥) → IsLeastBelow nodes statuses k least → IsLeastBelow nodes statuses (k + 1) least
  skip_closed None status here closed none = below_more (λ m. slice_get statuses m ≡ Some Open → ⊥) k none (λ is_open. closed (same_Some status Open (sym here ∙ is_open)))
  skip_closed (Some l) status here closed least = record {
    inside = let h = least.inside in omega (arith, h);
    node = least.node;
    is = least.is;
    is_open = least.is_open;
    least = λ m other within. below_more (HasAtLeast least.node.total) k (λ m within other. least.least m other within) (λ other is is_open. absurd (closed (same_Some status Open (sym here ∙ is_open)))) m within other;
    oldest = least.oldest;
  }

  pub take_first : (node : WholeNode) → slice_get nodes k ≡ Some node → slice_get statuses k ≡ Some Open → IsLeastBelow nodes statuses k None → IsLeastOpen nodes statuses (k + 1) k
  take_first node here is_open none = record {
    inside = omega arith;
    node = node;
    is = here;
    is_open = is_open;
    least = λ m other within. below_more (HasAtLeast node.total) k (λ m within other is other_open. absurd (none m within other_open)) (has_at_least node here node.total (omega arith)) m within other;
    oldest = λ m other within is other_open. absurd (none m within other_open);
  }

  module _ (l : ℕ) (old : WholeNode) (old_is : slice_get nodes l ≡ Some old) (node : WholeNode) (here : slice_get nodes k ≡ Some node) (least : IsLeastOpen nodes statuses k l) where
    total_is : least.node.total ≡ old.total
    total_is = ap (λ (n : WholeNode). n.total) (same_Some least.node old (sym least.is ∙ old_is))

    pub keep_least : old.total ≤ node.total → IsLeastOpen nodes statuses (k + 1) l
    keep_least less = record {
      inside = let h = least.inside in omega (arith, h);
      node = least.node;
      is = least.is;
      is_open = least.is_open;
      least = λ m other within. below_more (HasAtLeast least.node.total) k (λ m within other. least.least m other within) (has_at_least node here least.node.total (omega (arith, total_is, less))) m within other;
      oldest = least.oldest;
    }

    pub take_cheaper : slice_get statuses k ≡ Some Open → node.total < old.total → IsLeastOpen nodes statuses (k + 1) k
    take_cheaper is_open less = record {
      inside = omega arith;
      node = node;
      is = here;
      is_open = is_open;
      least = λ m other within. below_more (HasAtLeast node.total) k (λ m within other is other_open. let h = least.least m other within is other_open in let g = total_is in omega (arith, h, g, less))
          (has_at_least node here node.total (omega arith)) m within other;
      oldest = λ m other within is other_open. let h = least.least m other within is other_open in let g = total_is in omega (arith, h, g, less);
    }

pub bars_swap : (xs ys : List Bar) → AreSameBars xs ys → AreSameBars ys xs
bars_swap xs ys same bar = ((same bar).1, (same bar).0)

-- what holds of each element of a list and of one more
pub each_more : {X : Type 0} (P : ℕ → X → Type 0) (xs : List X) (x : X) (n : ℕ) → length xs ≡ n → ((i : ℕ) (y : X) → slice_get xs i ≡ Some y → P i y) → P n x → (i : ℕ) (y : X) → slice_get (xs ++ x ∷ []) i ≡ Some y → P i y
each_more P xs x n size each here i y is = ⊎_elim
    (λ (old : slice_get xs i ≡ Some y). each i y old)
    (λ (new : (i ≡ length xs) × (x ≡ y)). subst (λ z. P i z) new.1 (subst (λ m. P m x) (sym (new.0 ∙ size)) here))
    (snoc_get xs x i y is)

pub copies_with : (agent_paths all : List AgentPath) (agent : ℕ) (agent_path : AgentPath) → agent < length agent_paths → AreCopies agent_paths all → AreCopies (slice_set agent_paths agent agent_path) (slice_set all agent agent_path)
copies_with agent_paths all agent agent_path inside copies =
    let size = copies.count in
    record {
      count = length-slice_set all agent agent_path ∙ size ∙ sym (length-slice_set agent_paths agent agent_path);
      each = λ i copy copy_is. ⊎_elim
          (λ (e : i ≡ agent).
          let same : agent_path ≡ copy = same_Some agent_path copy (sym (slice_get-set_same all agent agent_path (omega (arith, inside, size))) ∙ subst (λ n. slice_get (slice_set all agent agent_path) n ≡ Some copy) e copy_is) in
          (agent_path, subst (λ n. slice_get (slice_set agent_paths agent agent_path) n ≡ Some agent_path) (sym e) (slice_get-set_same agent_paths agent agent_path inside), subst (λ r. IsCopy agent_path r) same (record { path = refl; bars = λ bar. (λ h. h, λ h. h) })))
          (λ (e : i ≢ agent).
          let old = copies.each i copy (sym (slice_get-set_other all agent i agent_path e) ∙ copy_is) in
          (old.0, slice_get-set_other agent_paths agent i agent_path e ∙ old.1, old.2))
          (cases_eq i agent);
    }

copy_at : (view : View) (i : ℕ) (agent_path copy : AgentPath) → IsAgentPathAt view i agent_path → IsCopy agent_path copy → IsAgentPathAt view i copy
copy_at view i agent_path copy at same = record {
  path = at.path ∙ ap Some (sym same.path);
  bars = λ bar. (λ h. (same.bars bar).1 ((at.bars bar).0 h), λ h. (at.bars bar).1 ((same.bars bar).0 h));
}

paths_count : (view : View) (constraint : Constraint) (found : Found (List Entry)) (child : View) → IsChildView view constraint found child → length child.paths ≡ length view.paths
paths_count view constraint (Arrives path labels) child (cost, e) = ap (λ (v : View). length v.paths) e ∙ length-slice_set view.paths constraint.agent path
paths_count view constraint (Dead labels) child e = ap (λ (v : View). length v.paths) e

path_new : (view : View) (constraint : Constraint) (found : Found (List Entry)) (child : View) → IsChildView view constraint found child → (bars : List Bar) (old agent_path : AgentPath) → slice_get view.paths constraint.agent ≡ Some old.path → IsAfter old found bars agent_path → slice_get child.paths constraint.agent ≡ Some agent_path.path
path_new view constraint (Arrives path labels) child (cost, e) bars old agent_path old_is after = ap (λ (v : View). slice_get v.paths constraint.agent) e ∙ slice_get-set_same view.paths constraint.agent path (slice_get_within view.paths constraint.agent old.path old_is) ∙ ap Some (sym after.0)
path_new view constraint (Dead labels) child e bars old agent_path old_is after = ap (λ (v : View). slice_get v.paths constraint.agent) e ∙ old_is ∙ ap Some (sym after.0)

bars_after : (old : AgentPath) (found : Found (List Entry)) (bars : List Bar) (agent_path : AgentPath) → IsAfter old found bars agent_path → agent_path.bars ≡ bars
bars_after old (Arrives path labels) bars agent_path after = after.1
bars_after old (Dead labels) bars agent_path after = after.1

-- a node in which one agent's path changed is the child
module _ (view : View) (node : WholeNode) (whole : IsWhole node view) (constraint : Constraint) (found : Found (List Entry)) (child : View) (is_child : IsChildView view constraint found child) where
  agent_path_kept : (i : ℕ) (agent_path : AgentPath) → i ≢ constraint.agent → IsAgentPathAt view i agent_path → IsAgentPathAt child i agent_path
  agent_path_kept i agent_path other at = record {
    path = paths_kept view i constraint found child (inl other) is_child ∙ at.path;
    bars = subst (λ bs. AreSameBars bs agent_path.bars) (sym (bars_other view i constraint found child other is_child)) at.bars;
  }

  module _ (bars : List Bar) (same : AreSameBars bars (constraint.bar ∷ view.context.bars constraint.agent)) (old : AgentPath) (here : slice_get node.agent_paths.items constraint.agent ≡ Some old) (agent_path : AgentPath) (after : IsAfter old found bars agent_path) where
    agent_path_new : IsAgentPathAt child constraint.agent agent_path
    agent_path_new = record {
      path = path_new view constraint found child is_child bars old agent_path (whole.each constraint.agent old here).path after;
      bars = subst (λ bs. AreSameBars bs agent_path.bars) (sym (bars_bound view constraint found child is_child))
          (subst (λ bs. AreSameBars (constraint.bar ∷ view.context.bars constraint.agent) bs) (sym (bars_after old found bars agent_path after)) (bars_swap bars (constraint.bar ∷ view.context.bars constraint.agent) same));
    }

    pub whole_child : (agent_paths : Vec AgentPath Global) → AreCopies (slice_set node.agent_paths.items constraint.agent agent_path) agent_paths.items → (blocks : List LabelBlock) → blocks ≡ bound_blocks constraint.agent (labels_of found) → All (λ block. length block.entries < 2 ^ 64) blocks → (total : ℕ) → total ≡ sum child.costs →
        IsWhole (record { agent_paths = agent_paths; bound = blocks; total = total }) child
    whole_child agent_paths copies blocks own small total total_is = record {
      count = copies.count ∙ length-slice_set node.agent_paths.items constraint.agent agent_path ∙ whole.count ∙ sym (paths_count view constraint found child is_child);
      each = λ i r r_is.
          let from = copies.each i r r_is in
          copy_at child i from.0 r (⊎_elim
          (λ (e : i ≡ constraint.agent).
          let now : agent_path ≡ from.0 = same_Some agent_path from.0 (sym (slice_get-set_same node.agent_paths.items constraint.agent agent_path (slice_get_within node.agent_paths.items constraint.agent old here)) ∙ subst (λ n. slice_get (slice_set node.agent_paths.items constraint.agent agent_path) n ≡ Some from.0) e from.1) in
          subst (λ n. IsAgentPathAt child n from.0) (sym e) (subst (λ x. IsAgentPathAt child constraint.agent x) now agent_path_new))
          (λ (e : i ≢ constraint.agent). agent_path_kept i from.0 e (whole.each i from.0 (sym (slice_get-set_other node.agent_paths.items constraint.agent i agent_path e) ∙ from.1)))
          (cases_eq i constraint.agent)) from.2;
      blocks = (own ∙ sym (blocks_new view constraint found child is_child), small);
      total = total_is;
    }

pub total_generated : (problem : Instance) (view child : View) (constraint : Constraint) (found : Found (List Entry)) (goal rest : ℕ) (total : Option ℕ) (n : ℕ) → IsChildView view constraint found child → IsTotal found goal rest total → IsGeneratedState problem view child total → n ≡ sum view.costs → unwrap_or total n ≡ sum child.costs
total_generated problem view child constraint (Arrives path labels) goal rest None n is_child (cost, is, fits, e) state sums = absurd cc
total_generated problem view child constraint (Arrives path labels) goal rest (Some m) n is_child is_total state sums = state.1
total_generated problem view child constraint (Dead labels) goal rest None n e is_total state sums = sums ∙ sym (ap (λ (v : View). sum v.costs) e)
total_generated problem view child constraint (Dead labels) goal rest (Some m) n e is_total state sums = state.1
