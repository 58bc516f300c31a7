-- One node of a tree judged.
use Rattle.std.proofs.Common.{◌≡◌, ◌↔◌, ℕ, ◌<◌, Bool, true, false, List, [], ◌∷◌, Some, All, Result, Ok, Err, OnOk, subst, refl, sym, inl, inr, slice_get, slice_index_or, ◌∙◌, eq-eqb, arith}
use Rattle.std.proofs.lemmas.Bool.{cases_eq, ne_eqb}
use Rattle.std.proofs.lemmas.List.{get_or_default}
use Rattle.std.proofs.lemmas.List.Elements.{All-nil, All-cons, All-tail}
use Rattle.std.specs.List.{AllZip}
use Rattle.mapf_model.specs.declared.bar.Bar.TheVariants.{Cell}
use Rattle.mapf_model.specs.declared.item.Claim.{Claim}
use Rattle.mapf_model.specs.declared.conflict.Conflict.{Conflict}
use Rattle.mapf_model.specs.declared.constraint.Constraint.{Constraint}
use Rattle.mapf_model.specs.declared.label.Entry.{Entry}
use Rattle.mapf_model.specs.declared.problem.Agent.{Agent}
use Rattle.mapf_model.specs.Blocks.{LabelBlock}
use Rattle.mapf_model.specs.Grid.{GridMap}
use Rattle.mapf_model.specs.Labels.{Entries, entries_of, AreSound}
use Rattle.mapf_model.specs.Plan.{Instance}
use Rattle.mapf_model.specs.Printed.{AreBlocksInRange, IsBlockInRange}
use Rattle.mapf_model.specs.Laws.{FrontDecides, AreAlike, OnlyStartEntriesCount, ChildrenAreAlike}
use Rattle.mapf_model.specs.Tree.{ConstraintTree, Node, SplitNode, LeafNode, ClashNode, NodeContext, NodesShow, Leaf, ShowsFrom, StartsShow, AreBlocksSound, child_context, left_constraint, right_constraint, block_of, with_blocks}
use Rattle.mapf_certificate.specs.declared.version.Version.{Version}
use Rattle.mapf_certificate.specs.Certificates.{IsNode}
use Rattle.mapf_checker.specs.declared.fault.CheckFault.{CheckFault}
use Rattle.mapf_checker.specs.declared.starts.StartChange.{StartChange}
use Rattle.mapf_checker.specs.Branch.{Place, IsSplit, child_after}
use Rattle.mapf_checker.specs.Progress.{contexts_after, pending_at, AreAllAlike}
use Rattle.mapf_checker.specs.Starts.{AreChangesBy, AreOfFirst, KnowEntries, IsKept, with_changes}
use Rattle.mapf_checker.specs.NodeDefects.{HasNodeDefect, HasUnsoundBlock, IsGoodNode}
use Rattle.mapf_checker.proofs.EntryLemmas.{IsSoundEntry-at}
use Rattle.mapf_checker.proofs.StartLemmas.{block_of-at}

pub on_ok : {E X : Type 0} (r : Result X E) {P Q : Type 0} → (P → Q) → OnOk r P → OnOk r Q
on_ok (Ok x) f p = f p
on_ok (Err e) f p = tt

-- to be alike is reflexive, symmetric and transitive
alike_same : (problem : Instance) (a : NodeContext) → AreAlike problem a a
alike_same problem a = record { bars = refl; starts = λ i agent is. refl }

alike_turned : (problem : Instance) (a b : NodeContext) → AreAlike problem a b → AreAlike problem b a
alike_turned problem a b alike = record { bars = sym alike.bars; starts = λ i agent is. sym (alike.starts i agent is) }

alike_passed : (problem : Instance) (a b c : NodeContext) → AreAlike problem a b → AreAlike problem b c → AreAlike problem a c
alike_passed problem a b c first second = record { bars = first.bars ∙ second.bars; starts = λ i agent is. first.starts i agent is ∙ second.starts i agent is }

pub all_alike_same : (problem : Instance) (these : List NodeContext) → AreAllAlike problem these these
all_alike_same problem [] = tt
all_alike_same problem (a ∷ these) = (alike_same problem a, all_alike_same problem these)

pub all_alike_if_same : (problem : Instance) (these those : List NodeContext) → these ≡ those → AreAllAlike problem these those
all_alike_if_same problem these those same = subst (λ others. AreAllAlike problem these others) same (all_alike_same problem these)

pub all_alike_turned : (problem : Instance) (these those : List NodeContext) → AreAllAlike problem these those → AreAllAlike problem those these
all_alike_turned problem [] [] alike = tt
all_alike_turned problem (a ∷ these) (b ∷ those) (here, rest) = (alike_turned problem a b here, all_alike_turned problem these those rest)
all_alike_turned problem [] (b ∷ those) alike = absurd alike
all_alike_turned problem (a ∷ these) [] alike = absurd alike

pub all_alike_passed : (problem : Instance) (xs ys zs : List NodeContext) → AreAllAlike problem xs ys → AreAllAlike problem ys zs → AreAllAlike problem xs zs
all_alike_passed problem [] [] [] first second = tt
all_alike_passed problem (x ∷ xs) (y ∷ ys) (z ∷ zs) (a, first) (b, second) = (alike_passed problem x y z a b, all_alike_passed problem xs ys zs first second)
all_alike_passed problem [] (y ∷ ys) zs first second = absurd first
all_alike_passed problem (x ∷ xs) [] zs first second = absurd first
all_alike_passed problem [] [] (z ∷ zs) first second = absurd second
all_alike_passed problem (x ∷ xs) (y ∷ ys) [] first second = absurd second

-- after a node the pending contexts are still alike
pub alike_after : ChildrenAreAlike → (problem : Instance) (these those : List NodeContext) (node : Node) → AreAllAlike problem these those → AreAllAlike problem (contexts_after these node) (contexts_after those node)
alike_after law problem [] [] node alike = tt
alike_after law problem (a ∷ these) (b ∷ those) (SplitNode conflict blocks) (here, rest) = (law problem a b blocks (left_constraint conflict) here, (law problem a b blocks (right_constraint conflict) here, rest))
alike_after law problem (a ∷ these) (b ∷ those) (LeafNode blocks) (here, rest) = rest
alike_after law problem (a ∷ these) (b ∷ those) (ClashNode i j) (here, rest) = rest
alike_after law problem [] (b ∷ those) node alike = absurd alike
alike_after law problem (a ∷ these) [] node alike = absurd alike

-- nodes show a claim in all contexts that are alike
trees_show : OnlyStartEntriesCount → (problem : Instance) (claim : Claim) (these those : List NodeContext) (trees : List ConstraintTree) → AreAllAlike problem these those → AllZip (ShowsFrom problem claim) these trees → AllZip (ShowsFrom problem claim) those trees
trees_show law problem claim [] [] trees alike shows = shows
trees_show law problem claim (a ∷ these) (b ∷ those) (tree ∷ trees) (here, rest) (shows, others) = (law problem claim a b tree here shows, trees_show law problem claim these those trees rest others)
trees_show law problem claim (a ∷ these) (b ∷ those) [] alike shows = absurd shows
trees_show law problem claim [] (b ∷ those) trees alike shows = absurd alike
trees_show law problem claim (a ∷ these) [] trees alike shows = absurd alike

pub nodes_show_alike : OnlyStartEntriesCount → (problem : Instance) (claim : Claim) (these those : List NodeContext) (nodes : List Node) → AreAllAlike problem these those → NodesShow problem claim these nodes → NodesShow problem claim those nodes
nodes_show_alike law problem claim these those nodes alike (trees, same, shows) = (trees, same, trees_show law problem claim these those trees alike shows)

-- the changes that blocks make, of agents in their order, do to a start what the blocks do
changed_start : (problem : Instance) (entries : ℕ → Entries) (blocks : List LabelBlock) (changes : List StartChange) → AreChangesBy problem entries blocks changes → (i : ℕ) (agent : Agent) → slice_get problem.agents i ≡ Some agent → with_changes changes entries i agent.start 0 ≡ with_blocks blocks entries i agent.start 0
changed_start problem entries [] [] are i agent is = refl
changed_start problem entries (block ∷ blocks) (change ∷ changes) (by, rest) i agent is = elim (cases_eq block.agent i) [
  | inl same ↦ rw (eq-eqb block.agent i same, eq-eqb change.agent i (by.agent ∙ same)) (sym (by.now agent (subst (λ k. slice_get problem.agents k ≡ Some agent) (sym same) is)))
  | inr other ↦ rw (ne_eqb block.agent i other, ne_eqb change.agent i (λ e. other (sym by.agent ∙ e))) (changed_start problem entries blocks changes rest i agent is)
]
changed_start problem entries [] (change ∷ changes) are i agent is = absurd are
changed_start problem entries (block ∷ blocks) [] are i agent is = absurd are

-- the changes that blocks make are of the blocks' agents
pub changes_of_first : (problem : Instance) (entries : ℕ → Entries) (count : ℕ) (blocks : List LabelBlock) (changes : List StartChange) → All (λ block. block.agent < count) blocks → AreChangesBy problem entries blocks changes → AreOfFirst count changes
changes_of_first problem entries count [] [] within are = All-nil (λ (change : StartChange). change.agent < count)
changes_of_first problem entries count (block ∷ blocks) (change ∷ changes) within (by, rest) =
    All-cons (λ (change : StartChange). change.agent < count) change changes (rw by.agent (within 0 block (omega arith)))
    (changes_of_first problem entries count blocks changes (All-tail (λ (b : LabelBlock). b.agent < count) block blocks within) rest)
changes_of_first problem entries count [] (change ∷ changes) within are = absurd are
changes_of_first problem entries count (block ∷ blocks) [] within are = absurd are

-- and they know the entries before them
pub changes_know : (problem : Instance) (entries : ℕ → Entries) (blocks : List LabelBlock) (changes : List StartChange) → AreChangesBy problem entries blocks changes → KnowEntries entries changes
changes_know problem entries [] [] are = All-nil (λ (change : StartChange). IsKept entries change.agent change.before)
changes_know problem entries (block ∷ blocks) (change ∷ changes) (by, rest) =
    All-cons (λ (change : StartChange). IsKept entries change.agent change.before) change changes (subst (λ i. IsKept entries i change.before) (sym by.agent) by.before)
    (changes_know problem entries blocks changes rest)
changes_know problem entries [] (change ∷ changes) are = absurd are
changes_know problem entries (block ∷ blocks) [] are = absurd are

child_alike : (problem : Instance) (here : NodeContext) (blocks : List LabelBlock) (changes : List StartChange) (constraint : Constraint) → AreChangesBy problem here.entries blocks changes → AreAlike problem (child_after here changes constraint) (child_context here blocks constraint)
child_alike problem here blocks changes constraint are = record { bars = refl; starts = changed_start problem here.entries blocks changes are }

-- the contexts that are pending after a node
pub contexts_after_split : (problem : Instance) (conflict : Conflict) (blocks : List LabelBlock) (changes : List StartChange) (is_over : Bool) (old new : Place) → is_over ≡ false → AreChangesBy problem old.here.entries blocks changes → IsSplit old conflict changes new →
    AreAllAlike problem (pending_at is_over new) (contexts_after (pending_at is_over old) (SplitNode conflict blocks))
contexts_after_split problem conflict blocks changes true old new going are split = absurd cc
contexts_after_split problem conflict blocks changes false old new going are split = rw (split.here, split.pending)
    (child_alike problem old.here blocks changes (left_constraint conflict) are, (child_alike problem old.here blocks changes (right_constraint conflict) are, all_alike_same problem old.pending))

pub contexts_after_leaf : (blocks : List LabelBlock) (is_over : Bool) (old : Place) (pending : List NodeContext) → is_over ≡ false → pending ≡ old.pending → pending ≡ contexts_after (pending_at is_over old) (LeafNode blocks)
contexts_after_leaf blocks true old pending going same = absurd cc
contexts_after_leaf blocks false old pending going same = same

pub contexts_after_clash : (i j : ℕ) (is_over : Bool) (old : Place) (pending : List NodeContext) → is_over ≡ false → pending ≡ old.pending → pending ≡ contexts_after (pending_at is_over old) (ClashNode i j)
contexts_after_clash i j true old pending going same = absurd cc
contexts_after_clash i j false old pending going same = same

module _ (law : FrontDecides) (problem : Instance) (claim : Claim) (here : NodeContext) (pending : List NodeContext) where
  -- the nodes from a good one on show the claim if and only if those after it do
  pub judged_good : (node : Node) → IsGoodNode problem claim here node → (rest : List Node) → NodesShow problem claim (here ∷ pending) (node ∷ rest) ↔ NodesShow problem claim (contexts_after (here ∷ pending) node) rest
  judged_good (SplitNode conflict blocks) good rest = let both = (law problem claim).at_split here pending conflict blocks rest in (λ shows. (both.0 shows).1, λ shows. both.1 (good, shows))
  judged_good (LeafNode blocks) good rest = let both = (law problem claim).at_leaf here pending blocks rest in (λ shows. (both.0 shows).1, λ shows. both.1 (good, shows))
  judged_good (ClashNode i j) good rest = let both = (law problem claim).at_clash here pending i j rest in (λ shows. (both.0 shows).1, λ shows. both.1 (good, shows))

  -- no nodes show the claim that begin with one that is good nowhere
  pub shown_good : (node : Node) (rest : List Node) → NodesShow problem claim (here ∷ pending) (node ∷ rest) → IsGoodNode problem claim here node
  shown_good (SplitNode conflict blocks) rest shows = (((law problem claim).at_split here pending conflict blocks rest).0 shows).0
  shown_good (LeafNode blocks) rest shows = (((law problem claim).at_leaf here pending blocks rest).0 shows).0
  shown_good (ClashNode i j) rest shows = (((law problem claim).at_clash here pending i j rest).0 shows).0

-- blocks of which one has an unsound entry don't show a claim
unsound_refutes : (problem : Instance) (here : NodeContext) (grid : GridMap) (agents : ℕ) (blocks : List LabelBlock) → AreBlocksInRange grid agents blocks → HasUnsoundBlock problem here blocks → AreBlocksSound problem here blocks → ⊥
unsound_refutes problem here grid agents blocks in_range defect all_sound =
    let block = defect.block in
    let bad = defect.unsound in
    let (k, within, at) = defect.listed in
    let (n, inside, is) = bad.listed in
    let here_block : (d : LabelBlock) → slice_index_or blocks k d ≡ block = λ d. get_or_default blocks k d block within ∙ at in
    let here_entry : (d : Entry) → slice_index_or block.entries n d ≡ bad.entry = λ d. get_or_default block.entries n d bad.entry inside ∙ is in
    let block_in_range : IsBlockInRange grid agents block = subst (λ b. IsBlockInRange grid agents b) at (in_range.each k block within) in
    let found : block_of blocks block.agent ≡ Some block = block_of-at blocks block.agent k block in_range.rising within here_block refl in
    let sound : AreSound problem.grid bad.agent.goal (here.bars block.agent) (entries_of block.entries) = all_sound block.agent bad.agent block bad.is_agent found in
    bad.unsound (IsSoundEntry-at problem.grid bad.agent.goal (here.bars block.agent) block.entries block_in_range.rising n bad.entry inside here_entry sound)

unsound_alike : (problem : Instance) (a b : NodeContext) (blocks : List LabelBlock) → AreAlike problem a b → HasUnsoundBlock problem a blocks → HasUnsoundBlock problem b blocks
unsound_alike problem a b blocks alike defect =
    let bad = defect.unsound in
    record {
      block = defect.block;
      listed = defect.listed;
      unsound = record {
        agent = bad.agent;
        is_agent = bad.is_agent;
        entry = bad.entry;
        listed = bad.listed;
        unsound = rw alike.bars at bad.unsound;
      };
    }

-- a node with a defect isn't good
pub defect_refutes_node : (problem : Instance) (claim : Claim) (here : NodeContext) (version : Version) (grid : GridMap) (agents : ℕ) (node : Node) (fault : CheckFault) → IsNode version grid agents node → HasNodeDefect problem claim here node fault → IsGoodNode problem claim here node → ⊥
defect_refutes_node problem claim here version grid agents (SplitNode conflict blocks) fault in_range (inl (line, is, improper)) good = improper good.0.0
defect_refutes_node problem claim here version grid agents (SplitNode conflict blocks) fault in_range (inr (line, is, unsound)) good = unsound_refutes problem here grid agents blocks in_range.1 unsound good.1
defect_refutes_node problem claim here version grid agents (LeafNode blocks) fault in_range (inl (line, is, unsound)) good = unsound_refutes problem here grid agents blocks in_range unsound good.nodes.0
defect_refutes_node problem claim here version grid agents (LeafNode blocks) fault in_range (inr (line, is, weak)) good = weak good.nodes.1
defect_refutes_node problem claim here version grid agents (ClashNode i j) fault in_range (line, is, apart) good = apart good

-- what starts show they show in all contexts that are alike
starts_alike : OnlyStartEntriesCount → (problem : Instance) (claim : Claim) (a b : NodeContext) → AreAlike problem a b → StartsShow problem claim a.entries → StartsShow problem claim b.entries
starts_alike law problem claim a b alike shows =
    (law problem claim a b (Leaf []) alike (record {
      proper = (λ i j d order within. omega (arith, within), λ k d within. omega (arith, within));
      nodes = (λ i agent block is_agent is_block. absurd cc, shows);
    })).nodes.1

-- a defect is one in all contexts that are alike
pub defect_alike : OnlyStartEntriesCount → ChildrenAreAlike → (problem : Instance) (claim : Claim) (a b : NodeContext) (node : Node) (fault : CheckFault) → AreAlike problem a b → HasNodeDefect problem claim a node fault → HasNodeDefect problem claim b node fault
defect_alike law children problem claim a b (SplitNode conflict blocks) fault alike (inl improper) = inl improper
defect_alike law children problem claim a b (SplitNode conflict blocks) fault alike (inr (line, is, unsound)) = inr (line, is, unsound_alike problem a b blocks alike unsound)
defect_alike law children problem claim a b (LeafNode blocks) fault alike (inl (line, is, unsound)) = inl (line, is, unsound_alike problem a b blocks alike unsound)
defect_alike law children problem claim a b (LeafNode blocks) fault alike (inr (line, is, weak)) = inr (
  line,
  is,
  λ shows. weak
      (let any : Constraint = record { agent = 0; bar = Cell 0 0 } in
      starts_alike law problem claim (child_context b blocks any) (child_context a blocks any) (children problem b a blocks any (alike_turned problem a b alike)) shows),
)
defect_alike law children problem claim a b (ClashNode i j) fault alike defect = defect
