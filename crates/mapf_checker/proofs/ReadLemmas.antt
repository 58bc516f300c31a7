-- A tree that is judged as it is read.
use Rattle.std.proofs.Common.{◌≡◌, ◌↔◌, ℕ, ◌≤◌, Bool, true, false, List, [], ◌∷◌, ◌++◌, Option, Some, None, IfSome, IsSomeAnd, Result, Ok, Err, IfErr, MatchResult, length, refl, sym, ◌∙◌, ap, subst, append_assoc, inl, inr, arith}
use Rattle.std.proofs.lemmas.List.{append-nil, flat_map_more}
use Rattle.std.proofs.lemmas.List.Elements.{All-nil, All-push, length_all_zip}
use Rattle.std.proofs.lemmas.List.Sums.{fold_push}
use Rattle.std.proofs.lemmas.Option.{same_Some}
use Rattle.std.specs.List.{flat_map}
use Rattle.std.specs.Result.{IsErrAnd}
use Rattle.std.proofs.KnownBytes.{Consumes-nil}
use Rattle.mapf_model.specs.declared.item.Claim.{Claim}
use Rattle.mapf_model.specs.declared.item.Item.{Item}
use Rattle.mapf_model.specs.Grid.{GridMap}
use Rattle.mapf_model.specs.Laws.{FrontDecides, OnlyStartEntriesCount, ChildrenAreAlike, AreAlike}
use Rattle.mapf_model.specs.Plan.{Instance}
use Rattle.mapf_model.specs.Printed.{AreBlocksInRange}
use Rattle.mapf_model.specs.Tree.{Split, Leaf, Node, SplitNode, LeafNode, ClashNode, NodeContext, NodesShow, node_of, root}
use Rattle.mapf_certificate.specs.declared.version.Version.{Version}
use Rattle.mapf_certificate.specs.declared.cert.LinesFault.{LinesFault}
use Rattle.mapf_certificate.specs.declared.cert.LinesFault.TheVariants.{Text, Device, TooLong, Memory}
use Rattle.mapf_certificate.specs.declared.cert.CertFault.TheVariants as texts
use Rattle.mapf_certificate.specs.CertReading.{Awaits, TakesNode, TakesEnd, trees_pending_after}
use Rattle.mapf_certificate.specs.declared.line.CertLine.TheVariants as lines
use Rattle.mapf_certificate.specs.Certificates.{IsNode, line_text, node_text}
use Rattle.mapf_certificate.specs.Reading.{Reading, grid_at, agents_at, agents_in}
use Rattle.mapf_certificate.specs.Window.{Window, ComesWithin, Fails, IsNoTextFault}
use Rattle.mapf_certificate.proofs.CertTexts.{AreSized, tree_moved}
use Rattle.mapf_certificate.proofs.Windows.{Window-trans, Window-known, Window-within, ComesWithin-after, Exceeds-after, refuses_within}
use Rattle.mapf_checker.specs.declared.fault.CheckFault.{CheckFault}
use Rattle.mapf_checker.specs.declared.fault.FromFault.{FromFault}
use Rattle.mapf_checker.specs.declared.fault.FromFault.TheVariants as from
use Rattle.mapf_checker.specs.declared.tree.Progress.{Progress}
use Rattle.mapf_checker.specs.CertJudging.{HasTreeRefusal, IsBetweenItems, IsJudgedTree, IsReadTo, IsReadOn}
use Rattle.mapf_checker.specs.Faults.{of_cert, IsOfJudging, IsNoRefusal, IsOfChecking}
use Rattle.mapf_checker.specs.NodeDefects.{HasNodeDefect, IsGoodNode}
use Rattle.mapf_checker.specs.Progress.{contexts_after, contexts_after_all, pending_at, pending_by, here_of, AreAllAlike, IsReady}
use Rattle.mapf_checker.specs.Refusals.{HasBadNode}
use Rattle.mapf_checker.specs.Branch.{Place, place_of}
use Rattle.mapf_checker.proofs.TreeLemmas.{judged_good, shown_good, defect_refutes_node, defect_alike, nodes_show_alike, alike_after, all_alike_same, all_alike_turned, all_alike_passed}

-- nothing was read
pub read_none : (problem : Instance) (claim : Claim) (had : Option (List ℕ)) (start : Reading) (pending : List NodeContext) → pending ≡ root ∷ [] → IsReadTo problem claim had had start start pending
read_none problem claim had start pending same = record {
  given = [];
  in_range = All-nil (IsNode start.version problem.grid (length problem.agents));
  width = refl;
  version = refl;
  window = record { pulled = []; source = Consumes-nil had; same = append-nil start.buffer.bytes; within = omega arith };
  ahead = λ nodes awaits. (nodes, refl, awaits);
  behind = λ bytes known rest awaits. awaits;
  place = rw same (all_alike_same problem (root ∷ []));
  shows = λ rest. rw same (λ h. h, λ h. h);
}

-- the node is the next one, and the end isn't
pub record IsNext (had left : Option (List ℕ)) (old new : Reading) (node : Node) : Type 0 where
  pub takes : TakesNode had left old new node
  pub only_item : (other : Node) (nodes : List Node) → Awaits had old (other ∷ nodes) → (node ≡ other) × Awaits left new nodes
  pub only_end : Awaits had old [] → ⊥

-- an item that the reader gave is
pub is_next : (had left : Option (List ℕ)) (old new : Reading) (given : Option Item) (item : Item) → given ≡ Some item → IfSome given (λ i. TakesNode had left old new (node_of i)) →
    ((other : Node) (nodes : List Node) → Awaits had old (other ∷ nodes) → IsSomeAnd given (λ i. (node_of i ≡ other) × Awaits left new nodes)) → (Awaits had old [] → given ≡ None) → IsNext had left old new (node_of item)
is_next had left old new None item is takes only_item only_end = absurd cc
is_next had left old new (Some given) item is takes only_item only_end = rw (← same_Some given item is) (record {
  takes = takes;
  only_item = only_item;
  only_end = λ there. let none = only_end there in cc;
})

-- a tree is pending where the reader took a node
is_going : (is_over : Bool) (place : Place) (n : ℕ) → 1 ≤ n → n ≡ length (pending_at is_over place) → pending_at is_over place ≡ place.here ∷ place.pending
is_going true place n some count = absurd (omega (arith, count))
is_going false place n some count = refl

-- as many trees are pending after a node as the reader expects
contexts_count : (pending : List NodeContext) (node : Node) (n : ℕ) → 1 ≤ n → n ≡ length pending → trees_pending_after n node ≡ length (contexts_after pending node)
contexts_count [] node n some count = absurd (omega (arith, count))
contexts_count (here ∷ pending) (SplitNode conflict blocks) n some count = omega (arith, count)
contexts_count (here ∷ pending) (LeafNode blocks) n some count = omega (arith, count)
contexts_count (here ∷ pending) (ClashNode i j) n some count = omega (arith, count)

-- after a node the reader and the judge still expect the same number of trees
pub between_after : (problem : Instance) (claim : Claim) (now new : Reading) (progress after : Progress) (node : Node) → IsBetweenItems problem claim now progress → 1 ≤ now.pending → new.pending ≡ trees_pending_after now.pending node →
    (new.width ≡ now.width) × (new.height ≡ now.height) → new.header ≡ now.header → new.fault ≡ None → new.is_whole ≡ false → IsReady problem after → AreAllAlike problem (pending_by after) (contexts_after (pending_by progress) node) → IsBetweenItems problem claim new after
between_after problem claim now new progress after node between some pending size header fault part ready alike = record {
  width = size.0 ∙ between.width;
  height = size.1 ∙ between.height;
  header = header ∙ between.header;
  fault = fault;
  part = part;
  count = pending ∙ contexts_count (pending_by progress) node now.pending some between.count ∙ sym (length_all_zip (AreAlike problem) (pending_by after) (contexts_after (pending_by progress) node) alike);
  ready = ready;
}

-- a node that is in range on one grid is so on another of the same size
pub node_moved : (version : Version) (g h : GridMap) (agents : ℕ) → AreSized g h → (node : Node) → IsNode version g agents node → IsNode version h agents node
node_moved version g h agents same (SplitNode conflict blocks) is = let moved = tree_moved g h same agents (Split conflict blocks (Leaf []) (Leaf [])) (is.0, is.1, none, none) in (moved.0, moved.1, is.2) where
  none : {grid : GridMap} → AreBlocksInRange grid agents []
  none = record { each = λ k d within. absurd (omega arith); rising = λ i j d less within. absurd (omega arith) }
node_moved version g h agents same (LeafNode blocks) is = tree_moved g h same agents (Leaf blocks) is
node_moved version g h agents same (ClashNode i j) is = is

-- a node more
module _ (problem : Instance) (claim : Claim) (had mid left : Option (List ℕ)) (start now new : Reading) (progress : Progress) (between : IsBetweenItems problem claim now progress) (so_far : IsReadTo problem claim had mid start now (pending_by progress)) (node : Node) (next : IsNext mid left now new node) where
  is_pending : pending_by progress ≡ here_of progress ∷ (place_of progress.branch).pending
  is_pending = is_going progress.is_over (place_of progress.branch) now.pending next.takes.read.was_pending between.count

  -- it is the next one
  next_is : (given nodes rest : List Node) → nodes ≡ given ++ rest → Awaits mid now rest → (after : List Node) × (nodes ≡ (given ++ node ∷ []) ++ after) × (rest ≡ node ∷ after) × Awaits left new after
  next_is given nodes [] same awaits = absurd (next.only_end awaits)
  next_is given nodes (other ∷ rest) same awaits =
      let (is, after) = next.only_item other rest awaits in
      let front : other ∷ rest ≡ node ∷ rest = ap (λ n. n ∷ rest) (sym is) in
      (rest, same ∙ ap (λ ns. given ++ ns) front ∙ sym (append_assoc given (node ∷ []) rest), front, after)

  taken : Window had left start.buffer new.buffer (flat_map (node_text start.version start.width) so_far.given ++ node_text start.version start.width node)
  taken = Window-trans had mid left start.buffer now.buffer new.buffer (flat_map (node_text start.version start.width) so_far.given) (node_text start.version start.width node) so_far.window (rw (so_far.version, so_far.width) at next.takes.read.window)

  -- it is a node of a certificate, in range
  node_in_range : IsNode start.version problem.grid (length problem.agents) node
  node_in_range =
      let agents : agents_at now ≡ length problem.agents = ap agents_in between.header in
      let counted : IsNode now.version (grid_at now) (length problem.agents) node = subst (λ n. IsNode now.version (grid_at now) n node) agents next.takes.read.in_range in
      node_moved start.version (grid_at now) problem.grid (length problem.agents) (record { width = between.width; height = between.height }) node
      (subst (λ v. IsNode v (grid_at now) (length problem.agents) node) so_far.version counted)

  pub read_more : FrontDecides → OnlyStartEntriesCount → ChildrenAreAlike → new.width ≡ now.width → new.version ≡ now.version → IsGoodNode problem claim (here_of progress) node → (after : List NodeContext) → AreAllAlike problem after (contexts_after (pending_by progress) node) → IsReadTo problem claim had left start new after
  read_more law count children same_width same_version good after is_after = record {
    given = so_far.given ++ node ∷ [];
    in_range = All-push (IsNode start.version problem.grid (length problem.agents)) so_far.given node so_far.in_range node_in_range;
    width = same_width ∙ so_far.width;
    version = same_version ∙ so_far.version;
    window = subst (λ t. Window had left start.buffer new.buffer t) (flat_map_more (node_text start.version start.width) [] so_far.given node) taken;
    ahead = λ nodes awaits.
        let (rest, same, there) = so_far.ahead nodes awaits in
        let (further, whole, front, then) = next_is so_far.given nodes rest same there in
        (further, whole, then);
    behind = λ bytes known rest awaits.
        let (had_left, known_mid, same, count) = Window-known had mid start.buffer now.buffer (flat_map (node_text start.version start.width) so_far.given) bytes so_far.window known in
        subst (λ ns. Awaits had start ns) (sym (append_assoc so_far.given (node ∷ []) rest)) (so_far.behind bytes known (node ∷ rest) (next.takes.joins had_left known_mid rest awaits));
    place = subst (λ those. AreAllAlike problem after those) (sym (fold_push contexts_after (root ∷ []) so_far.given node))
        (all_alike_passed problem after (contexts_after (pending_by progress) node) (contexts_after (contexts_after_all (root ∷ []) so_far.given) node) is_after
        (alike_after children problem (pending_by progress) (contexts_after_all (root ∷ []) so_far.given) node so_far.place));
    shows = λ rest.
        let before = so_far.shows (node ∷ rest) in
        let next_on : NodesShow problem claim (pending_by progress) (node ∷ rest) ↔ NodesShow problem claim (contexts_after (pending_by progress) node) rest = rw is_pending (judged_good law problem claim (here_of progress) (place_of progress.branch).pending node good rest) in
        let here_on : NodesShow problem claim (pending_by progress) (node ∷ rest) ↔ NodesShow problem claim after rest = (
          λ shows. nodes_show_alike count problem claim (contexts_after (pending_by progress) node) after rest (all_alike_turned problem after (contexts_after (pending_by progress) node) is_after) (next_on.0 shows),
          λ shows. next_on.1 (nodes_show_alike count problem claim after (contexts_after (pending_by progress) node) rest is_after shows),
        ) in
        rw (append_assoc so_far.given (node ∷ []) rest) (λ shows. here_on.0 (before.0 shows), λ shows. before.1 (here_on.1 shows));
  }

  pub came_with_node : ComesWithin had left start.buffer
  came_with_node = Window-within had left start.buffer new.buffer (flat_map (node_text start.version start.width) so_far.given ++ node_text start.version start.width node) taken

  -- the context that the node inherits: the one that is kept is alike
  inherits : (those : List NodeContext) → AreAllAlike problem (here_of progress ∷ (place_of progress.branch).pending) those → (here : NodeContext) × (pending : List NodeContext) × (those ≡ here ∷ pending) × AreAlike problem (here_of progress) here
  inherits [] alike = absurd alike
  inherits (here ∷ pending) (alike, rest) = (here, pending, refl, alike)

  -- it has a defect
  pub bad_node : OnlyStartEntriesCount → ChildrenAreAlike → (fault : CheckFault) → HasNodeDefect problem claim (here_of progress) node fault → (bytes : List ℕ) → had ≡ Some bytes → HasBadNode problem claim start.version fault (start.buffer.bytes ++ bytes)
  bad_node count_law children fault defect bytes known =
      let text = node_text start.version start.width in
      let (after, known_left, same, count) = Window-known had left start.buffer new.buffer (flat_map text so_far.given ++ text node) bytes taken known in
      let (here, pending, place, alike) = inherits (contexts_after_all (root ∷ []) so_far.given) (subst (λ os. AreAllAlike problem os (contexts_after_all (root ∷ []) so_far.given)) is_pending so_far.place) in
      record {
        before = so_far.given;
        before_in_range = so_far.in_range;
        node = node;
        in_range = node_in_range;
        here = here;
        pending = pending;
        place = place;
        defect = defect_alike count_law children problem claim (here_of progress) here node fault alike defect;
        rest = new.buffer.bytes ++ after;
        spelled = subst (λ w. start.buffer.bytes ++ bytes ≡ flat_map (node_text start.version w) so_far.given ++ (node_text start.version w node ++ (new.buffer.bytes ++ after))) (sym so_far.width ∙ between.width)
            (same ∙ append_assoc (flat_map text so_far.given) (text node) (new.buffer.bytes ++ after));
      }

  -- so the nodes that the reader awaited don't show the claim
  pub defect_refutes_nodes : FrontDecides → (fault : CheckFault) → HasNodeDefect problem claim (here_of progress) node fault → (nodes : List Node) → Awaits had start nodes → NodesShow problem claim (root ∷ []) nodes → ⊥
  defect_refutes_nodes law fault defect nodes awaits shows =
      let (rest, same, there) = so_far.ahead nodes awaits in
      let (after, whole, front, then) = next_is so_far.given nodes rest same there in
      let all : nodes ≡ so_far.given ++ node ∷ after = same ∙ ap (λ ns. so_far.given ++ ns) front in
      let left_to_show : NodesShow problem claim (pending_by progress) (node ∷ after) = (so_far.shows (node ∷ after)).0 (subst (λ ns. NodesShow problem claim (root ∷ []) ns) all shows) in
      defect_refutes_node problem claim (here_of progress) now.version (grid_at now) (agents_at now) node fault next.takes.read.in_range defect
      (shown_good law problem claim (here_of progress) (place_of progress.branch).pending node after (subst (λ o. NodesShow problem claim o (node ∷ after)) is_pending left_to_show))

-- the end was read
pub read_all : FrontDecides → (problem : Instance) (claim : Claim) (had mid left : Option (List ℕ)) (start now new : Reading) (pending : List NodeContext) → now.pending ≡ length pending → IsReadTo problem claim had mid start now pending → TakesEnd mid left now new → IsJudgedTree problem claim had start
read_all law problem claim had mid left start now new pending count so_far takes = record {
  nodes = so_far.given;
  shows = subst (λ ns. NodesShow problem claim (root ∷ []) ns) (append-nil so_far.given)
      ((so_far.shows []).1 (subst (λ o. NodesShow problem claim o []) (sym (none pending (sym count ∙ takes.read.none_pending))) (law problem claim).over));
  read = λ bytes known.
      let (rest, known_mid, same, count) = Window-known had mid start.buffer now.buffer (flat_map (node_text start.version start.width) so_far.given) bytes so_far.window known in
      subst (λ ns. Awaits had start ns) (append-nil so_far.given) (so_far.behind bytes known [] (takes.joins rest known_mid));
  within = λ bytes known.
      let (rest, known_mid, same, count) = Window-known had mid start.buffer now.buffer (flat_map (node_text start.version start.width) so_far.given) bytes so_far.window known in
      let (after, known_left, same_end, count_end) = Window-known mid left now.buffer new.buffer (line_text now.width lines.End) rest takes.read.window known_mid in
      let none_left : after ≡ [] = rw known_left at takes.read.ended in
      omega (arith, count, count_end, ap length none_left);
} where
  none : (pending : List NodeContext) → length pending ≡ 0 → pending ≡ []
  none [] e = refl
  none (o ∷ os) e = absurd (omega (arith, e))

-- the bytes up to the end are within the limit
pub came_to_end : (problem : Instance) (claim : Claim) (had mid left : Option (List ℕ)) (start now new : Reading) (pending : List NodeContext) → IsReadTo problem claim had mid start now pending → TakesEnd mid left now new → ComesWithin had left start.buffer
came_to_end problem claim had mid left start now new pending so_far takes =
    ComesWithin-after had mid left start.buffer now.buffer (flat_map (node_text start.version start.width) so_far.given) so_far.window (Window-within mid left now.buffer new.buffer (line_text now.width lines.End) takes.read.window)

-- no nodes were awaited where reading found an error of the text
pub none_awaited : (problem : Instance) (claim : Claim) (had mid : Option (List ℕ)) (start now : Reading) (pending : List NodeContext) (fault : LinesFault) → IsReadTo problem claim had mid start now pending →
    ((other : Node) (nodes : List Node) → Awaits mid now (other ∷ nodes) → IsNoTextFault fault) → (Awaits mid now [] → IsNoTextFault fault) → (nodes : List Node) → Awaits had start nodes → IsNoTextFault fault
none_awaited problem claim had mid start now pending fault so_far only_item only_end nodes awaits = let (rest, same, there) = so_far.ahead nodes awaits in by rest there where
  by : (rest : List Node) → Awaits mid now rest → IsNoTextFault fault
  by [] there = only_end there
  by (other ∷ rest) there = only_item other rest there

pub no_refusal : (fault : LinesFault) → IsNoTextFault fault → IsNoRefusal (of_cert fault)
no_refusal (Text texts.Memory) is = tt
no_refusal (Text fault) is = absurd is
no_refusal fault is = tt

module _ (problem : Instance) (claim : Claim) (had left : Option (List ℕ)) (failed : Bool) (start : Reading) where
  -- why reading stopped
  pub stops_reading : (mid : Option (List ℕ)) (now : Reading) (taken : List ℕ) (IsText : List ℕ → Type 0) (fault : LinesFault) → Window had mid start.buffer now.buffer taken → Fails mid left failed now.buffer IsText fault →
      ((nodes : List Node) → Awaits had start nodes → IsNoTextFault fault) → IsOfChecking had left failed start.buffer (HasTreeRefusal problem claim had start) (of_cert fault)
  stops_reading mid now taken IsText (Text texts.Memory) window fails none = absurd fails
  stops_reading mid now taken IsText (Text fault) window fails none = (fails.0, ComesWithin-after had mid left start.buffer now.buffer taken window (refuses_within mid left now.buffer IsText fails.1), (λ e. cc, none))
  stops_reading mid now taken IsText Device window fails none = (fails.0, ComesWithin-after had mid left start.buffer now.buffer taken window fails.1)
  stops_reading mid now taken IsText TooLong window fails none = (fails.0, Exceeds-after had mid left start.buffer now.buffer taken window fails.1)
  stops_reading mid now taken IsText Memory window fails none = (fails.0, ComesWithin-after had mid left start.buffer now.buffer taken window fails.1)

  tree_refusal : (here : NodeContext) (node : Node) (fault : CheckFault) → HasNodeDefect problem claim here node fault → ((bytes : List ℕ) → had ≡ Some bytes → HasBadNode problem claim start.version fault (start.buffer.bytes ++ bytes)) → HasTreeRefusal problem claim had start fault
  tree_refusal here (SplitNode conflict blocks) fault (inl (line, is, defect)) bad = rw is (rw is at bad)
  tree_refusal here (SplitNode conflict blocks) fault (inr (line, is, defect)) bad = rw is (rw is at bad)
  tree_refusal here (LeafNode blocks) fault (inl (line, is, defect)) bad = rw is (rw is at bad)
  tree_refusal here (LeafNode blocks) fault (inr (line, is, defect)) bad = rw is (rw is at bad)
  tree_refusal here (ClashNode i j) fault (line, is, defect) bad = rw is (rw is at bad)

  -- why judging stopped
  pub stops_judging : (here : NodeContext) (node : Node) (fault : FromFault) → failed ≡ false → ComesWithin had left start.buffer → IsOfJudging (HasNodeDefect problem claim here node) fault →
      ((refusal : CheckFault) → HasNodeDefect problem claim here node refusal → (bytes : List ℕ) → had ≡ Some bytes → HasBadNode problem claim start.version refusal (start.buffer.bytes ++ bytes)) → IsOfChecking had left failed start.buffer (HasTreeRefusal problem claim had start) fault
  stops_judging here node (from.Refused refusal) works comes is bad = (works, comes, tree_refusal here node refusal is (bad refusal is))
  stops_judging here node from.Device works comes is bad = absurd is
  stops_judging here node from.TooLong works comes is bad = absurd is
  stops_judging here node from.Memory works comes is bad = (works, comes)

pub no_refusal_judging : (P : CheckFault → Type 0) (fault : FromFault) → IsOfJudging P fault → ((refusal : CheckFault) → P refusal → ⊥) → IsNoRefusal fault
no_refusal_judging P (from.Refused refusal) is none = none refusal is
no_refusal_judging P fault is none = tt

-- where reading or judging an item ended with this error
pub not_read_on : (problem : Instance) (claim : Claim) (had left : Option (List ℕ)) (failed : Bool) (start reading : Reading) (pending : List NodeContext) (result : Result Bool FromFault) (fault : FromFault) → IsErrAnd result (λ given. given ≡ fault) →
    ((nodes : List Node) → Awaits had start nodes → NodesShow problem claim (root ∷ []) nodes → IsNoRefusal fault) → IsOfChecking had left failed start.buffer (HasTreeRefusal problem claim had start) fault → IsReadOn problem claim had left failed start reading pending result
not_read_on problem claim had left failed start reading pending (Ok more) fault is only stops = absurd is
not_read_on problem claim had left failed start reading pending (Err given) fault is only stops = record {
  read = tt;
  came = tt;
  only = λ nodes awaits shows. subst IsNoRefusal (sym is) (only nodes awaits shows);
  stops = subst (λ f. IsOfChecking had left failed start.buffer (HasTreeRefusal problem claim had start) f) (sym is) stops;
}

-- an error that is passed on
pub err_passed : {A E : Type 0} (r : Result A E) (P : E → Type 0) (e : E) → IsErrAnd r (λ y. y ≡ e) → P e → IfErr r P
err_passed (Ok x) P e is holds = tt
err_passed (Err y) P e is holds = subst P (sym is) holds

-- a weaker statement about an error
pub err_made : {A E : Type 0} {P Q : E → Type 0} (r : Result A E) → ((e : E) → P e → Q e) → IfErr r P → IfErr r Q
err_made (Ok x) f is = tt
err_made (Err e) f is = f e is

-- an error that is passed on, for clauses about both results
pub err_matched : {A E : Type 0} (r : Result A E) (P : A → Type 0) (Q : E → Type 0) (e : E) → IsErrAnd r (λ y. y ≡ e) → Q e → MatchResult r P Q
err_matched (Ok x) P Q e is holds = absurd is
err_matched (Err y) P Q e is holds = subst Q (sym is) holds
