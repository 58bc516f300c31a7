-- What the answers of a reader of certificates say of the bytes that its source gave.
use Rattle.std.proofs.Common.{◌≡◌, ℕ, ◌≤◌, inl, inr, Bool, List, [], ◌∷◌, ◌++◌, Option, Some, IfSome, Result, IfErr, sym, ap, subst, ◌∙◌, arith}
use Rattle.std.proofs.lemmas.List.{append-nil}
use Rattle.std.proofs.lemmas.Bool.{cases_lt}
use Rattle.std.specs.Io.KnownBytes.{IsAtEnd}
use Rattle.mapf_model.specs.declared.item.Claim.{Claim}
use Rattle.mapf_model.specs.Grid.{GridMap}
use Rattle.mapf_model.specs.Tree.{Node}
use Rattle.mapf_certificate.specs.declared.version.Version.{Version}
use Rattle.mapf_certificate.specs.declared.cert.LinesFault.{LinesFault}
use Rattle.mapf_certificate.specs.declared.line.CertLine.{CertLine}
use Rattle.mapf_certificate.specs.declared.line.CertLine.TheVariants as lines
use Rattle.mapf_certificate.specs.declared.sizes.Sizes.{Sizes}
use Rattle.mapf_certificate.specs.declared.tree_line.Due.TheVariants as dues
use Rattle.mapf_certificate.specs.Buffered.{Buffered}
use Rattle.mapf_certificate.specs.Lines.{IsLine, IsAgentCount, grid_for}
use Rattle.mapf_certificate.specs.Certificates.{line_text, node_text, IsNode, IsRest}
use Rattle.mapf_certificate.specs.Reading.{Reading, grid_at, agents_at}
use Rattle.mapf_certificate.specs.CertReading.{IsRestAt, Awaits, CompletesNode, ReadsNode, ReadsEnd, trees_pending_after}
use Rattle.mapf_certificate.specs.Window.{Window, Fails, IsNoTextFault}
use Rattle.mapf_certificate.specs.Bounded.{BeginsWithLine, BeginsWithNode}
use Rattle.mapf_certificate.proofs.PlainLines.{same_line}
use Rattle.mapf_certificate.proofs.Windows.{Window-trans, Window-known, Fails-after, Fails-weaker, Fails-not}
use Rattle.mapf_certificate.proofs.Nodes.{node_is_line, nodes_apart}
use Rattle.mapf_certificate.proofs.Rests.{rest_starts, rest_ends, end_is_rest, rest_joins}
use Rattle.std.proofs.lemmas.Option.{same_Some}

-- what bounds the numbers of a reading's lines
pub record Bounds (sizes : Sizes) (r : Reading) : Type 0 where
  pub version : r.version ≡ sizes.version
  pub grid : grid_at r ≡ grid_for sizes
  pub agents : agents_at r ≡ sizes.agents

-- a reading of the same certificate
pub record Continues (old new : Reading) : Type 0 where
  pub version : new.version ≡ old.version
  pub grid : grid_at new ≡ grid_at old
  pub agents : agents_at new ≡ agents_at old

-- the bounds of a header that was read
abbrev pub sizes_at : (version : Version) (width height : ℕ) (header : Option (ℕ × Claim)) (h : ℕ × Claim) → (1 ≤ width) × (width ≤ 2048) → (1 ≤ height) × (height ≤ 2048) → IfSome header (λ p. IsAgentCount p.0) → header ≡ Some h → Sizes
sizes_at version width height header h columns rows agents known = record {
  version = version;
  width = width;
  height = height;
  agents = h.0;
  narrow = columns;
  low = rows;
  few = subst (λ (o : Option (ℕ × Claim)). IfSome o (λ p. IsAgentCount p.0)) known agents;
}

rest_moved : (version version' : Version) (grid other : GridMap) (agents agents' pending : ℕ) (nodes : List Node) (t : List ℕ) → version ≡ version' → grid ≡ other → agents ≡ agents' → IsRest version grid agents pending nodes t → IsRest version' other agents' pending nodes t
rest_moved version version' grid other agents agents' pending nodes t one same count rest =
    subst (λ (v : Version). IsRest v other agents' pending nodes t) one (subst (λ (n : ℕ). IsRest version other n pending nodes t) count (subst (λ (g : GridMap). IsRest version g agents pending nodes t) same rest))

node_moved : (version version' : Version) (grid other : GridMap) (agents agents' : ℕ) (node : Node) → version ≡ version' → grid ≡ other → agents ≡ agents' → IsNode version grid agents node → IsNode version' other agents' node
node_moved version version' grid other agents agents' node one same count is =
    subst (λ (v : Version). IsNode v other agents' node) one (subst (λ (n : ℕ). IsNode version other n node) count (subst (λ (g : GridMap). IsNode version g agents node) same is))

to_bounds : (sizes : Sizes) (r : Reading) (nodes : List Node) (t : List ℕ) → Bounds sizes r → IsRest r.version (grid_at r) (agents_at r) r.pending nodes t → IsRest sizes.version (grid_for sizes) sizes.agents r.pending nodes t
to_bounds sizes r nodes t bounds rest = rest_moved r.version sizes.version (grid_at r) (grid_for sizes) (agents_at r) sizes.agents r.pending nodes t bounds.version bounds.grid bounds.agents rest

-- if a subtree is pending, the rest begins with a node
pub node_next : (sizes : Sizes) (r : Reading) (t : List ℕ) → Bounds sizes r → 1 ≤ r.pending → IsRestAt r t → BeginsWithNode sizes t
node_next sizes r t bounds some (nodes, rest) =
    let starts = rest_starts sizes.version (grid_for sizes) sizes.agents r.pending nodes t (to_bounds sizes r nodes t bounds rest) some in
    record { value = starts.node; is = starts.in_range; rest = starts.after; spelled = starts.spelled }

-- if none is pending, the rest is the end
pub end_next : (sizes : Sizes) (r : Reading) (t : List ℕ) → Bounds sizes r → r.pending ≡ 0 → IsRestAt r t → t ≡ line_text sizes.width lines.End
end_next sizes r t bounds none (nodes, rest) = (rest_ends sizes.version (grid_for sizes) sizes.agents r.pending nodes t (to_bounds sizes r nodes t bounds rest) none).1

-- each rest begins with a line of a tree, or the end
pub line_next : (sizes : Sizes) (r : Reading) (t : List ℕ) → Bounds sizes r → IsRestAt r t → BeginsWithLine (dues.Tree sizes) t
line_next sizes r t bounds rest = elim (cases_lt 0 r.pending) [
  | inl some ↦ node_is_line sizes t (node_next sizes r t bounds (omega arith) rest)
  | inr none ↦ record { value = lines.End; is = tt; rest = []; spelled = end_next sizes r t bounds (omega arith) rest ∙ sym (append-nil (line_text sizes.width lines.End)) }
]

-- what is refused of a reading is refused of the same reading
pub fails_at : {A : Type 0} (a b : Option (List ℕ)) (failed : Bool) (r s : Reading) (answer : Result A LinesFault) → r ≡ s → IfErr answer (Fails a b failed r.buffer (IsRestAt r)) → IfErr answer (Fails a b failed s.buffer (IsRestAt s))
fails_at a b failed r s answer same fails = let P : Reading → Type 0 = λ q. IfErr answer (Fails a b failed q.buffer (IsRestAt q)) in subst P same fails

pub fails_first : (sizes : Sizes) (r : Reading) (had left : Option (List ℕ)) (failed : Bool) (x : Buffered) (fault : LinesFault) → Bounds sizes r → Fails had left failed x (BeginsWithLine (dues.Tree sizes)) fault → Fails had left failed x (IsRestAt r) fault
fails_first sizes r had left failed x fault bounds fails = Fails-weaker had left failed x (IsRestAt r) (BeginsWithLine (dues.Tree sizes)) fault (λ t. line_next sizes r t bounds) fails

pub fails_in_item : (sizes : Sizes) (r : Reading) (had mid left : Option (List ℕ)) (failed : Bool) (x y : Buffered) (line : CertLine) (fault : LinesFault) → Bounds sizes r → 1 ≤ r.pending → Window had mid x y (line_text sizes.width line)
    → Fails mid left failed y (λ t. BeginsWithNode sizes (line_text sizes.width line ++ t)) fault → Fails had left failed x (IsRestAt r) fault
fails_in_item sizes r had mid left failed x y line fault bounds some window fails =
    Fails-after had mid left failed x y (line_text sizes.width line) (IsRestAt r) (λ t. BeginsWithNode sizes (line_text sizes.width line ++ t)) fault window (λ more. node_next sizes r (line_text sizes.width line ++ more) bounds some) fails

pub fails_in_end : (sizes : Sizes) (r : Reading) (had mid left : Option (List ℕ)) (failed : Bool) (x y : Buffered) (line : CertLine) (fault : LinesFault) → Bounds sizes r → r.pending ≡ 0 → IsLine (dues.Tree sizes) line
    → Window had mid x y (line_text sizes.width line) → Fails mid left failed y (λ t. (line ≡ lines.End) × (t ≡ [])) fault → Fails had left failed x (IsRestAt r) fault
fails_in_end sizes r had mid left failed x y line fault bounds none is window fails =
    Fails-after had mid left failed x y (line_text sizes.width line) (IsRestAt r) (λ t. (line ≡ lines.End) × (t ≡ [])) fault window
    (λ more rest. same_line (dues.Tree sizes) line lines.End more [] is tt (end_next sizes r (line_text sizes.width line ++ more) bounds none rest ∙ sym (append-nil (line_text sizes.width lines.End)))) fails

pub reads_node : (sizes : Sizes) (had mid left : Option (List ℕ)) (old new : Reading) (y : Buffered) (line : CertLine) (node : Node) → Bounds sizes old → old.width ≡ sizes.width → Window had mid old.buffer y (line_text sizes.width line)
    → CompletesNode sizes.version (grid_for sizes) sizes.agents mid left y new.buffer line node → 1 ≤ old.pending → new.pending ≡ trees_pending_after old.pending node → ReadsNode had left old new node
reads_node sizes had mid left old new y line node bounds wide first completes some pending =
    let window = Window-trans had mid left old.buffer y new.buffer (line_text sizes.width line) completes.taken first completes.window in
    record {
      in_range = node_moved sizes.version old.version (grid_for sizes) (grid_at old) sizes.agents (agents_at old) node (sym bounds.version) (sym bounds.grid) (sym bounds.agents) completes.in_range;
      window = subst (Window had left old.buffer new.buffer) (completes.spelled ∙ ap (λ w. node_text sizes.version w node) (sym wide) ∙ ap (λ (v : Version). node_text v old.width node) (sym bounds.version)) window;
      was_pending = some;
      pending = pending;
    }

pub node_joins : (had left : Option (List ℕ)) (old new : Reading) (node : Node) → Continues old new → ReadsNode had left old new node → (bytes : List ℕ) → had ≡ Some bytes → (nodes : List Node) → Awaits left new nodes → Awaits had old (node ∷ nodes)
node_joins had left old new node on reads bytes known nodes awaits =
    let (rest, kept, same, many) = Window-known had left old.buffer new.buffer (node_text old.version old.width node) bytes reads.window known in
    let one : awaits.bytes ≡ rest = same_Some awaits.bytes rest (sym awaits.known ∙ kept) in
    let moved = rest_moved new.version old.version (grid_at new) (grid_at old) (agents_at new) (agents_at old) new.pending nodes (new.buffer.bytes ++ awaits.bytes) on.version on.grid on.agents awaits.rest in
    let after = subst (λ (n : ℕ). IsRest old.version (grid_at old) (agents_at old) n nodes (new.buffer.bytes ++ awaits.bytes)) reads.pending moved in
    let joined = rest_joins old.version (grid_at old) (agents_at old) old.pending node nodes (new.buffer.bytes ++ awaits.bytes) reads.in_range reads.was_pending after in
    record {
      bytes = bytes;
      known = known;
      rest = subst (IsRest old.version (grid_at old) (agents_at old) old.pending (node ∷ nodes)) (ap (λ l. node_text old.version old.width node ++ (new.buffer.bytes ++ l)) one ∙ sym same) joined;
    }

-- the node that was read is the one that came
pub node_same : (sizes : Sizes) (had left : Option (List ℕ)) (old new : Reading) (node due : Node) (nodes : List Node) → Bounds sizes old → old.width ≡ sizes.width → Continues old new → ReadsNode had left old new node → Awaits had old (due ∷ nodes)
    → (node ≡ due) × Awaits left new nodes
node_same sizes had left old new node due nodes bounds wide on reads awaits =
    let (rest, kept, same, many) = Window-known had left old.buffer new.buffer (node_text old.version old.width node) awaits.bytes reads.window awaits.known in
    let starts = rest_starts sizes.version (grid_for sizes) sizes.agents old.pending (due ∷ nodes) (old.buffer.bytes ++ awaits.bytes) (to_bounds sizes old (due ∷ nodes) (old.buffer.bytes ++ awaits.bytes) bounds awaits.rest) reads.was_pending in
    let in_range = node_moved old.version sizes.version (grid_at old) (grid_for sizes) (agents_at old) sizes.agents node bounds.version bounds.grid bounds.agents reads.in_range in
    let text : node_text sizes.version sizes.width node ≡ node_text old.version old.width node = ap (λ w. node_text sizes.version w node) (sym wide) ∙ ap (λ (v : Version). node_text v old.width node) (sym bounds.version) in
    let (one, tail) = (nodes_apart sizes).apart node starts.node (new.buffer.bytes ++ rest) starts.after in_range starts.in_range (ap (λ l. l ++ (new.buffer.bytes ++ rest)) text ∙ sym same ∙ starts.spelled) in
    let head : starts.node ≡ due = cc (starts.same) in
    let others : starts.others ≡ nodes = cc (starts.same) in
    let pending : trees_pending_after old.pending starts.node ≡ new.pending = ap (trees_pending_after old.pending) (sym one) ∙ sym reads.pending in
    let after = subst (λ (n : ℕ). IsRest sizes.version (grid_for sizes) sizes.agents n starts.others starts.after) pending starts.rest in
    let moved = rest_moved sizes.version new.version (grid_for sizes) (grid_at new) sizes.agents (agents_at new) new.pending starts.others starts.after (sym bounds.version ∙ sym on.version) (sym bounds.grid ∙ sym on.grid) (sym bounds.agents ∙ sym on.agents) after in (
      one ∙ head,
      record {
        bytes = rest;
        known = kept;
        rest = subst (λ (ns : List Node). IsRest new.version (grid_at new) (agents_at new) new.pending ns (new.buffer.bytes ++ rest)) others (subst (IsRest new.version (grid_at new) (agents_at new) new.pending starts.others) (sym tail) moved);
      },
    )

pub end_joins : (had left : Option (List ℕ)) (old new : Reading) → ReadsEnd had left old new → (bytes : List ℕ) → had ≡ Some bytes → Awaits had old []
end_joins had left old new reads bytes known =
    let (rest, kept, same, many) = Window-known had left old.buffer new.buffer (line_text old.width lines.End) bytes reads.window known in
    let none : rest ≡ [] = subst IsAtEnd kept reads.ended in
    let all : old.buffer.bytes ++ bytes ≡ line_text old.width lines.End = same ∙ ap (λ l. line_text old.width lines.End ++ (l ++ rest)) reads.empty ∙ ap (λ l. line_text old.width lines.End ++ l) none ∙ append-nil (line_text old.width lines.End) in
    record { bytes = bytes; known = known; rest = subst (IsRest old.version (grid_at old) (agents_at old) old.pending []) (sym all) (end_is_rest old.version (grid_at old) (agents_at old) old.pending reads.none_pending) }

-- no node comes if no subtree is pending, and no end if one is
pub no_node : (had : Option (List ℕ)) (r : Reading) (node : Node) (nodes : List Node) → Awaits had r (node ∷ nodes) → r.pending ≡ 0 → ⊥
no_node had r node nodes awaits none = by (rest_ends r.version (grid_at r) (agents_at r) r.pending (node ∷ nodes) (r.buffer.bytes ++ awaits.bytes) awaits.rest none).0
  where
    by : node ∷ nodes ≡ [] → ⊥
    by e = cc

pub no_end : (had : Option (List ℕ)) (r : Reading) → Awaits had r [] → 1 ≤ r.pending → ⊥
no_end had r awaits some =
    let starts = rest_starts r.version (grid_at r) (agents_at r) r.pending [] (r.buffer.bytes ++ awaits.bytes) awaits.rest some in
    by starts.node starts.others starts.same
  where
    by : (node : Node) (nodes : List Node) → [] ≡ node ∷ nodes → ⊥
    by node nodes e = cc

-- what is awaited isn't refused
pub awaited : (had left : Option (List ℕ)) (failed : Bool) (r : Reading) (nodes : List Node) (fault : LinesFault) → Awaits had r nodes → Fails had left failed r.buffer (IsRestAt r) fault → IsNoTextFault fault
awaited had left failed r nodes fault awaits fails = Fails-not had left failed r.buffer (IsRestAt r) fault awaits.bytes fails awaits.known (nodes, awaits.rest)
