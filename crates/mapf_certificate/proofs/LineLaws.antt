-- Lines of a certificate: what is read is spelled so, and what is spelled so is read.
use Rattle.std.proofs.Common.{◌≡◌, ℕ, ◌<◌, ◌≤◌, ◌^◌, ◌-◌, ◌/◌, ◌%◌, ◌*◌, Bool, true, false, cond, List, [], ◌∷◌, ◌++◌, codes, drop, Option, Some, None, Result, Ok, Err, refl, sym, ap, subst, ◌∙◌, arith, inl, inr}
use Rattle.std.specs.Str.Parse.{AllDigits}
use Rattle.std.proofs.lemmas.Fmt.{decimal_is_IsNumeral}
use Rattle.std.specs.Str.{bytes_eq}
use Rattle.std.proofs.lemmas.Slice.Eq.{bytes_eq-Decides}
use Rattle.mapf_model.specs.declared.conflict.Conflict.TheVariants as conflicts
use Rattle.mapf_model.specs.declared.item.Claim.{Claim}
use Rattle.mapf_model.specs.declared.item.Claim.TheVariants as claims
use Rattle.mapf_model.specs.declared.label.Label.{Label}
use Rattle.mapf_model.specs.declared.label.Label.TheVariants as labels
use Rattle.mapf_model.specs.declared.label.Entry.{Entry}
use Rattle.mapf_model.specs.Printed.{IsLabelInRange, IsEntryInRange}
use Rattle.mapf_fields.specs.Numbers.{◌>>=◌, field, pair, read_field, read_last, read_pair, in_range, below, read_cell}
use Rattle.mapf_fields.proofs.Binds.{guarded, through, same_ok, then_ok, chosen}
use Rattle.mapf_fields.proofs.Strips.{front_takes}
use Rattle.mapf_fields.proofs.Fields.{IsPastDigits, field_again, last_again, pair_takes, pair_again, below_again, range_again, cell_again, row-below, field_below, field_range, last_below, last_range}
use Rattle.mapf_certificate.specs.declared.version.Version.{Version}
use Rattle.mapf_certificate.specs.declared.version.Version.TheVariants.{One, Two}
use Rattle.mapf_certificate.specs.declared.line.CertLine.{CertLine}
use Rattle.mapf_certificate.specs.declared.line.CertLine.TheVariants as lines
use Rattle.mapf_fields.specs.declared.fault.LineFault.{LineFault}
use Rattle.mapf_fields.specs.declared.fault.LineFault.TheVariants.{Shape}
use Rattle.mapf_certificate.specs.declared.sizes.Sizes.{Sizes}
use Rattle.mapf_certificate.specs.declared.tree_line.Due.{Due}
use Rattle.mapf_certificate.specs.declared.tree_line.Due.TheVariants as dues
use Rattle.mapf_certificate.specs.declared.tree_line.LabelWord.{LabelWord}
use Rattle.mapf_certificate.specs.declared.tree_line.LabelWord.TheVariants as word
use Rattle.mapf_certificate.specs.Lines.{words, title_words, count_words, label_words, IsLine, IsCountOnSplit, IsTreeLine, IsAgentCount, IsClaimOfVersion, IsCertClaim, width_of, grid_for}
use Rattle.mapf_certificate.specs.LineReading.{read_title, read_count, read_cost, read_agents, read_bound_claim, read_claim, read_blocks, blocks_in_range, read_vertex, read_swap, read_leaf, read_clash, read_agent, read_label_word, label_in_range, read_entry, read_tree_line, read_line}

-- what a line is read to is spelled by it, in its ranges
abbrev Takes : Sizes → List ℕ → CertLine → Type 0
Takes sizes bs line = (bs ≡ words sizes.width line) × IsTreeLine sizes.version (grid_for sizes) sizes.agents line

-- the number of blocks on a split
blocks_take : (version : Version) (agents : ℕ) (bs : List ℕ) (v : Option (Option ℕ)) (n : Option ℕ) → read_blocks version bs ≡ Ok v → blocks_in_range agents v ≡ Ok n → (bs ≡ count_words n) × IsCountOnSplit version agents n
unfolding read_blocks
blocks_take One agents [] v n read ranged =
    let made : ◌≡◌ {A = Result (Option ℕ) LineFault} (Ok None) (Ok n) = ap (blocks_in_range agents) (same_ok None v read) ∙ ranged in
    let is = same_ok None n made in
    (ap count_words is, sym is)
blocks_take One agents (b ∷ bs) v n read ranged = cc
blocks_take Two agents bs v n read ranged =
    through (read_last 32 bs) _ v read (λ w last made.
    let ranged' : (in_range 0 agents w >>= λ k. Ok (Some k)) ≡ Ok n = ap (blocks_in_range agents) (same_ok _ v made) ∙ ranged in
    through (in_range 0 agents w) _ n ranged' (λ k is done.
    let (text, low, few) = last_range 32 0 agents bs w k last is in
    subst (λ (o : Option ℕ). (bs ≡ count_words o) × IsCountOnSplit Two agents o) (same_ok _ n done) (text, few)))

vertex_takes : (sizes : Sizes) (bs : List ℕ) (line : CertLine) → read_vertex sizes bs ≡ Ok line → Takes sizes (codes "vertex" ++ bs) line
unfolding read_vertex
vertex_takes sizes bs line e =
    through (read_field 32 bs) _ line e (λ i read1 more1.
    through (read_field 32 i.1) _ line more1 (λ j read2 more2.
    through (read_pair j.1) _ line more2 (λ at read3 more3.
    through (read_field 32 at.2) _ line more3 (λ tick read4 more4.
    through (read_blocks sizes.version tick.1) _ line more4 (λ blocks read5 more5.
    through (below sizes.agents i.0) _ line more5 (λ first is1 more6.
    through (below sizes.agents j.0) _ line more6 (λ second is2 more7.
    through (read_cell sizes.width sizes.height at.0 at.1) _ line more7 (λ cell is3 more8.
    through (in_range 0 999999 tick.0) _ line more8 (λ ticks is4 more9.
    through (blocks_in_range sizes.agents blocks) _ line more9 (λ count is5 made.
    let (text1, in1) = field_below 32 sizes.agents bs i first read1 is1 in
    let (text2, in2) = field_below 32 sizes.agents i.1 j second read2 is2 in
    let (text3, in3) = pair_takes j.1 at sizes.width sizes.height cell read3 is3 in
    let (text4, low, in4) = field_range 32 0 999999 at.2 tick ticks read4 is4 in
    let (text5, in5) = blocks_take sizes.version sizes.agents tick.1 blocks count read5 is5 in
    let end = text4 ∙ ap (λ r. field 32 ticks ++ r) text5 in
    let text = text1 ∙ ap (λ r. field 32 first ++ r) (text2 ∙ ap (λ r. field 32 second ++ r) (text3 ∙ ap (λ r. pair sizes.width cell ++ r) end)) in
    subst (Takes sizes (codes "vertex" ++ bs)) (same_ok _ line made) (ap (λ r. codes "vertex" ++ r) text, ((in1, in2, in3, in4), in5))))))))))))

swap_takes : (sizes : Sizes) (bs : List ℕ) (line : CertLine) → read_swap sizes bs ≡ Ok line → Takes sizes (codes "swap" ++ bs) line
unfolding read_swap
swap_takes sizes bs line e =
    through (read_field 32 bs) _ line e (λ i read1 more1.
    through (read_field 32 i.1) _ line more1 (λ j read2 more2.
    through (read_pair j.1) _ line more2 (λ here read3 more3.
    through (read_pair here.2) _ line more3 (λ there read4 more4.
    through (read_field 32 there.2) _ line more4 (λ tick read5 more5.
    through (read_blocks sizes.version tick.1) _ line more5 (λ blocks read6 more6.
    through (below sizes.agents i.0) _ line more6 (λ first is1 more7.
    through (below sizes.agents j.0) _ line more7 (λ second is2 more8.
    through (read_cell sizes.width sizes.height here.0 here.1) _ line more8 (λ from is3 more9.
    through (read_cell sizes.width sizes.height there.0 there.1) _ line more9 (λ to is4 more10.
    through (in_range 0 999999 tick.0) _ line more10 (λ ticks is5 more11.
    through (blocks_in_range sizes.agents blocks) _ line more11 (λ count is6 made.
    let (text1, in1) = field_below 32 sizes.agents bs i first read1 is1 in
    let (text2, in2) = field_below 32 sizes.agents i.1 j second read2 is2 in
    let (text3, in3) = pair_takes j.1 here sizes.width sizes.height from read3 is3 in
    let (text4, in4) = pair_takes here.2 there sizes.width sizes.height to read4 is4 in
    let (text5, low, in5) = field_range 32 0 999999 there.2 tick ticks read5 is5 in
    let (text6, in6) = blocks_take sizes.version sizes.agents tick.1 blocks count read6 is6 in
    let ends = text4 ∙ ap (λ r. pair sizes.width to ++ r) (text5 ∙ ap (λ r. field 32 ticks ++ r) text6) in
    let text = text1 ∙ ap (λ r. field 32 first ++ r) (text2 ∙ ap (λ r. field 32 second ++ r) (text3 ∙ ap (λ r. pair sizes.width from ++ r) ends)) in
    subst (Takes sizes (codes "swap" ++ bs)) (same_ok _ line made) (ap (λ r. codes "swap" ++ r) text, ((in1, in2, in3, in4, in5), in6))))))))))))))

leaf_takes : (sizes : Sizes) (bs : List ℕ) (line : CertLine) → read_leaf sizes bs ≡ Ok line → Takes sizes (codes "leaf" ++ bs) line
unfolding read_leaf
leaf_takes sizes bs line e =
    through (read_last 32 bs) _ line e (λ blocks read1 more1.
    through (in_range 0 sizes.agents blocks) _ line more1 (λ count is1 made.
    let (text, low, in1) = last_range 32 0 sizes.agents bs blocks count read1 is1 in
    subst (Takes sizes (codes "leaf" ++ bs)) (same_ok _ line made) (ap (λ r. codes "leaf" ++ r) text, in1)))

clash_takes : (sizes : Sizes) (bs : List ℕ) (line : CertLine) → read_clash sizes bs ≡ Ok line → Takes sizes (codes "clash" ++ bs) line
unfolding read_clash
clash_takes sizes bs line e =
    through (read_field 32 bs) _ line e (λ i read1 more1.
    through (read_last 32 i.1) _ line more1 (λ j read2 more2.
    through (below sizes.agents i.0) _ line more2 (λ first is1 more3.
    through (below sizes.agents j) _ line more3 (λ second is2 made.
    let (text1, in1) = field_below 32 sizes.agents bs i first read1 is1 in
    let (text2, in2) = last_below 32 sizes.agents i.1 j second read2 is2 in
    let text = text1 ∙ ap (λ r. field 32 first ++ r) text2 in
    subst (Takes sizes (codes "clash" ++ bs)) (same_ok _ line made) (ap (λ r. codes "clash" ++ r) text, (in1, in2))))))

agent_takes : (sizes : Sizes) (bs : List ℕ) (line : CertLine) → read_agent sizes bs ≡ Ok line → Takes sizes (codes "agent" ++ bs) line
unfolding read_agent
agent_takes sizes bs line e =
    through (read_field 32 bs) _ line e (λ i read1 more1.
    through (read_last 32 i.1) _ line more1 (λ entries read2 more2.
    through (below sizes.agents i.0) _ line more2 (λ agent is1 more3.
    through (in_range 1 (2 ^ 64 - 1) entries) _ line more3 (λ count is2 made.
    let (text1, in1) = field_below 32 sizes.agents bs i agent read1 is1 in
    let (text2, low, in2) = last_range 32 1 (2 ^ 64 - 1) i.1 entries count read2 is2 in
    let text = text1 ∙ ap (λ r. field 32 agent ++ r) text2 in
    subst (Takes sizes (codes "agent" ++ bs)) (same_ok _ line made) (ap (λ r. codes "agent" ++ r) text, (in1, low, let few : count < 2 ^ 64 = omega arith in few))))))

label_takes : (bs : List ℕ) (w : LabelWord) (label : Label) → read_label_word bs ≡ Ok w → label_in_range w ≡ Ok label → (bs ≡ label_words label) × IsLabelInRange label
unfolding read_label_word
label_takes bs w label e ranged = elim (chosen (bytes_eq bs (codes " inf")) _ _ _ e) [
  | inl (found, same) ↦
      let never : word.Never ≡ w = same_ok _ w same in
      let made : ◌≡◌ {A = Result Label LineFault} (Ok labels.Never) (Ok label) = ap label_in_range never ∙ ranged in
      subst (Labels bs) (same_ok labels.Never label made) ((bytes_eq-Decides bs (codes " inf")).0 found, tt)
  | inr more ↦
      through (read_last 32 bs) _ w more (λ ticks read made.
      let ranged' : (in_range 1 9999999 ticks >>= λ n. Ok (labels.Ticks n)) ≡ Ok label = ap label_in_range (same_ok _ w made) ∙ ranged in
      through (in_range 1 9999999 ticks) _ label ranged' (λ n is done.
      let (text, above, under) = last_range 32 1 9999999 bs ticks n read is in
      subst (Labels bs) (same_ok _ label done) (text, (above, under))))
]
  where
    Labels : List ℕ → Label → Type 0
    Labels bytes l = (bytes ≡ label_words l) × IsLabelInRange l

entry_takes : (sizes : Sizes) (bs : List ℕ) (line : CertLine) → read_entry sizes bs ≡ Ok line → Takes sizes (codes "at" ++ bs) line
unfolding read_entry
entry_takes sizes bs line e =
    through (read_pair bs) _ line e (λ at read1 more1.
    through (read_field 32 at.2) _ line more1 (λ tick read2 more2.
    through (read_label_word tick.1) _ line more2 (λ w read3 more3.
    through (read_cell sizes.width sizes.height at.0 at.1) _ line more3 (λ cell is1 more4.
    through (in_range 0 9999999 tick.0) _ line more4 (λ ticks is2 more5.
    through (label_in_range w) _ line more5 (λ label is3 made.
    let (text1, in1) = pair_takes bs at sizes.width sizes.height cell read1 is1 in
    let (text2, low, in2) = field_range 32 0 9999999 at.2 tick ticks read2 is2 in
    let (text3, in3) = label_takes tick.1 w label read3 is3 in
    let text = text1 ∙ ap (λ r. pair sizes.width cell ++ r) (text2 ∙ ap (λ r. field 32 ticks ++ r) text3) in
    subst (Takes sizes (codes "at" ++ bs)) (same_ok _ line made) (ap (λ r. codes "at" ++ r) text, (in1, in2, in3))))))))

end_takes : (sizes : Sizes) (bs : List ℕ) (line : CertLine) → cond (bytes_eq bs (codes "end")) (Ok lines.End) (Err Shape) ≡ Ok line → Takes sizes bs line
end_takes sizes bs line e =
    let (found, same) = guarded (bytes_eq bs (codes "end")) Shape (Ok lines.End) line e in
    subst (Takes sizes bs) (same_ok lines.End line same) ((bytes_eq-Decides bs (codes "end")).0 found, tt)

tree_line_takes : (sizes : Sizes) (bs : List ℕ) (line : CertLine) → read_tree_line sizes bs ≡ Ok line → Takes sizes bs line
unfolding read_tree_line
tree_line_takes sizes bs line e =
    let P : List ℕ → Type 0 = λ b. Takes sizes b line in
    front_takes P (codes "at") bs (read_entry sizes) _ line (λ rest. entry_takes sizes rest line)
    (front_takes P (codes "agent") bs (read_agent sizes) _ line (λ rest. agent_takes sizes rest line)
    (front_takes P (codes "leaf") bs (read_leaf sizes) _ line (λ rest. leaf_takes sizes rest line)
    (front_takes P (codes "vertex") bs (read_vertex sizes) _ line (λ rest. vertex_takes sizes rest line)
    (front_takes P (codes "swap") bs (read_swap sizes) _ line (λ rest. swap_takes sizes rest line)
    (front_takes P (codes "clash") bs (read_clash sizes) _ line (λ rest. clash_takes sizes rest line)
    (end_takes sizes bs line)))))) e

pub count_takes : (bs : List ℕ) (n : ℕ) → read_count bs ≡ Ok n → (bs ≡ field 32 n) × IsAgentCount n
unfolding read_count
count_takes bs n e = through (read_last 32 bs) _ n e (λ v read is. let (text, low, high) = last_range 32 1 200 bs v n read is in (text, (low, high)))

pub cost_takes : (bs : List ℕ) (n : ℕ) → read_cost bs ≡ Ok n → (bs ≡ field 32 n) × (n ≤ 1999999800)
unfolding read_cost
cost_takes bs n e = through (read_last 32 bs) _ n e (λ v read is. let (text, low, high) = last_range 32 0 1999999800 bs v n read is in (text, high))

-- the line is of the expected kind, and the bytes are its words
abbrev TakesDue : Due → List ℕ → CertLine → Type 0
TakesDue due bs line = IsLine due line × (bs ≡ words (width_of due) line)

agents_takes : (bs : List ℕ) (line : CertLine) → read_agents bs ≡ Ok line → TakesDue dues.Agents bs line
unfolding read_agents
agents_takes bs line e =
    front_takes (λ b. TakesDue dues.Agents b line) (codes "agents") bs _ (Err Shape) line
    (λ rest made. through (read_count rest) _ line made (λ n is done.
    let (text, ranged) = count_takes rest n is in
    subst (TakesDue dues.Agents (codes "agents" ++ rest)) (same_ok _ line done) (ranged, ap (λ r. codes "agents" ++ r) text)))
    (λ wrong. cc) e

-- a cost is claimed in both versions, and so is that no plan is valid
cost_of_either : (version : Version) (cost : ℕ) → IsClaimOfVersion version (claims.Cost cost)
cost_of_either One cost = tt
cost_of_either Two cost = tt

impossible_of_either : (version : Version) → IsClaimOfVersion version claims.Impossible
impossible_of_either One = tt
impossible_of_either Two = tt

bound_claim_takes : (version : Version) (bs : List ℕ) (line : CertLine) → read_bound_claim version bs ≡ Ok line → TakesDue (dues.Claim version) bs line
unfolding read_bound_claim
bound_claim_takes One bs line e = cc
bound_claim_takes Two bs line e =
    front_takes (λ b. TakesDue (dues.Claim Two) b line) (codes "claim bound") bs _ (Err Shape) line
    (λ rest made. through (read_cost rest) _ line made (λ n is done.
    let (text, ranged) = cost_takes rest n is in
    subst (TakesDue (dues.Claim Two) (codes "claim bound" ++ rest)) (same_ok _ line done) ((ranged, tt), ap (λ r. codes "claim bound" ++ r) text)))
    (λ wrong. cc) e

claim_takes : (version : Version) (bs : List ℕ) (line : CertLine) → read_claim version bs ≡ Ok line → TakesDue (dues.Claim version) bs line
unfolding read_claim
claim_takes version bs line e = elim (chosen (bytes_eq bs (codes "claim impossible")) _ _ _ e) [
  | inl (found, same) ↦ subst (TakesDue (dues.Claim version) bs) (same_ok (lines.Claim claims.Impossible) line same) ((tt, impossible_of_either version), (bytes_eq-Decides bs (codes "claim impossible")).0 found)
  | inr more ↦
      front_takes (λ b. TakesDue (dues.Claim version) b line) (codes "claim cost") bs _ (read_bound_claim version bs) line
      (λ rest made. through (read_cost rest) _ line made (λ n is done.
      let (text, ranged) = cost_takes rest n is in
      subst (TakesDue (dues.Claim version) (codes "claim cost" ++ rest)) (same_ok _ line done) ((ranged, cost_of_either version n), ap (λ r. codes "claim cost" ++ r) text)))
      (bound_claim_takes version bs line) more
]

title_takes : (bs : List ℕ) (line : CertLine) → read_title bs ≡ Ok line → TakesDue dues.Title bs line
unfolding read_title
title_takes bs line e =
    elim (chosen (bytes_eq bs (codes "mapf-cert 1")) _ _ _ e) [
      | inl (found, same) ↦ subst (TakesDue dues.Title bs) (same_ok (lines.Title One) line same) (tt, (bytes_eq-Decides bs (codes "mapf-cert 1")).0 found)
      | inr more ↦
          let (found, same) = guarded (bytes_eq bs (codes "mapf-cert 2")) Shape (Ok (lines.Title Two)) line more in
          subst (TakesDue dues.Title bs) (same_ok (lines.Title Two) line same) (tt, (bytes_eq-Decides bs (codes "mapf-cert 2")).0 found)
    ]

-- what a line is read as is of the expected kind, and is spelled so
pub line_takes : (due : Due) (bs : List ℕ) (line : CertLine) → read_line due bs ≡ Ok line → IsLine due line × (bs ≡ words (width_of due) line)
line_takes dues.Title bs line e = title_takes bs line e
line_takes dues.Agents bs line e = agents_takes bs line e
line_takes (dues.Claim version) bs line e = claim_takes version bs line e
line_takes (dues.Tree sizes) bs line e = let (text, ranged) = tree_line_takes sizes bs line e in (ranged, text)

-- and the other way round

pub pair_cell_again : (sizes : Sizes) (cell : ℕ) (rest : List ℕ) → cell < sizes.width * sizes.height → IsPastDigits rest
    → read_pair (pair sizes.width cell ++ rest) ≡ Ok (Some (cell % sizes.width), Some (cell / sizes.width), rest)
pair_cell_again sizes cell rest inside past =
    let some : 0 < sizes.width = omega (arith, sizes.narrow.0) in
    let column : cell % sizes.width < 2 ^ 64 = omega (arith, sizes.narrow.1) in
    let row = row-below sizes.width sizes.height cell inside in
    pair_again sizes.width cell rest column (omega (arith, sizes.low.1)) past

pub cell_sizes_again : (sizes : Sizes) (cell : ℕ) → cell < sizes.width * sizes.height → read_cell sizes.width sizes.height (Some (cell % sizes.width)) (Some (cell / sizes.width)) ≡ Ok cell
cell_sizes_again sizes cell inside = cell_again sizes.width sizes.height cell (omega (arith, sizes.narrow.0)) inside

agent_fits : (sizes : Sizes) (i : ℕ) → i < sizes.agents → i < 2 ^ 64
agent_fits sizes i h = omega (arith, sizes.few.1)

blocks_again : (version : Version) (agents : ℕ) (blocks : Option ℕ) → agents ≤ 200 → IsCountOnSplit version agents blocks → (v : Option (Option ℕ)) × (read_blocks version (count_words blocks) ≡ Ok v) × (blocks_in_range agents v ≡ Ok blocks)
unfolding read_blocks
blocks_again One agents None few is = (None, refl, refl)
blocks_again One agents (Some n) few is = cc
blocks_again Two agents None few is = absurd is
blocks_again Two agents (Some n) few is =
    (Some (Some n), then_ok _ _ _ _ (last_again 32 n (omega arith)) refl, then_ok _ _ _ _ (range_again 0 agents n (omega arith) is) refl)

count_past : (blocks : Option ℕ) → IsPastDigits (count_words blocks)
count_past None = tt
count_past (Some n) = refl

vertex_again : (sizes : Sizes) (i j cell tick : ℕ) (blocks : Option ℕ) → IsTreeLine sizes.version (grid_for sizes) sizes.agents (lines.Split (conflicts.Vertex i j cell tick) blocks)
    → read_vertex sizes (field 32 i ++ (field 32 j ++ (pair sizes.width cell ++ (field 32 tick ++ count_words blocks)))) ≡ Ok (lines.Split (conflicts.Vertex i j cell tick) blocks)
unfolding read_vertex
vertex_again sizes i j cell tick blocks ((first, second, inside, early), counted) =
    let end = field 32 tick ++ count_words blocks in
    let (v, read, ranged) = blocks_again sizes.version sizes.agents blocks sizes.few.1 counted in
    then_ok _ _ _ _ (field_again 32 i (field 32 j ++ (pair sizes.width cell ++ end)) (agent_fits sizes i first) refl)
    (then_ok _ _ _ _ (field_again 32 j (pair sizes.width cell ++ end) (agent_fits sizes j second) refl)
    (then_ok _ _ _ _ (pair_cell_again sizes cell end inside refl)
    (then_ok _ _ _ _ (field_again 32 tick (count_words blocks) (omega arith) (count_past blocks))
    (then_ok _ _ _ _ read
    (then_ok _ _ _ _ (below_again sizes.agents i first)
    (then_ok _ _ _ _ (below_again sizes.agents j second)
    (then_ok _ _ _ _ (cell_sizes_again sizes cell inside)
    (then_ok _ _ _ _ (range_again 0 999999 tick (omega arith) early)
    (then_ok _ _ _ _ ranged refl)))))))))

swap_again : (sizes : Sizes) (i j from to tick : ℕ) (blocks : Option ℕ) → IsTreeLine sizes.version (grid_for sizes) sizes.agents (lines.Split (conflicts.Swap i j from to tick) blocks)
    → read_swap sizes (field 32 i ++ (field 32 j ++ (pair sizes.width from ++ (pair sizes.width to ++ (field 32 tick ++ count_words blocks))))) ≡ Ok (lines.Split (conflicts.Swap i j from to tick) blocks)
unfolding read_swap
swap_again sizes i j from to tick blocks ((first, second, here, there, early), counted) =
    let end = field 32 tick ++ count_words blocks in
    let (v, read, ranged) = blocks_again sizes.version sizes.agents blocks sizes.few.1 counted in
    then_ok _ _ _ _ (field_again 32 i (field 32 j ++ (pair sizes.width from ++ (pair sizes.width to ++ end))) (agent_fits sizes i first) refl)
    (then_ok _ _ _ _ (field_again 32 j (pair sizes.width from ++ (pair sizes.width to ++ end)) (agent_fits sizes j second) refl)
    (then_ok _ _ _ _ (pair_cell_again sizes from (pair sizes.width to ++ end) here refl)
    (then_ok _ _ _ _ (pair_cell_again sizes to end there refl)
    (then_ok _ _ _ _ (field_again 32 tick (count_words blocks) (omega arith) (count_past blocks))
    (then_ok _ _ _ _ read
    (then_ok _ _ _ _ (below_again sizes.agents i first)
    (then_ok _ _ _ _ (below_again sizes.agents j second)
    (then_ok _ _ _ _ (cell_sizes_again sizes from here)
    (then_ok _ _ _ _ (cell_sizes_again sizes to there)
    (then_ok _ _ _ _ (range_again 0 999999 tick (omega arith) early)
    (then_ok _ _ _ _ ranged refl)))))))))))

leaf_again : (sizes : Sizes) (blocks : ℕ) → blocks ≤ sizes.agents → read_leaf sizes (field 32 blocks) ≡ Ok (lines.Leaf blocks)
unfolding read_leaf
leaf_again sizes blocks few =
    then_ok _ _ _ _ (last_again 32 blocks (omega (arith, sizes.few.1)))
    (then_ok _ _ _ _ (range_again 0 sizes.agents blocks (omega arith) few) refl)

clash_again : (sizes : Sizes) (i j : ℕ) → i < sizes.agents → j < sizes.agents → read_clash sizes (field 32 i ++ field 32 j) ≡ Ok (lines.Clash i j)
unfolding read_clash
clash_again sizes i j first second =
    then_ok _ _ _ _ (field_again 32 i (field 32 j) (agent_fits sizes i first) refl)
    (then_ok _ _ _ _ (last_again 32 j (agent_fits sizes j second))
    (then_ok _ _ _ _ (below_again sizes.agents i first)
    (then_ok _ _ _ _ (below_again sizes.agents j second) refl)))

agent_again : (sizes : Sizes) (agent entries : ℕ) → agent < sizes.agents → 1 ≤ entries → entries < 2 ^ 64 → read_agent sizes (field 32 agent ++ field 32 entries) ≡ Ok (lines.Agent agent entries)
unfolding read_agent
agent_again sizes agent entries first some fits =
    then_ok _ _ _ _ (field_again 32 agent (field 32 entries) (agent_fits sizes agent first) refl)
    (then_ok _ _ _ _ (last_again 32 entries fits)
    (then_ok _ _ _ _ (below_again sizes.agents agent first)
    (then_ok _ _ _ _ (range_again 1 (2 ^ 64 - 1) entries some (omega arith)) refl)))

-- a number isn't a word of letters
pub not_word : (word : List ℕ) (n : ℕ) → n < 2 ^ 64 → (AllDigits 10 (drop 1 word) → ⊥) → bytes_eq (field 32 n) word ≡ false
not_word word n fits letters = by (bytes_eq (field 32 n) word) refl
  where
    by : (b : Bool) → bytes_eq (field 32 n) word ≡ b → bytes_eq (field 32 n) word ≡ false
    by false e = e
    by true e = absurd (letters (subst (AllDigits 10) (ap (drop 1) ((bytes_eq-Decides (field 32 n) word).0 e)) (decimal_is_IsNumeral n fits).0.1))

label_again : (label : Label) → IsLabelInRange label → (w : LabelWord) × (read_label_word (label_words label) ≡ Ok w) × (label_in_range w ≡ Ok label)
unfolding read_label_word
label_again labels.Never is = (word.Never, refl, refl)
label_again (labels.Ticks n) (above, under) =
    let fits : n < 2 ^ 64 = omega arith in
    let number = not_word (codes " inf") n fits (λ digits. let first : 18 < 10 = digits.0 in omega arith) in
    let read : (read_last 32 (field 32 n) >>= λ v. Ok (word.Ticks v)) ≡ Ok (word.Ticks (Some n)) = then_ok _ _ _ _ (last_again 32 n fits) refl in
    let ranged : (in_range 1 9999999 (Some n) >>= λ v. Ok (labels.Ticks v)) ≡ Ok (labels.Ticks n) = then_ok _ _ _ _ (range_again 1 9999999 n above under) refl in
    (word.Ticks (Some n), ap (λ b. cond b (Ok word.Never) (read_last 32 (field 32 n) >>= λ v. Ok (word.Ticks v))) number ∙ read, ranged)

label_past : (label : Label) → IsPastDigits (label_words label)
label_past labels.Never = refl
label_past (labels.Ticks n) = refl

entry_again : (sizes : Sizes) (entry : Entry) → IsEntryInRange (grid_for sizes) entry
    → read_entry sizes (pair sizes.width entry.cell ++ (field 32 entry.tick ++ label_words entry.label)) ≡ Ok (lines.At entry)
unfolding read_entry
entry_again sizes entry (inside, early, labelled) =
    let (w, read, ranged) = label_again entry.label labelled in
    then_ok _ _ _ _ (pair_cell_again sizes entry.cell (field 32 entry.tick ++ label_words entry.label) inside refl)
    (then_ok _ _ _ _ (field_again 32 entry.tick (label_words entry.label) (omega arith) (label_past entry.label))
    (then_ok _ _ _ _ read
    (then_ok _ _ _ _ (cell_sizes_again sizes entry.cell inside)
    (then_ok _ _ _ _ (range_again 0 9999999 entry.tick (omega arith) early)
    (then_ok _ _ _ _ ranged refl)))))

tree_line_again : (sizes : Sizes) (line : CertLine) → IsTreeLine sizes.version (grid_for sizes) sizes.agents line → read_tree_line sizes (words sizes.width line) ≡ Ok line
unfolding read_tree_line
tree_line_again sizes (lines.Split (conflicts.Vertex i j cell tick) blocks) is = vertex_again sizes i j cell tick blocks is
tree_line_again sizes (lines.Split (conflicts.Swap i j from to tick) blocks) is = swap_again sizes i j from to tick blocks is
tree_line_again sizes (lines.Leaf blocks) is = leaf_again sizes blocks is
tree_line_again sizes (lines.Clash i j) is = clash_again sizes i j is.0 is.1
tree_line_again sizes (lines.Agent agent entries) is = agent_again sizes agent entries is.0 is.1 is.2
tree_line_again sizes (lines.At entry) is = entry_again sizes entry is
tree_line_again sizes lines.End is = refl
tree_line_again sizes _ is = absurd is

pub count_again : (n : ℕ) → IsAgentCount n → read_count (field 32 n) ≡ Ok n
unfolding read_count
count_again n (low, high) = then_ok _ _ _ _ (last_again 32 n (omega arith)) (range_again 1 200 n low high)

pub cost_again : (n : ℕ) → n ≤ 1999999800 → read_cost (field 32 n) ≡ Ok n
unfolding read_cost
cost_again n high = then_ok _ _ _ _ (last_again 32 n (omega arith)) (range_again 0 1999999800 n (omega arith) high)

agents_again : (n : ℕ) → IsAgentCount n → read_agents (words 1 (lines.Agents n)) ≡ Ok (lines.Agents n)
unfolding read_agents
agents_again n is = then_ok _ _ _ _ (count_again n is) refl

bound_claim_again : (version : Version) (bound : ℕ) → IsCertClaim version (claims.Bound bound) → read_bound_claim version (words 1 (lines.Claim (claims.Bound bound))) ≡ Ok (lines.Claim (claims.Bound bound))
unfolding read_bound_claim
bound_claim_again One bound is = absurd is.1
bound_claim_again Two bound is = then_ok _ _ _ _ (cost_again bound is.0) refl

claim_again : (version : Version) (claim : Claim) → IsCertClaim version claim → read_claim version (words 1 (lines.Claim claim)) ≡ Ok (lines.Claim claim)
unfolding read_claim
claim_again version claims.Impossible is = refl
claim_again version (claims.Cost cost) is = then_ok _ _ _ _ (cost_again cost is.0) refl
claim_again version (claims.Bound bound) is = bound_claim_again version bound is

title_again : (version : Version) → read_title (title_words version) ≡ Ok (lines.Title version)
unfolding read_title
title_again One = refl
title_again Two = refl

-- a line of the expected kind is read from its text
pub line_again : (due : Due) (line : CertLine) → IsLine due line → read_line due (words (width_of due) line) ≡ Ok line
line_again dues.Title (lines.Title version) is = title_again version
line_again dues.Title _ is = absurd is
line_again dues.Agents (lines.Agents n) is = agents_again n is
line_again dues.Agents _ is = absurd is
line_again (dues.Claim version) (lines.Claim claim) is = claim_again version claim is
line_again (dues.Claim version) _ is = absurd is
line_again (dues.Tree sizes) line is = tree_line_again sizes line is
