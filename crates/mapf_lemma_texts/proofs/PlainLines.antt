-- Where a line of version 3 ends: no line has an LF in it, and none is longer than the limit.
use Rattle.std.proofs.Common.{◌≡◌, ℕ, ◌<◌, List, [], ◌∷◌, ◌++◌, codes, length, Result, Ok, Err, refl, sym, ap, ◌∙◌, arith, append_assoc}
use Rattle.mapf_model.specs.declared.item.Claim.TheVariants as claims
use Rattle.mapf_model.specs.declared.label.Label.{Label}
use Rattle.mapf_lemmas.specs.declared.constraint.PathConstraint.{PathConstraint}
use Rattle.mapf_lemmas.specs.declared.joint.JointState.{JointState}
use Rattle.mapf_lemmas.specs.declared.constraint.PathConstraint.TheVariants as constraints
use Rattle.mapf_lemmas.specs.declared.joint.JointState.TheVariants as states
use Rattle.mapf_lemmas.specs.declared.price.Price.TheVariants as prices
use Rattle.mapf_fields.specs.declared.fault.LineFault.{LineFault}
use Rattle.mapf_fields.specs.declared.fault.LineFault.TheVariants.{Shape}
use Rattle.mapf_fields.proofs.Binds.{same_ok}
use Rattle.mapf_fields.proofs.Plain.{IsPlain, plain-append, plain-more, plain-word, plain-field, same_front}
use Rattle.mapf_lemma_texts.specs.declared.line.LemmaLine.{LemmaLine}
use Rattle.mapf_lemma_texts.specs.declared.line.LemmaLine.TheVariants as lines
use Rattle.mapf_lemma_texts.specs.declared.sizes.LineSizes.{LineSizes}
use Rattle.mapf_lemma_texts.specs.declared.sizes.LinePlace.{LinePlace}
use Rattle.mapf_lemma_texts.specs.declared.sizes.LinePlace.TheVariants as places
use Rattle.mapf_lemma_texts.specs.Lines.{words, constraint_words, joint_words, line_text, IsLine, IsLaterLine, width_of}
use Rattle.mapf_lemma_texts.specs.LineReading.{read_line}
use Rattle.mapf_lemma_texts.proofs.KindLaws.{is_entry, is_both, is_first_alone, is_second_alone, is_cells, is_prices, is_list, is_cell_price, is_edge_price, is_not_at, is_not_move, is_clear, is_most, is_least, is_one, is_two, is_never, is_cases, is_agent, is_lemmas, is_vertex, is_swap, is_costs, is_cost, is_clash, is_single_use, is_weighted_use, is_group, is_leaf}
use Rattle.mapf_lemma_texts.proofs.LineLaws.{line_again, nothing_read}

plain_constraint : (sizes : LineSizes) (agent : ℕ) (constraint : PathConstraint) → IsLaterLine sizes (lines.Constraint (record { agent = agent; constraint = constraint })) → IsPlain 64 (constraint_words sizes.width agent constraint)
plain_constraint sizes agent (constraints.NotAt cell tick) is = (is_not_at sizes).plain (agent, (cell, tick)) is
plain_constraint sizes agent (constraints.NotMove from to tick) is = (is_not_move sizes).plain (agent, (from, (to, tick))) is
plain_constraint sizes agent (constraints.Clear cell tick) is = (is_clear sizes).plain (agent, (cell, tick)) is
plain_constraint sizes agent (constraints.Most ticks) is = (is_most sizes).plain (agent, ticks) is
plain_constraint sizes agent (constraints.Least ticks) is = (is_least sizes).plain (agent, ticks) is

plain_joint : (sizes : LineSizes) (state : JointState) (tick : ℕ) (label : Label) → IsLaterLine sizes (lines.JointAt (record { state = state; tick = tick; label = label })) → IsPlain 64 (joint_words sizes.width state tick label)
plain_joint sizes (states.Both first second) tick label is = (is_both sizes).plain (first, (second, (tick, label))) is
plain_joint sizes (states.FirstAlone first) tick label is = (is_first_alone sizes).plain (first, (tt, (tick, label))) is
plain_joint sizes (states.SecondAlone second) tick label is = (is_second_alone sizes).plain (tt, (second, (tick, label))) is

plain_later : (sizes : LineSizes) (line : LemmaLine) → IsLaterLine sizes line → IsPlain 64 (words sizes.width line)
plain_later sizes (lines.Prices n) is = (is_prices sizes).plain n is
plain_later sizes (lines.List unit count) is = (is_list sizes).plain (unit, count) is
plain_later sizes (lines.Price (prices.Cell cell tick amount)) is = (is_cell_price sizes).plain (cell, (tick, amount)) is
plain_later sizes (lines.Price (prices.Edge from to tick amount)) is = (is_edge_price sizes).plain (from, (to, (tick, amount))) is
plain_later sizes (lines.Lemmas n) is = (is_lemmas sizes).plain n is
plain_later sizes (lines.One agent count entries list_number) is = (is_one sizes).plain (agent, (count, (entries, list_number))) is
plain_later sizes (lines.Two first second count one other joint list_number) is = (is_two sizes).plain (first, (second, (count, (one, (other, (joint, list_number)))))) is
plain_later sizes (lines.Never first second count) is = (is_never sizes).plain (first, (second, count)) is
plain_later sizes (lines.Cases agents count bound) is = (is_cases sizes).plain (agents, (count, bound)) is
plain_later sizes (lines.Agent agent) is = (is_agent sizes).plain agent is
plain_later sizes (lines.Constraint c) is = plain_constraint sizes c.agent c.constraint is
plain_later sizes (lines.JointAt entry) is = plain_joint sizes entry.state entry.tick entry.label is
plain_later sizes (lines.At entry) is = (is_entry sizes).plain (entry.cell, (entry.tick, entry.label)) is
plain_later sizes (lines.Cells cells) is = (is_cells sizes).plain (cells.first, cells.second) is
plain_later sizes (lines.Vertex i j cell tick) is = (is_vertex sizes).plain (i, (j, (cell, tick))) is
plain_later sizes (lines.Swap i j from to tick) is = (is_swap sizes).plain (i, (j, (from, (to, tick)))) is
plain_later sizes (lines.Cost i ticks) is = (is_cost sizes).plain (i, ticks) is
plain_later sizes (lines.Costs i ticks j least lemma) is = (is_costs sizes).plain (i, (ticks, (j, (least, lemma)))) is
plain_later sizes (lines.Clash i j) is = (is_clash sizes).plain (i, j) is
plain_later sizes (lines.Leaf uses groups list_number) is = (is_leaf sizes).plain (uses, (groups, list_number)) is
plain_later sizes (lines.Use lemma) is = (is_single_use sizes).plain lemma is
plain_later sizes (lines.Group uses divisor) is = (is_group sizes).plain (uses, divisor) is
plain_later sizes (lines.WeightedUse used) is = (is_weighted_use sizes).plain (used.lemma, used.weight) is
plain_later sizes lines.End is = plain-more 3 64 _ (omega arith) (plain-word (codes "end") 3 refl refl)
plain_later sizes _ is = absurd is

plain_agents : (line : LemmaLine) → IsLine places.Agents line → IsPlain 64 (words 1 line)
plain_agents (lines.Agents n) (low, high) =
    plain-more 10 64 _ (omega arith) (plain-append 6 4 _ _ (plain-word (codes "agents") 6 refl refl) (plain-field 32 3 n refl (omega arith) (omega arith) (omega arith)))
plain_agents _ is = absurd is

plain_claim : (line : LemmaLine) → IsLine places.Claim line → IsPlain 64 (words 1 line)
plain_claim (lines.Claim claims.Impossible) is = plain-more 16 64 _ (omega arith) (plain-word (codes "claim impossible") 16 refl refl)
plain_claim (lines.Claim (claims.Cost cost)) is =
    plain-more 21 64 _ (omega arith) (plain-append 10 11 _ _ (plain-word (codes "claim cost") 10 refl refl) (plain-field 32 10 cost refl (omega arith) (omega arith) (omega arith)))
plain_claim (lines.Claim (claims.Bound bound)) is =
    plain-more 22 64 _ (omega arith) (plain-append 11 11 _ _ (plain-word (codes "claim bound") 11 refl refl) (plain-field 32 10 bound refl (omega arith) (omega arith) (omega arith)))
plain_claim _ is = absurd is

-- a line that may come has no LF in it, and no more bytes than the limit
pub plain_line : (place : LinePlace) (line : LemmaLine) → IsLine place line → IsPlain 64 (words (width_of place) line)
plain_line places.Title lines.Title is = plain-more 11 64 _ (omega arith) (plain-word (codes "mapf-cert 3") 11 refl refl)
plain_line places.Title _ is = absurd is
plain_line places.Agents line is = plain_agents line is
plain_line places.Claim line is = plain_claim line is
plain_line (places.Later sizes) line is = plain_later sizes line is

-- the lines that two texts begin with are one line where the texts are one
pub same_line : (place : LinePlace) (l m : LemmaLine) (xs ys : List ℕ) → IsLine place l → IsLine place m → line_text (width_of place) l ++ xs ≡ line_text (width_of place) m ++ ys → (l ≡ m) × (xs ≡ ys)
same_line place l m xs ys is_l is_m e =
    let width = width_of place in
    let e' : words width l ++ (10 ∷ xs) ≡ words width m ++ (10 ∷ ys) = sym (append_assoc (words width l) (10 ∷ []) xs) ∙ e ∙ append_assoc (words width m) (10 ∷ []) ys in
    let (front, rest) = same_front (words width l) (words width m) xs ys (plain_line place l is_l).ends (plain_line place m is_m).ends e' in
    (same_ok {E = LineFault} l m (sym (line_again place l is_l) ∙ ap (read_line place) front ∙ line_again place m is_m), rest)

-- the same of their words
pub same_words : (place : LinePlace) (l m : LemmaLine) → IsLine place l → IsLine place m → words (width_of place) l ≡ words (width_of place) m → l ≡ m
same_words place l m is_l is_m e = same_ok {E = LineFault} l m (sym (line_again place l is_l) ∙ ap (read_line place) e ∙ line_again place m is_m)

-- a line that is read has a byte
pub some_read : (place : LinePlace) (bs : List ℕ) (line : LemmaLine) → read_line place bs ≡ Ok line → 0 < length bs
some_read place [] line e = let wrong : ◌≡◌ {A = Result LemmaLine LineFault} (Ok line) (Err Shape) = sym e ∙ nothing_read place in absurd cc
some_read place (b ∷ bs) line e = omega arith

-- a line that may come has a byte
pub some_words : (place : LinePlace) (line : LemmaLine) → IsLine place line → 0 < length (words (width_of place) line)
some_words place line is = some_read place (words (width_of place) line) line (line_again place line is)
