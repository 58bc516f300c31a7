-- Lines of version 3: what is read is spelled so, and what is spelled so is read.
use Rattle.std.proofs.Common.{◌≡◌, ℕ, ◌<◌, ◌≤◌, ◌/◌, List, [], ◌++◌, codes, Option, Result, Ok, Err, refl, sym, ap, subst, ◌∙◌, arith, inl, inr}
use Rattle.std.specs.Str.{bytes_eq}
use Rattle.std.specs.Fmt.{decimal}
use Rattle.std.proofs.lemmas.Slice.Eq.{bytes_eq-Decides}
use Rattle.mapf_model.specs.declared.item.Claim.{Claim}
use Rattle.mapf_model.specs.declared.item.Claim.TheVariants as claims
use Rattle.mapf_model.specs.Limits.{greatest_cost, last_split_tick}
use Rattle.mapf_model.specs.declared.label.Label.{Label}
use Rattle.mapf_model.specs.declared.label.Entry.{Entry}
use Rattle.mapf_lemmas.specs.declared.constraint.PathConstraint.{PathConstraint}
use Rattle.mapf_lemmas.specs.declared.constraint.PathConstraint.TheVariants as constraints
use Rattle.mapf_lemmas.specs.declared.joint.JointState.{JointState}
use Rattle.mapf_lemmas.specs.declared.joint.JointState.TheVariants as states
use Rattle.mapf_lemmas.specs.declared.leaf.Use.{Use}
use Rattle.mapf_lemmas.specs.declared.price.Price.{Price}
use Rattle.mapf_lemmas.specs.declared.price.Price.TheVariants as prices
use Rattle.mapf_fields.specs.declared.fault.LineFault.{LineFault}
use Rattle.mapf_fields.specs.declared.fault.LineFault.TheVariants.{Shape, Range}
use Rattle.mapf_fields.specs.Numbers.{◌>>=◌, field, pair, in_range}
use Rattle.mapf_fields.proofs.Binds.{guarded, chosen, through, same_ok, then_ok}
use Rattle.mapf_fields.proofs.Strips.{front_takes}
use Rattle.mapf_lemma_texts.specs.declared.line.LemmaLine.{LemmaLine}
use Rattle.mapf_lemma_texts.specs.declared.line.LemmaLine.TheVariants as lines
use Rattle.mapf_lemma_texts.specs.declared.sizes.LineSizes.{LineSizes}
use Rattle.mapf_lemma_texts.specs.declared.sizes.LinePlace.{LinePlace}
use Rattle.mapf_lemma_texts.specs.declared.sizes.LinePlace.TheVariants as places
use Rattle.mapf_lemma_texts.specs.Ranges.{IsPriceInRange, most_listed, greatest_label, greatest_price}
use Rattle.mapf_lemma_texts.specs.Lines.{words, amount_words, price_words, constraint_words, joint_words, IsLine, IsLaterLine, width_of, cells_of}
use Rattle.mapf_lemma_texts.specs.LineParts.{Back, star, read_back, last_number, last_amount, ◌&◌}
use Rattle.mapf_lemma_texts.specs.LineReading.{or_else, after_word, agent_part, up_to, last_up_to, last_one_to, cell_on, read_entry, read_both, read_first_alone, read_second_alone, read_joint, read_at, read_cells, read_label_line, read_prices, read_list, read_cell_price, read_edge_price, read_price, read_price_line, read_not_at, read_not_move, read_not, read_clear, read_most, read_least, read_constraint_line, read_lemmas, read_one, read_two, read_never, read_cases, read_agent, read_lemma_line, read_vertex, read_swap, read_cost_split, read_costs, read_clash, read_split_line, read_leaf, read_group, read_single_use, read_weighted_use, read_use, read_leaf_line, read_end, read_later, read_title, read_count, read_agents, read_cost, read_bound, read_claim, read_line}
use Rattle.mapf_lemma_texts.proofs.PartLaws.{IsExactBack, not_front, no_cell, back_takes, back_again, range-up_to, range-one_to, exact-last, exact-cell, after_front, number_on_cell, last_on_cell, last_on_more, no_amount, no_number, no_last}
use Rattle.mapf_lemma_texts.proofs.KindLaws.{Takes, cancel, exact-agent, make_cell_price, make_not_at, make_single_use, make_entry, make_both, make_first_alone, is_entry, is_both, is_first_alone, is_second_alone, is_cells, is_prices, is_list, is_cell_price, is_edge_price, is_not_at, is_not_move, is_clear, is_most, is_least, is_one, is_two, is_never, is_cases, is_agent, is_lemmas, is_vertex, is_swap, is_costs, is_cost, is_clash, is_single_use, is_weighted_use, is_group, is_leaf}

exact-sum : IsExactBack (last_up_to 1999999800) (field 32) (λ n. n ≤ 1999999800) 11
exact-sum = exact-last (range-up_to 1999999800 10 (omega arith) (omega arith) (omega arith))

-- what a choice of two shapes is read as
else_takes : {A : Type 0} (P : Type 0) (read other : Result A LineFault) (x : A) → (read ≡ Ok x → P) → (other ≡ Ok x → P) → or_else read other ≡ Ok x → P
else_takes P (Ok y) other x first second e = first e
else_takes P (Err Shape) other x first second e = second e
else_takes P (Err Range) other x first second e = cc

else_first : {A : Type 0} (read other : Result A LineFault) (x : A) → read ≡ Ok x → or_else read other ≡ Ok x
else_first read other x e = ap (λ r. or_else r other) e

else_second : {A : Type 0} (read other : Result A LineFault) (x : A) → read ≡ Err Shape → other ≡ Ok x → or_else read other ≡ Ok x
else_second read other x wrong e = ap (λ r. or_else r other) wrong ∙ e

-- the kinds of lines that share a word

joint_takes : (sizes : LineSizes) (bs : List ℕ) (line : LemmaLine) → read_joint sizes bs ≡ Ok line → Takes sizes (codes "at" ++ bs) line
unfolding read_joint
joint_takes sizes bs line = else_takes _ (read_both sizes bs) (or_else (read_first_alone sizes bs) (read_second_alone sizes bs)) line ((is_both sizes).takes bs line)
    (else_takes _ (read_first_alone sizes bs) (read_second_alone sizes bs) line ((is_first_alone sizes).takes bs line) ((is_second_alone sizes).takes bs line))

at_takes : (sizes : LineSizes) (bs : List ℕ) (line : LemmaLine) → read_at sizes bs ≡ Ok line → Takes sizes (codes "at" ++ bs) line
unfolding read_at
at_takes sizes bs line = else_takes _ (read_entry sizes bs) (read_joint sizes bs) line ((is_entry sizes).takes bs line) (joint_takes sizes bs line)

price_takes : (sizes : LineSizes) (bs : List ℕ) (line : LemmaLine) → read_price sizes bs ≡ Ok line → Takes sizes (codes "price" ++ bs) line
unfolding read_price
price_takes sizes bs line = else_takes _ (read_cell_price sizes bs) (read_edge_price sizes bs) line ((is_cell_price sizes).takes bs line) ((is_edge_price sizes).takes bs line)

not_takes : (sizes : LineSizes) (bs : List ℕ) (line : LemmaLine) → read_not sizes bs ≡ Ok line → Takes sizes (codes "not" ++ bs) line
unfolding read_not
not_takes sizes bs line = else_takes _ (read_not_at sizes bs) (read_not_move sizes bs) line ((is_not_at sizes).takes bs line) ((is_not_move sizes).takes bs line)

use_takes : (sizes : LineSizes) (bs : List ℕ) (line : LemmaLine) → read_use bs ≡ Ok line → Takes sizes (codes "use" ++ bs) line
unfolding read_use
use_takes sizes bs line = else_takes _ (read_single_use bs) (read_weighted_use bs) line ((is_single_use sizes).takes bs line) ((is_weighted_use sizes).takes bs line)

-- the lines by their words

-- what is read after a word, or otherwise
word_takes : (sizes : LineSizes) (word bs : List ℕ) (read : List ℕ → Result LemmaLine LineFault) (other : Result LemmaLine LineFault) (line : LemmaLine)
    → ((rest : List ℕ) → read rest ≡ Ok line → Takes sizes (word ++ rest) line) → (other ≡ Ok line → Takes sizes bs line)
    → after_word word read bs other ≡ Ok line → Takes sizes bs line
word_takes sizes word bs read other line = front_takes (λ b. Takes sizes b line) word bs read other line

no_word : {P : Type 0} (line : LemmaLine) → ◌≡◌ {A = Result LemmaLine LineFault} (Err Shape) (Ok line) → P
no_word line e = absurd cc

label_line_takes : (sizes : LineSizes) (bs : List ℕ) (line : LemmaLine) → read_label_line sizes bs ≡ Ok line → Takes sizes bs line
unfolding read_label_line
label_line_takes sizes bs line =
    word_takes sizes (codes "at") bs (read_at sizes) _ line (λ rest. at_takes sizes rest line)
    (word_takes sizes (codes "cells") bs (read_cells sizes) _ line (λ rest. (is_cells sizes).takes rest line) (no_word line))

price_line_takes : (sizes : LineSizes) (bs : List ℕ) (line : LemmaLine) → read_price_line sizes bs ≡ Ok line → Takes sizes bs line
unfolding read_price_line
price_line_takes sizes bs line =
    word_takes sizes (codes "prices") bs read_prices _ line (λ rest. (is_prices sizes).takes rest line)
    (word_takes sizes (codes "price") bs (read_price sizes) _ line (λ rest. price_takes sizes rest line)
    (word_takes sizes (codes "list") bs read_list _ line (λ rest. (is_list sizes).takes rest line) (no_word line)))

constraint_line_takes : (sizes : LineSizes) (bs : List ℕ) (line : LemmaLine) → read_constraint_line sizes bs ≡ Ok line → Takes sizes bs line
unfolding read_constraint_line
constraint_line_takes sizes bs line =
    word_takes sizes (codes "not") bs (read_not sizes) _ line (λ rest. not_takes sizes rest line)
    (word_takes sizes (codes "clear") bs (read_clear sizes) _ line (λ rest. (is_clear sizes).takes rest line)
    (word_takes sizes (codes "most") bs (read_most sizes) _ line (λ rest. (is_most sizes).takes rest line)
    (word_takes sizes (codes "least") bs (read_least sizes) _ line (λ rest. (is_least sizes).takes rest line) (no_word line))))

leaf_line_takes : (sizes : LineSizes) (bs : List ℕ) (line : LemmaLine) → read_leaf_line sizes bs ≡ Ok line → Takes sizes bs line
unfolding read_leaf_line
leaf_line_takes sizes bs line =
    word_takes sizes (codes "use") bs read_use _ line (λ rest. use_takes sizes rest line)
    (word_takes sizes (codes "group") bs read_group _ line (λ rest. (is_group sizes).takes rest line)
    (word_takes sizes (codes "leaf") bs (read_leaf sizes) _ line (λ rest. (is_leaf sizes).takes rest line) (no_word line)))

split_line_takes : (sizes : LineSizes) (bs : List ℕ) (line : LemmaLine) → read_split_line sizes bs ≡ Ok line → Takes sizes bs line
unfolding read_split_line
split_line_takes sizes bs line =
    word_takes sizes (codes "vertex") bs (read_vertex sizes) _ line (λ rest. (is_vertex sizes).takes rest line)
    (word_takes sizes (codes "swap") bs (read_swap sizes) _ line (λ rest. (is_swap sizes).takes rest line)
    (word_takes sizes (codes "costs") bs (read_costs sizes) _ line (λ rest. (is_costs sizes).takes rest line)
    (word_takes sizes (codes "cost") bs (read_cost_split sizes) _ line (λ rest. (is_cost sizes).takes rest line)
    (word_takes sizes (codes "clash") bs (read_clash sizes) _ line (λ rest. (is_clash sizes).takes rest line) (no_word line)))))

lemma_line_takes : (sizes : LineSizes) (bs : List ℕ) (line : LemmaLine) → read_lemma_line sizes bs ≡ Ok line → Takes sizes bs line
unfolding read_lemma_line
lemma_line_takes sizes bs line =
    word_takes sizes (codes "one") bs (read_one sizes) _ line (λ rest. (is_one sizes).takes rest line)
    (word_takes sizes (codes "two") bs (read_two sizes) _ line (λ rest. (is_two sizes).takes rest line)
    (word_takes sizes (codes "never") bs (read_never sizes) _ line (λ rest. (is_never sizes).takes rest line)
    (word_takes sizes (codes "cases") bs (read_cases sizes) _ line (λ rest. (is_cases sizes).takes rest line)
    (word_takes sizes (codes "agent") bs (read_agent sizes) _ line (λ rest. (is_agent sizes).takes rest line)
    (word_takes sizes (codes "lemmas") bs read_lemmas _ line (λ rest. (is_lemmas sizes).takes rest line) (no_word line))))))

end_takes : (sizes : LineSizes) (bs : List ℕ) (line : LemmaLine) → read_end bs ≡ Ok line → Takes sizes bs line
unfolding read_end
end_takes sizes bs line e =
    let (found, same) = guarded (bytes_eq bs (codes "end")) Shape (Ok lines.End) line e in
    subst (Takes sizes bs) (same_ok lines.End line same) ((bytes_eq-Decides bs (codes "end")).0 found, tt)

later_takes : (sizes : LineSizes) (bs : List ℕ) (line : LemmaLine) → read_later sizes bs ≡ Ok line → Takes sizes bs line
unfolding read_later
later_takes sizes bs line =
    else_takes _ (read_label_line sizes bs) _ line (label_line_takes sizes bs line)
    (else_takes _ (read_price_line sizes bs) _ line (price_line_takes sizes bs line)
    (else_takes _ (read_constraint_line sizes bs) _ line (constraint_line_takes sizes bs line)
    (else_takes _ (read_leaf_line sizes bs) _ line (leaf_line_takes sizes bs line)
    (else_takes _ (read_split_line sizes bs) _ line (split_line_takes sizes bs line)
    (else_takes _ (read_lemma_line sizes bs) _ line (lemma_line_takes sizes bs line) (end_takes sizes bs line))))))

-- the first three lines

-- a line is spelled by these bytes, and may come there
abbrev TakesAt : LinePlace → List ℕ → LemmaLine → Type 0
TakesAt place bs line = IsLine place line × (bs ≡ words (width_of place) line)

title_takes : (bs : List ℕ) (line : LemmaLine) → read_title bs ≡ Ok line → TakesAt places.Title bs line
unfolding read_title
title_takes bs line e =
    let (found, same) = guarded (bytes_eq bs (codes "mapf-cert 3")) Shape (Ok lines.Title) line e in
    subst (TakesAt places.Title bs) (same_ok lines.Title line same) (tt, (bytes_eq-Decides bs (codes "mapf-cert 3")).0 found)

-- a number is read after its word
number_takes : (place : LinePlace) (word bs : List ℕ) (line : LemmaLine) {judge : Option ℕ → Result ℕ LineFault} {Is : ℕ → Type 0} {room : ℕ} → IsExactBack (last_number judge) (field 32) Is room
    → (make : ℕ → LemmaLine) → ((n : ℕ) → words (width_of place) (make n) ≡ word ++ field 32 n) → ((n : ℕ) → Is n → IsLine place (make n))
    → (read_back (last_number judge) bs >>= λ n. Ok (make n)) ≡ Ok line → TakesAt place (word ++ bs) line
number_takes place word bs line {judge = judge} exact make same good e =
    through (read_back (last_number judge) bs) _ line e (λ n read done.
    let (text, is) = back_takes exact bs n read in
    subst (TakesAt place (word ++ bs)) (same_ok (make n) line done) (good n is, ap (λ r. word ++ r) text ∙ sym (same n)))

agents_takes : (bs : List ℕ) (line : LemmaLine) → read_agents bs ≡ Ok line → TakesAt places.Agents bs line
unfolding read_agents read_count
agents_takes bs line =
    front_takes (λ b. TakesAt places.Agents b line) (codes "agents") bs read_count (Err Shape) line
    (λ rest. number_takes places.Agents (codes "agents") rest line (exact-last (range-one_to 200 3 (omega arith) (omega arith) (omega arith))) (λ n. lines.Agents n) (λ n. refl) (λ n is. is))
    (no_word line)

claim_takes : (bs : List ℕ) (line : LemmaLine) → read_claim bs ≡ Ok line → TakesAt places.Claim bs line
unfolding read_claim read_cost read_bound
claim_takes bs line e = elim (chosen (bytes_eq bs (codes "claim impossible")) _ _ _ e) [
  | inl (found, same) ↦ subst (TakesAt places.Claim bs) (same_ok (lines.Claim claims.Impossible) line same) (tt, (bytes_eq-Decides bs (codes "claim impossible")).0 found)
  | inr more ↦
      front_takes (λ b. TakesAt places.Claim b line) (codes "claim cost") bs read_cost _ line
      (λ rest. number_takes places.Claim (codes "claim cost") rest line exact-sum (λ n. lines.Claim (claims.Cost n)) (λ n. refl) (λ n is. is))
      (front_takes (λ b. TakesAt places.Claim b line) (codes "claim bound") bs read_bound _ line
      (λ rest. number_takes places.Claim (codes "claim bound") rest line exact-sum (λ n. lines.Claim (claims.Bound n)) (λ n. refl) (λ n is. is))
      (no_word line)) more
]

-- what a line is read as may come there, and is spelled so
pub line_takes : (place : LinePlace) (bs : List ℕ) (line : LemmaLine) → read_line place bs ≡ Ok line → IsLine place line × (bs ≡ words (width_of place) line)
line_takes places.Title bs line e = title_takes bs line e
line_takes places.Agents bs line e = agents_takes bs line e
line_takes places.Claim bs line e = claim_takes bs line e
line_takes (places.Later sizes) bs line e = let (text, ranged) = later_takes sizes bs line e in (ranged, text)

-- and the other way round

-- an error of the shape of some parts is one of the line
shape_of : {R A : Type 0} (back : Back R A) (bs : List ℕ) (make : A → LemmaLine) → back.read bs ≡ Err Shape → (read_back back bs >>= λ v. Ok (make v)) ≡ Err Shape
shape_of back bs make wrong = ap (λ r. (r >>= back.judge) >>= λ v. Ok (make v)) wrong

edge_is_no_cell : (sizes : LineSizes) (from to : ℕ) (rest : List ℕ) → from < cells_of sizes → read_cell_price sizes (pair sizes.width from ++ (pair sizes.width to ++ rest)) ≡ Err Shape
unfolding read_cell_price
edge_is_no_cell sizes from to rest is =
    shape_of (cell_on sizes & up_to last_split_tick & last_one_to greatest_price) (pair sizes.width from ++ (pair sizes.width to ++ rest)) make_cell_price
    (after_front (exact-cell sizes) (up_to last_split_tick & last_one_to greatest_price) from (pair sizes.width to ++ rest) is refl
    (number_on_cell sizes (in_range 0 last_split_tick) (last_one_to greatest_price) to rest (no_last (decimal (to / sizes.width) ++ rest))))

price_again : (sizes : LineSizes) (price : Price) → IsPriceInRange (cells_of sizes) price → (text : List ℕ) → price_words sizes.width price ≡ codes "price" ++ text → read_price sizes text ≡ Ok (lines.Price price)
unfolding read_price
price_again sizes (prices.Cell cell tick amount) is text same =
    else_first (read_cell_price sizes text) (read_edge_price sizes text) _ ((is_cell_price sizes).again (cell, (tick, amount)) is text same)
price_again sizes (prices.Edge from to tick amount) is text same =
    else_second (read_cell_price sizes text) (read_edge_price sizes text) _
    (ap (read_cell_price sizes) (sym (cancel (codes "price") _ text same)) ∙ edge_is_no_cell sizes from to (field 32 tick ++ field 32 amount) is.0)
    ((is_edge_price sizes).again (from, (to, (tick, amount))) is text same)

move_is_no_cell : (sizes : LineSizes) (agent from to : ℕ) (rest : List ℕ) → agent < sizes.agents → from < cells_of sizes
    → read_not_at sizes (field 32 agent ++ (pair sizes.width from ++ (pair sizes.width to ++ rest))) ≡ Err Shape
unfolding read_not_at
move_is_no_cell sizes agent from to rest first is =
    let cells = pair sizes.width from ++ (pair sizes.width to ++ rest) in
    shape_of (agent_part sizes & cell_on sizes & last_up_to last_split_tick) (field 32 agent ++ cells) make_not_at
    (after_front (exact-agent sizes) (cell_on sizes & last_up_to last_split_tick) agent cells first refl
    (after_front (exact-cell sizes) (last_up_to last_split_tick) from (pair sizes.width to ++ rest) is refl (last_on_cell sizes to rest)))

use_is_no_single : (lemma weight : ℕ) → lemma ≤ most_listed → read_single_use (field 32 lemma ++ field 32 weight) ≡ Err Shape
unfolding read_single_use
use_is_no_single lemma weight is =
    shape_of (last_up_to most_listed) (field 32 lemma ++ field 32 weight) make_single_use (last_on_more lemma 32 (decimal weight) (omega arith) refl)

both_is_no_entry : (sizes : LineSizes) (first second : ℕ) (rest : List ℕ) → first < cells_of sizes → read_entry sizes (pair sizes.width first ++ (pair sizes.width second ++ rest)) ≡ Err Shape
unfolding read_entry
both_is_no_entry sizes first second rest is =
    shape_of (cell_on sizes & up_to greatest_cost & last_amount greatest_label) (pair sizes.width first ++ (pair sizes.width second ++ rest)) make_entry
    (after_front (exact-cell sizes) (up_to greatest_cost & last_amount greatest_label) first (pair sizes.width second ++ rest) is refl
    (number_on_cell sizes (in_range 0 greatest_cost) (last_amount greatest_label) second rest (no_amount (decimal (second / sizes.width) ++ rest))))

first_is_no_entry : (sizes : LineSizes) (first : ℕ) (rest : List ℕ) → first < cells_of sizes → read_entry sizes (pair sizes.width first ++ (codes " *" ++ rest)) ≡ Err Shape
unfolding read_entry
first_is_no_entry sizes first rest is =
    shape_of (cell_on sizes & up_to greatest_cost & last_amount greatest_label) (pair sizes.width first ++ (codes " *" ++ rest)) make_entry
    (after_front (exact-cell sizes) (up_to greatest_cost & last_amount greatest_label) first (codes " *" ++ rest) is refl
    (not_front (up_to greatest_cost) (last_amount greatest_label) (codes " *" ++ rest) (no_number rest)))

second_is_no_entry : (sizes : LineSizes) (rest : List ℕ) → read_entry sizes (codes " *" ++ rest) ≡ Err Shape
unfolding read_entry
second_is_no_entry sizes rest =
    shape_of (cell_on sizes & up_to greatest_cost & last_amount greatest_label) (codes " *" ++ rest) make_entry
    (not_front (cell_on sizes) (up_to greatest_cost & last_amount greatest_label) (codes " *" ++ rest) (no_cell sizes.width sizes.height rest))

first_is_no_both : (sizes : LineSizes) (first : ℕ) (rest : List ℕ) → first < cells_of sizes → read_both sizes (pair sizes.width first ++ (codes " *" ++ rest)) ≡ Err Shape
unfolding read_both
first_is_no_both sizes first rest is =
    shape_of (cell_on sizes & cell_on sizes & up_to greatest_cost & last_amount greatest_label) (pair sizes.width first ++ (codes " *" ++ rest)) make_both
    (after_front (exact-cell sizes) (cell_on sizes & up_to greatest_cost & last_amount greatest_label) first (codes " *" ++ rest) is refl
    (not_front (cell_on sizes) (up_to greatest_cost & last_amount greatest_label) (codes " *" ++ rest) (no_cell sizes.width sizes.height rest)))

second_is_no_both : (sizes : LineSizes) (rest : List ℕ) → read_both sizes (codes " *" ++ rest) ≡ Err Shape
unfolding read_both
second_is_no_both sizes rest =
    shape_of (cell_on sizes & cell_on sizes & up_to greatest_cost & last_amount greatest_label) (codes " *" ++ rest) make_both
    (not_front (cell_on sizes) (cell_on sizes & up_to greatest_cost & last_amount greatest_label) (codes " *" ++ rest) (no_cell sizes.width sizes.height rest))

second_is_no_first : (sizes : LineSizes) (rest : List ℕ) → read_first_alone sizes (codes " *" ++ rest) ≡ Err Shape
unfolding read_first_alone
second_is_no_first sizes rest =
    shape_of (cell_on sizes & star & up_to greatest_cost & last_amount greatest_label) (codes " *" ++ rest) make_first_alone
    (not_front (cell_on sizes) (star & up_to greatest_cost & last_amount greatest_label) (codes " *" ++ rest) (no_cell sizes.width sizes.height rest))

joint_again : (sizes : LineSizes) (state : JointState) (tick : ℕ) (label : Label) → IsLaterLine sizes (lines.JointAt (record { state = state; tick = tick; label = label }))
    → (text : List ℕ) → joint_words sizes.width state tick label ≡ codes "at" ++ text → read_at sizes text ≡ Ok (lines.JointAt (record { state = state; tick = tick; label = label }))
unfolding read_at read_joint
joint_again sizes (states.Both first second) tick label is text same =
    let spelled = sym (cancel (codes "at") _ text same) in
    else_second (read_entry sizes text) _ _ (ap (read_entry sizes) spelled ∙ both_is_no_entry sizes first second (field 32 tick ++ amount_words label) is.0.0)
    (else_first (read_both sizes text) _ _ ((is_both sizes).again (first, (second, (tick, label))) is text same))
joint_again sizes (states.FirstAlone first) tick label is text same =
    let spelled = sym (cancel (codes "at") _ text same) in
    let rest = field 32 tick ++ amount_words label in
    else_second (read_entry sizes text) _ _ (ap (read_entry sizes) spelled ∙ first_is_no_entry sizes first rest is.0)
    (else_second (read_both sizes text) _ _ (ap (read_both sizes) spelled ∙ first_is_no_both sizes first rest is.0)
    (else_first (read_first_alone sizes text) _ _ ((is_first_alone sizes).again (first, (tt, (tick, label))) is text same)))
joint_again sizes (states.SecondAlone second) tick label is text same =
    let spelled = sym (cancel (codes "at") _ text same) in
    let rest = pair sizes.width second ++ (field 32 tick ++ amount_words label) in
    else_second (read_entry sizes text) _ _ (ap (read_entry sizes) spelled ∙ second_is_no_entry sizes rest)
    (else_second (read_both sizes text) _ _ (ap (read_both sizes) spelled ∙ second_is_no_both sizes rest)
    (else_second (read_first_alone sizes text) _ _ (ap (read_first_alone sizes) spelled ∙ second_is_no_first sizes rest)
    ((is_second_alone sizes).again (tt, (second, (tick, label))) is text same)))

entry_again : (sizes : LineSizes) (entry : Entry) → IsLaterLine sizes (lines.At entry) → (text : List ℕ) → words sizes.width (lines.At entry) ≡ codes "at" ++ text → read_at sizes text ≡ Ok (lines.At entry)
unfolding read_at
entry_again sizes entry is text same = else_first (read_entry sizes text) _ _ ((is_entry sizes).again (entry.cell, (entry.tick, entry.label)) is text same)

not_at_again : (sizes : LineSizes) (agent cell tick : ℕ) → IsLaterLine sizes (lines.Constraint (record { agent = agent; constraint = constraints.NotAt cell tick })) → (text : List ℕ)
    → codes "not" ++ (field 32 agent ++ (pair sizes.width cell ++ field 32 tick)) ≡ codes "not" ++ text → read_not sizes text ≡ Ok (lines.Constraint (record { agent = agent; constraint = constraints.NotAt cell tick }))
unfolding read_not
not_at_again sizes agent cell tick is text same = else_first (read_not_at sizes text) _ _ ((is_not_at sizes).again (agent, (cell, tick)) is text same)

not_move_again : (sizes : LineSizes) (agent from to tick : ℕ) → IsLaterLine sizes (lines.Constraint (record { agent = agent; constraint = constraints.NotMove from to tick })) → (text : List ℕ)
    → codes "not" ++ (field 32 agent ++ (pair sizes.width from ++ (pair sizes.width to ++ field 32 tick))) ≡ codes "not" ++ text → read_not sizes text ≡ Ok (lines.Constraint (record { agent = agent; constraint = constraints.NotMove from to tick }))
unfolding read_not
not_move_again sizes agent from to tick is text same =
    else_second (read_not_at sizes text) _ _ (ap (read_not_at sizes) (sym (cancel (codes "not") _ text same)) ∙ move_is_no_cell sizes agent from to (field 32 tick) is.0 is.1.0)
    ((is_not_move sizes).again (agent, (from, (to, tick))) is text same)

single_use_again : (sizes : LineSizes) (lemma : ℕ) → lemma ≤ most_listed → read_use (field 32 lemma) ≡ Ok (lines.Use lemma)
unfolding read_use
single_use_again sizes lemma is = else_first (read_single_use (field 32 lemma)) _ _ ((is_single_use sizes).again lemma is (field 32 lemma) refl)

weighted_use_again : (sizes : LineSizes) (used : Use) → IsLaterLine sizes (lines.WeightedUse used) → read_use (field 32 used.lemma ++ field 32 used.weight) ≡ Ok (lines.WeightedUse used)
unfolding read_use
weighted_use_again sizes used is =
    let text = field 32 used.lemma ++ field 32 used.weight in
    else_second (read_single_use text) _ _ (use_is_no_single used.lemma used.weight is.0) ((is_weighted_use sizes).again (used.lemma, used.weight) is text refl)

-- where a line stands among the kinds

in_label : (sizes : LineSizes) (bs : List ℕ) (line : LemmaLine) → read_label_line sizes bs ≡ Ok line → read_later sizes bs ≡ Ok line
unfolding read_later
in_label sizes bs line e = else_first (read_label_line sizes bs) _ line e

in_price : (sizes : LineSizes) (bs : List ℕ) (line : LemmaLine) → read_label_line sizes bs ≡ Err Shape → read_price_line sizes bs ≡ Ok line → read_later sizes bs ≡ Ok line
unfolding read_later
in_price sizes bs line a e = else_second (read_label_line sizes bs) _ line a (else_first (read_price_line sizes bs) _ line e)

in_constraint : (sizes : LineSizes) (bs : List ℕ) (line : LemmaLine) → read_label_line sizes bs ≡ Err Shape → read_price_line sizes bs ≡ Err Shape → read_constraint_line sizes bs ≡ Ok line → read_later sizes bs ≡ Ok line
unfolding read_later
in_constraint sizes bs line a b e = else_second (read_label_line sizes bs) _ line a (else_second (read_price_line sizes bs) _ line b (else_first (read_constraint_line sizes bs) _ line e))

in_leaf : (sizes : LineSizes) (bs : List ℕ) (line : LemmaLine) → read_label_line sizes bs ≡ Err Shape → read_price_line sizes bs ≡ Err Shape → read_constraint_line sizes bs ≡ Err Shape
    → read_leaf_line sizes bs ≡ Ok line → read_later sizes bs ≡ Ok line
unfolding read_later
in_leaf sizes bs line a b c e =
    else_second (read_label_line sizes bs) _ line a (else_second (read_price_line sizes bs) _ line b (else_second (read_constraint_line sizes bs) _ line c (else_first (read_leaf_line sizes bs) _ line e)))

in_split : (sizes : LineSizes) (bs : List ℕ) (line : LemmaLine) → read_label_line sizes bs ≡ Err Shape → read_price_line sizes bs ≡ Err Shape → read_constraint_line sizes bs ≡ Err Shape
    → read_leaf_line sizes bs ≡ Err Shape → read_split_line sizes bs ≡ Ok line → read_later sizes bs ≡ Ok line
unfolding read_later
in_split sizes bs line a b c d e =
    else_second (read_label_line sizes bs) _ line a (else_second (read_price_line sizes bs) _ line b (else_second (read_constraint_line sizes bs) _ line c
    (else_second (read_leaf_line sizes bs) _ line d (else_first (read_split_line sizes bs) _ line e))))

in_lemma : (sizes : LineSizes) (bs : List ℕ) (line : LemmaLine) → read_label_line sizes bs ≡ Err Shape → read_price_line sizes bs ≡ Err Shape → read_constraint_line sizes bs ≡ Err Shape
    → read_leaf_line sizes bs ≡ Err Shape → read_split_line sizes bs ≡ Err Shape → read_lemma_line sizes bs ≡ Ok line → read_later sizes bs ≡ Ok line
unfolding read_later
in_lemma sizes bs line a b c d g e =
    else_second (read_label_line sizes bs) _ line a (else_second (read_price_line sizes bs) _ line b (else_second (read_constraint_line sizes bs) _ line c
    (else_second (read_leaf_line sizes bs) _ line d (else_second (read_split_line sizes bs) _ line g (else_first (read_lemma_line sizes bs) _ line e)))))

end_again : (sizes : LineSizes) → read_later sizes (codes "end") ≡ Ok lines.End
unfolding read_later read_label_line read_price_line read_constraint_line read_leaf_line read_split_line read_lemma_line read_end
end_again sizes = refl

constraint_again : (sizes : LineSizes) (agent : ℕ) (constraint : PathConstraint) → IsLaterLine sizes (lines.Constraint (record { agent = agent; constraint = constraint }))
    → read_later sizes (constraint_words sizes.width agent constraint) ≡ Ok (lines.Constraint (record { agent = agent; constraint = constraint }))
unfolding read_label_line read_price_line read_constraint_line
constraint_again sizes agent (constraints.NotAt cell tick) is = in_constraint sizes _ _ refl refl (not_at_again sizes agent cell tick is _ refl)
constraint_again sizes agent (constraints.NotMove from to tick) is = in_constraint sizes _ _ refl refl (not_move_again sizes agent from to tick is _ refl)
constraint_again sizes agent (constraints.Clear cell tick) is = in_constraint sizes _ _ refl refl ((is_clear sizes).again (agent, (cell, tick)) is _ refl)
constraint_again sizes agent (constraints.Most ticks) is = in_constraint sizes _ _ refl refl ((is_most sizes).again (agent, ticks) is _ refl)
constraint_again sizes agent (constraints.Least ticks) is = in_constraint sizes _ _ refl refl ((is_least sizes).again (agent, ticks) is _ refl)

joint_later : (sizes : LineSizes) (state : JointState) (tick : ℕ) (label : Label) → IsLaterLine sizes (lines.JointAt (record { state = state; tick = tick; label = label }))
    → read_later sizes (joint_words sizes.width state tick label) ≡ Ok (lines.JointAt (record { state = state; tick = tick; label = label }))
unfolding read_label_line
joint_later sizes (states.Both first second) tick label is = in_label sizes _ _ (joint_again sizes (states.Both first second) tick label is _ refl)
joint_later sizes (states.FirstAlone first) tick label is = in_label sizes _ _ (joint_again sizes (states.FirstAlone first) tick label is _ refl)
joint_later sizes (states.SecondAlone second) tick label is = in_label sizes _ _ (joint_again sizes (states.SecondAlone second) tick label is _ refl)

-- a line after the first three is read from its words
later_again : (sizes : LineSizes) (line : LemmaLine) → IsLaterLine sizes line → read_later sizes (words sizes.width line) ≡ Ok line
unfolding read_label_line read_price_line read_constraint_line read_leaf_line read_split_line read_lemma_line
later_again sizes (lines.Prices n) is = in_price sizes _ _ refl ((is_prices sizes).again n is _ refl)
later_again sizes (lines.List unit count) is = in_price sizes _ _ refl ((is_list sizes).again (unit, count) is _ refl)
later_again sizes (lines.Price (prices.Cell cell tick amount)) is = in_price sizes _ _ refl (price_again sizes (prices.Cell cell tick amount) is _ refl)
later_again sizes (lines.Price (prices.Edge from to tick amount)) is = in_price sizes _ _ refl (price_again sizes (prices.Edge from to tick amount) is _ refl)
later_again sizes (lines.Lemmas n) is = in_lemma sizes _ _ refl refl refl refl refl ((is_lemmas sizes).again n is _ refl)
later_again sizes (lines.One agent count entries list_number) is = in_lemma sizes _ _ refl refl refl refl refl ((is_one sizes).again (agent, (count, (entries, list_number))) is _ refl)
later_again sizes (lines.Two first second count one other joint list_number) is =
    in_lemma sizes _ _ refl refl refl refl refl ((is_two sizes).again (first, (second, (count, (one, (other, (joint, list_number)))))) is _ refl)
later_again sizes (lines.Never first second count) is = in_lemma sizes _ _ refl refl refl refl refl ((is_never sizes).again (first, (second, count)) is _ refl)
later_again sizes (lines.Cases agents count bound) is = in_lemma sizes _ _ refl refl refl refl refl ((is_cases sizes).again (agents, (count, bound)) is _ refl)
later_again sizes (lines.Agent agent) is = in_lemma sizes _ _ refl refl refl refl refl ((is_agent sizes).again agent is _ refl)
later_again sizes (lines.Constraint c) is = constraint_again sizes c.agent c.constraint is
later_again sizes (lines.JointAt entry) is = joint_later sizes entry.state entry.tick entry.label is
later_again sizes (lines.At entry) is = in_label sizes _ _ (entry_again sizes entry is _ refl)
later_again sizes (lines.Cells cells) is = in_label sizes _ _ ((is_cells sizes).again (cells.first, cells.second) is _ refl)
later_again sizes (lines.Vertex i j cell tick) is = in_split sizes _ _ refl refl refl refl ((is_vertex sizes).again (i, (j, (cell, tick))) is _ refl)
later_again sizes (lines.Swap i j from to tick) is = in_split sizes _ _ refl refl refl refl ((is_swap sizes).again (i, (j, (from, (to, tick)))) is _ refl)
later_again sizes (lines.Cost i ticks) is = in_split sizes _ _ refl refl refl refl ((is_cost sizes).again (i, ticks) is _ refl)
later_again sizes (lines.Costs i ticks j least lemma) is = in_split sizes _ _ refl refl refl refl ((is_costs sizes).again (i, (ticks, (j, (least, lemma)))) is _ refl)
later_again sizes (lines.Clash i j) is = in_split sizes _ _ refl refl refl refl ((is_clash sizes).again (i, j) is _ refl)
later_again sizes (lines.Leaf uses groups list_number) is = in_leaf sizes _ _ refl refl refl ((is_leaf sizes).again (uses, (groups, list_number)) is _ refl)
later_again sizes (lines.Use lemma) is = in_leaf sizes _ _ refl refl refl (single_use_again sizes lemma is)
later_again sizes (lines.Group uses divisor) is = in_leaf sizes _ _ refl refl refl ((is_group sizes).again (uses, divisor) is _ refl)
later_again sizes (lines.WeightedUse used) is = in_leaf sizes _ _ refl refl refl (weighted_use_again sizes used is)
later_again sizes lines.End is = end_again sizes
later_again sizes _ is = absurd is

agents_again : (n : ℕ) → IsLine places.Agents (lines.Agents n) → read_agents (words 1 (lines.Agents n)) ≡ Ok (lines.Agents n)
unfolding read_agents read_count
agents_again n is = then_ok _ _ _ _ (back_again (exact-last (range-one_to 200 3 (omega arith) (omega arith) (omega arith))) n is) refl

claim_again : (claim : Claim) → IsLine places.Claim (lines.Claim claim) → read_claim (words 1 (lines.Claim claim)) ≡ Ok (lines.Claim claim)
unfolding read_claim read_cost read_bound
claim_again claims.Impossible is = refl
claim_again (claims.Cost cost) is = then_ok _ _ _ _ (back_again exact-sum cost is) refl
claim_again (claims.Bound bound) is = then_ok _ _ _ _ (back_again exact-sum bound is) refl

title_again : read_title (codes "mapf-cert 3") ≡ Ok lines.Title
unfolding read_title
title_again = refl

-- a line that may come is read from its words
pub line_again : (place : LinePlace) (line : LemmaLine) → IsLine place line → read_line place (words (width_of place) line) ≡ Ok line
line_again places.Title lines.Title is = title_again
line_again places.Title _ is = absurd is
line_again places.Agents (lines.Agents n) is = agents_again n is
line_again places.Agents _ is = absurd is
line_again places.Claim (lines.Claim claim) is = claim_again claim is
line_again places.Claim _ is = absurd is
line_again (places.Later sizes) line is = later_again sizes line is

-- no line has no bytes
pub nothing_read : (place : LinePlace) → read_line place [] ≡ Err Shape
unfolding read_title read_agents read_claim read_later read_label_line read_price_line read_constraint_line read_leaf_line read_split_line read_lemma_line read_end
nothing_read places.Title = refl
nothing_read places.Agents = refl
nothing_read places.Claim = refl
nothing_read (places.Later sizes) = refl
