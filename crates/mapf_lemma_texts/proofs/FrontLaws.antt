-- The line of a label that is read in one pass.
use Rattle.std.proofs.Common.{◌≡◌, ◌≤◌, ◌<◌, ◌+◌, ◌-◌, ℕ, List, [], ◌∷◌, ◌++◌, codes, length, Option, Result, Ok, Err, sym, ap, subst, ◌∙◌, arith, append_assoc, length-append, ◌==◌}
use Rattle.std.proofs.lemmas.Bool.{eqb-true}
use Rattle.mapf_model.specs.declared.label.Label.{Label}
use Rattle.mapf_model.specs.declared.label.Label.TheVariants as labels
use Rattle.mapf_lemmas.specs.declared.joint.JointState.TheVariants as states
use Rattle.mapf_fields.specs.declared.fault.LineFault.{LineFault}
use Rattle.mapf_fields.specs.declared.fault.LineFault.TheVariants.{Shape}
use Rattle.mapf_fields.specs.Numbers.{◌>>=◌, field, pair, read_field, read_pair, in_range, read_cell}
use Rattle.mapf_fields.proofs.Binds.{guarded, through, same_ok}
use Rattle.mapf_fields.proofs.Fields.{field_range, pair_takes}
use Rattle.mapf_fields.proofs.Strips.{front_takes}
use Rattle.mapf_certificate.specs.EntryReading.{BeginsWithText, read_line_end}
use Rattle.mapf_certificate.proofs.EntryFronts.{begins_with}
use Rattle.mapf_lemma_texts.specs.declared.line.LemmaLine.{LemmaLine}
use Rattle.mapf_lemma_texts.specs.declared.line.LemmaLine.TheVariants as lines
use Rattle.mapf_lemma_texts.specs.declared.parts.AmountWord.{AmountWord}
use Rattle.mapf_lemma_texts.specs.declared.parts.AmountWord.TheVariants as amounts
use Rattle.mapf_lemma_texts.specs.declared.sizes.LineSizes.{LineSizes}
use Rattle.mapf_lemma_texts.specs.declared.sizes.LinePlace.TheVariants as places
use Rattle.mapf_lemma_texts.specs.Ranges.{IsAmountTo}
use Rattle.mapf_lemma_texts.specs.Lines.{words, line_text, amount_words, IsLaterLine}
use Rattle.mapf_lemma_texts.specs.LineParts.{judge_amount}
use Rattle.mapf_lemma_texts.specs.FrontReading.{read_amount_front, read_label_end, read_entry_front, read_both_front, or_other, read_label_front}
use Rattle.mapf_lemma_texts.proofs.PlainLines.{some_words}

end_takes : (bs after : List ℕ) → read_line_end bs ≡ Ok after → bs ≡ 10 ∷ after
unfolding read_line_end
end_takes [] after e = cc
end_takes (b ∷ bs) after e =
    let (same, more) = guarded (b == 10) Shape (Ok bs) after e in
    ap (λ c. c ∷ bs) (eqb-true b 10 same) ∙ ap (λ r. 10 ∷ r) (same_ok bs after more)

-- an amount in range, and what follows it
amount_front_takes : (most : ℕ) (bs : List ℕ) (p : AmountWord × List ℕ) (label : Label) → read_amount_front bs ≡ Ok p → judge_amount most p.0 ≡ Ok label → (bs ≡ amount_words label ++ p.1) × IsAmountTo most label
unfolding read_amount_front
amount_front_takes most bs p label e judged =
    front_takes (λ b. (b ≡ amount_words label ++ p.1) × IsAmountTo most label) (codes " inf") bs _ _ p
    (λ rest made.
    let whole = same_ok (amounts.Infinite, rest) p made in
    let is : ◌≡◌ {A = Result Label LineFault} (Ok labels.Never) (Ok label) = ap (λ q. judge_amount most q.0) whole ∙ judged in
    subst (λ (l : Label). (codes " inf" ++ rest ≡ amount_words l ++ p.1) × IsAmountTo most l) (same_ok labels.Never label is) (ap (λ q. codes " inf" ++ q.1) whole, tt))
    (λ more. through (read_field 32 bs) _ p more (λ units read made.
    let whole = same_ok (amounts.Units units.0, units.1) p made in
    let is : (in_range 1 most units.0 >>= λ n. Ok (labels.Ticks n)) ≡ Ok label = ap (λ q. judge_amount most q.0) whole ∙ judged in
    through (in_range 1 most units.0) _ label is (λ n ranged done.
    let (text, above, under) = field_range 32 1 most bs units n read ranged in
    subst (λ (l : Label). (bs ≡ amount_words l ++ p.1) × IsAmountTo most l) (same_ok (labels.Ticks n) label done) (text ∙ ap (λ q. field 32 n ++ q.1) whole, (above, under))))) e

-- a tick and a label in range, the LF, and what follows it
label_end_takes : (bs : List ℕ) (p : Option ℕ × AmountWord × List ℕ) (tick : ℕ) (label : Label) → read_label_end bs ≡ Ok p → in_range 0 9999999 p.0 ≡ Ok tick → judge_amount 9999999999 p.1 ≡ Ok label
    → (bs ≡ field 32 tick ++ (amount_words label ++ (10 ∷ p.2))) × (tick ≤ 9999999) × IsAmountTo 9999999999 label
unfolding read_label_end
label_end_takes bs p tick label e ticked judged =
    through (read_field 32 bs) _ p e (λ at read1 more1.
    through (read_amount_front at.1) _ p more1 (λ word read2 more2.
    through (read_line_end word.1) _ p more2 (λ rest read3 made.
    let whole = same_ok (at.0, word.0, rest) p made in
    let (text1, low, in1) = field_range 32 0 9999999 bs at tick read1 (ap (λ q. in_range 0 9999999 q.0) whole ∙ ticked) in
    let (text2, in2) = amount_front_takes 9999999999 at.1 word label read2 (ap (λ q. judge_amount 9999999999 q.1) whole ∙ judged) in
    let text3 = end_takes word.1 rest read3 ∙ ap (λ q. 10 ∷ q.2) whole in
    (text1 ∙ ap (λ r. field 32 tick ++ r) (text2 ∙ ap (λ r. amount_words label ++ r) text3), in1, in2))))

-- bytes begin with the line of a label in range, and this follows
abbrev Fronts : LineSizes → List ℕ → LemmaLine × List ℕ → Type 0
Fronts sizes bs p = IsLaterLine sizes p.0 × (bs ≡ line_text sizes.width p.0 ++ p.1)

-- what follows the LF of a line, whose words are these parts
ends_line : (a b rest : List ℕ) → a ++ (b ++ (10 ∷ rest)) ≡ (a ++ b) ++ (10 ∷ rest)
ends_line a b rest = sym (append_assoc a b (10 ∷ rest))

-- the words of a line in three parts
three_parts : (a b c rest : List ℕ) → a ++ (b ++ (c ++ (10 ∷ rest))) ≡ (a ++ (b ++ c)) ++ (10 ∷ rest)
three_parts a b c rest = ap (λ r. a ++ r) (ends_line b c rest) ∙ ends_line a (b ++ c) rest

four_parts : (a b c d rest : List ℕ) → a ++ (b ++ (c ++ (d ++ (10 ∷ rest)))) ≡ (a ++ (b ++ (c ++ d))) ++ (10 ∷ rest)
four_parts a b c d rest = ap (λ r. a ++ r) (three_parts b c d rest) ∙ ends_line a (b ++ (c ++ d)) rest

five_parts : (a b c d e rest : List ℕ) → a ++ (b ++ (c ++ (d ++ (e ++ (10 ∷ rest))))) ≡ (a ++ (b ++ (c ++ (d ++ e)))) ++ (10 ∷ rest)
five_parts a b c d e rest = ap (λ r. a ++ r) (four_parts b c d e rest) ∙ ends_line a (b ++ (c ++ (d ++ e))) rest

entry_front_takes : (sizes : LineSizes) (bs : List ℕ) (p : LemmaLine × List ℕ) → read_entry_front sizes bs ≡ Ok p → Fronts sizes (codes "at" ++ bs) p
unfolding read_entry_front
entry_front_takes sizes bs p e =
    through (read_pair bs) _ p e (λ at read1 more1.
    through (read_label_end at.2) _ p more1 (λ end read2 more2.
    through (read_cell sizes.width sizes.height at.0 at.1) _ p more2 (λ cell is1 more3.
    through (in_range 0 9999999 end.0) _ p more3 (λ tick is2 more4.
    through (judge_amount 9999999999 end.1) _ p more4 (λ label is3 made.
    let (text1, in1) = pair_takes bs at sizes.width sizes.height cell read1 is1 in
    let (text2, in2, in3) = label_end_takes at.2 end tick label read2 is2 is3 in
    let line : LemmaLine = lines.At (record { cell = cell; tick = tick; label = label }) in
    let c = pair sizes.width cell in
    let t = field 32 tick in
    let l = amount_words label in
    let text : codes "at" ++ bs ≡ line_text sizes.width line ++ end.2 =
    ap (λ r. codes "at" ++ r) (text1 ∙ ap (λ r. c ++ r) text2) ∙ four_parts (codes "at") c t l end.2 ∙ sym (append_assoc (words sizes.width line) (10 ∷ []) end.2) in
    subst (Fronts sizes (codes "at" ++ bs)) (same_ok (line, end.2) p made) ((in1, in2, in3), text))))))

both_front_takes : (sizes : LineSizes) (bs : List ℕ) (p : LemmaLine × List ℕ) → read_both_front sizes bs ≡ Ok p → Fronts sizes (codes "at" ++ bs) p
unfolding read_both_front
both_front_takes sizes bs p e =
    through (read_pair bs) _ p e (λ one read1 more1.
    through (read_pair one.2) _ p more1 (λ other read2 more2.
    through (read_label_end other.2) _ p more2 (λ end read3 more3.
    through (read_cell sizes.width sizes.height one.0 one.1) _ p more3 (λ first is1 more4.
    through (read_cell sizes.width sizes.height other.0 other.1) _ p more4 (λ second is2 more5.
    through (in_range 0 9999999 end.0) _ p more5 (λ tick is3 more6.
    through (judge_amount 9999999999 end.1) _ p more6 (λ label is4 made.
    let (text1, in1) = pair_takes bs one sizes.width sizes.height first read1 is1 in
    let (text2, in2) = pair_takes one.2 other sizes.width sizes.height second read2 is2 in
    let (text3, in3, in4) = label_end_takes other.2 end tick label read3 is3 is4 in
    let line : LemmaLine = lines.JointAt (record { state = states.Both first second; tick = tick; label = label }) in
    let u = pair sizes.width first in
    let v = pair sizes.width second in
    let t = field 32 tick in
    let l = amount_words label in
    let text : codes "at" ++ bs ≡ line_text sizes.width line ++ end.2 =
    ap (λ r. codes "at" ++ r) (text1 ∙ ap (λ r. u ++ r) (text2 ∙ ap (λ r. v ++ r) text3)) ∙ five_parts (codes "at") u v t l end.2 ∙ sym (append_assoc (words sizes.width line) (10 ∷ []) end.2) in
    subst (Fronts sizes (codes "at" ++ bs)) (same_ok (line, end.2) p made) (((in1, in2), in3, in4), text))))))))

either_takes : {A : Type 0} (P : Type 0) (read other : Result A LineFault) (x : A) → (read ≡ Ok x → P) → (other ≡ Ok x → P) → or_other read other ≡ Ok x → P
either_takes P (Ok y) other x first second e = first e
either_takes P (Err fault) other x first second e = second e

-- what is read in one pass is a line of a label in range, and what follows it
label_front_takes : (sizes : LineSizes) (bs : List ℕ) (p : LemmaLine × List ℕ) → read_label_front sizes bs ≡ Ok p → Fronts sizes bs p
unfolding read_label_front
label_front_takes sizes bs p e =
    front_takes (λ b. Fronts sizes b p) (codes "at") bs _ _ p
    (λ rest. either_takes _ (read_entry_front sizes rest) (read_both_front sizes rest) p (entry_front_takes sizes rest p) (both_front_takes sizes rest p))
    (λ wrong. cc) e

-- it may come there
pub label_is : (sizes : LineSizes) (bs rest : List ℕ) (line : LemmaLine) → read_label_front sizes bs ≡ Ok (line, rest) → IsLaterLine sizes line
label_is sizes bs rest line e = (label_front_takes sizes bs (line, rest) e).0

-- the bytes begin with its text
pub label_begins : (sizes : LineSizes) (bs rest : List ℕ) (line : LemmaLine) → read_label_front sizes bs ≡ Ok (line, rest) → BeginsWithText bs (line_text sizes.width line) (length bs - length rest)
label_begins sizes bs rest line e = begins_with bs (line_text sizes.width line) rest (label_front_takes sizes bs (line, rest) e).1

-- what follows it is shorter than the whole by two bytes at least
pub label_long : (sizes : LineSizes) (bs rest : List ℕ) (line : LemmaLine) → read_label_front sizes bs ≡ Ok (line, rest) → length rest + 2 ≤ length bs
label_long sizes bs rest line e =
    let (is, text) = label_front_takes sizes bs (line, rest) e in
    let some : 0 < length (words sizes.width line) = some_words (places.Later sizes) line is in
    omega (arith, ap length text, length-append (line_text sizes.width line) rest, length-append (words sizes.width line) (10 ∷ []), some)
