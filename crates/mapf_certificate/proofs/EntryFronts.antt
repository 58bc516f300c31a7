-- An entry's line that is read in one pass, and what is taken with it.
use Rattle.std.proofs.Common.{◌≡◌, ◌≤◌, ◌+◌, ◌-◌, ℕ, List, [], ◌∷◌, ◌++◌, codes, length, drop, Option, Ok, refl, sym, ap, subst, ◌∙◌, arith, append_assoc, length-append, length-drop, ◌==◌}
use Rattle.std.proofs.KnownBytes.{Consumes-nil}
use Rattle.std.proofs.Math.Seq.{drop-append_seam}
use Rattle.std.proofs.lemmas.Bool.{eqb-true}
use Rattle.std.proofs.lemmas.List.{append-nil, append_cancel_left}
use Rattle.mapf_model.specs.declared.label.Entry.{Entry}
use Rattle.mapf_model.specs.declared.label.Label.{Label}
use Rattle.mapf_model.specs.declared.label.Label.TheVariants as labels
use Rattle.mapf_model.specs.Printed.{IsLabelInRange}
use Rattle.mapf_fields.specs.Numbers.{field, pair, read_field, read_pair, in_range, read_cell}
use Rattle.mapf_fields.specs.declared.fault.LineFault.TheVariants.{Shape}
use Rattle.mapf_fields.proofs.Binds.{guarded, through, same_ok}
use Rattle.mapf_fields.proofs.Fields.{field_range, pair_takes}
use Rattle.mapf_fields.proofs.Strips.{front_takes}
use Rattle.mapf_certificate.specs.declared.sizes.Sizes.{Sizes}
use Rattle.mapf_certificate.specs.Bounded.{IsEntryFor}
use Rattle.mapf_certificate.specs.Buffered.{Buffered, spare}
use Rattle.mapf_certificate.specs.Certificates.{entry_text}
use Rattle.mapf_certificate.specs.EntryReading.{BeginsWithText, read_label_front, read_line_end, read_entry_parts, read_entry_front}
use Rattle.mapf_certificate.specs.Lines.{label_words}
use Rattle.mapf_certificate.specs.Untouched.{TakesThere}
use Rattle.mapf_certificate.specs.Window.{ComesWithin, Window}

-- the parts of an entry's line, one after the other
entry_joins : (width : ℕ) (entry : Entry) (bs r1 r2 r3 r4 after : List ℕ) → bs ≡ codes "at" ++ r1 → r1 ≡ pair width entry.cell ++ r2 → r2 ≡ field 32 entry.tick ++ r3 → r3 ≡ label_words entry.label ++ r4 → r4 ≡ 10 ∷ after → bs ≡ entry_text width entry ++ after
entry_joins width entry bs r1 r2 r3 r4 after front cell tick label end =
    let a = codes "at" in
    let p = pair width entry.cell in
    let f = field 32 entry.tick in
    let l = label_words entry.label in
    let y = 10 ∷ after in
    let apart : bs ≡ a ++ (p ++ (f ++ (l ++ y))) = front ∙ ap (λ r. a ++ r) (cell ∙ ap (λ r. p ++ r) (tick ∙ ap (λ r. f ++ r) (label ∙ ap (λ r. l ++ r) end))) in
    let inner : p ++ (f ++ (l ++ y)) ≡ (p ++ (f ++ l)) ++ y = ap (λ r. p ++ r) (sym (append_assoc f l y)) ∙ sym (append_assoc p (f ++ l) y) in
    let whole : a ++ ((p ++ (f ++ l)) ++ y) ≡ (a ++ (p ++ (f ++ l))) ++ y = sym (append_assoc a (p ++ (f ++ l)) y) in
    apart ∙ ap (λ r. a ++ r) inner ∙ whole ∙ sym (append_assoc (a ++ (p ++ (f ++ l))) (10 ∷ []) after)

end_takes : (bs after : List ℕ) → read_line_end bs ≡ Ok after → bs ≡ 10 ∷ after
unfolding read_line_end
end_takes [] after e = cc
end_takes (b ∷ bs) after e =
    let (same, more) = guarded (b == 10) Shape (Ok bs) after e in
    ap (λ c. c ∷ bs) (eqb-true b 10 same) ∙ ap (λ r. 10 ∷ r) (same_ok bs after more)

label_front_takes : (bs : List ℕ) (p : Label × List ℕ) → read_label_front bs ≡ Ok p → (bs ≡ label_words p.0 ++ p.1) × IsLabelInRange p.0
unfolding read_label_front
label_front_takes bs p e =
    front_takes (λ b. Fronts b p) (codes " inf") bs _ _ p
    (λ rest made. subst (Fronts (codes " inf" ++ rest)) (same_ok (labels.Never, rest) p made) (refl, tt))
    (λ more. through (read_field 32 bs) _ p more (λ ticks read made.
    through (in_range 1 9999999 ticks.0) _ p made (λ n is done.
    let (text, above, under) = field_range 32 1 9999999 bs ticks n read is in
    subst (Fronts bs) (same_ok (labels.Ticks n, ticks.1) p done) (text, (above, under))))) e
  where
    Fronts : List ℕ → Label × List ℕ → Type 0
    Fronts b q = (b ≡ label_words q.0 ++ q.1) × IsLabelInRange q.0

-- bytes begin with the line of an entry in range, and this follows
abbrev Fronts : Sizes → List ℕ → Entry × List ℕ → Type 0
Fronts sizes bs p = IsEntryFor sizes p.0 × (bs ≡ entry_text sizes.width p.0 ++ p.1)

parts_take : (sizes : Sizes) (bs : List ℕ) (p : Entry × List ℕ) → read_entry_parts sizes bs ≡ Ok p → Fronts sizes (codes "at" ++ bs) p
unfolding read_entry_parts
parts_take sizes bs p e =
    through (read_pair bs) _ p e (λ at read1 more1.
    through (read_field 32 at.2) _ p more1 (λ tick read2 more2.
    through (read_label_front tick.1) _ p more2 (λ label read3 more3.
    through (read_line_end label.1) _ p more3 (λ rest read4 more4.
    through (read_cell sizes.width sizes.height at.0 at.1) _ p more4 (λ cell is1 more5.
    through (in_range 0 9999999 tick.0) _ p more5 (λ ticks is2 made.
    let (text1, in1) = pair_takes bs at sizes.width sizes.height cell read1 is1 in
    let (text2, low, in2) = field_range 32 0 9999999 at.2 tick ticks read2 is2 in
    let (text3, in3) = label_front_takes tick.1 label read3 in
    let text4 = end_takes label.1 rest read4 in
    let entry : Entry = record { cell = cell; tick = ticks; label = label.0 } in
    let whole = entry_joins sizes.width entry (codes "at" ++ bs) bs at.2 tick.1 label.1 rest refl text1 text2 text3 text4 in
    subst (Fronts sizes (codes "at" ++ bs)) (same_ok (entry, rest) p made) ((in1, in2, in3), whole)))))))

front_takes_entry : (sizes : Sizes) (bs : List ℕ) (p : Entry × List ℕ) → read_entry_front sizes bs ≡ Ok p → Fronts sizes bs p
unfolding read_entry_front
front_takes_entry sizes bs p e = front_takes (λ b. Fronts sizes b p) (codes "at") bs (read_entry_parts sizes) _ p (λ rest. parts_take sizes rest p) (λ wrong. cc) e

-- a text that bytes begin with is as long as what follows it is shorter than all
pub begins_with : (bs t r : List ℕ) → bs ≡ t ++ r → BeginsWithText bs t (length bs - length r)
begins_with bs t r e =
    let long : length bs ≡ length t + length r = ap length e ∙ length-append t r in
    let same : length bs - length r ≡ length t = omega arith in
    let rest : drop (length bs - length r) bs ≡ r = ap (λ n. drop n bs) same ∙ ap (drop (length t)) e ∙ drop-append_seam t r in
    record { within = omega arith; same = e ∙ ap (λ x. t ++ x) (sym rest) }

-- what is read in one pass is an entry whose text the bytes begin with
pub entry_begins : (sizes : Sizes) (bs rest : List ℕ) (entry : Entry) → read_entry_front sizes bs ≡ Ok (entry, rest) → IsEntryFor sizes entry × BeginsWithText bs (entry_text sizes.width entry) (length bs - length rest)
entry_begins sizes bs rest entry e =
    let (ranged, text) = front_takes_entry sizes bs (entry, rest) e in
    (ranged, begins_with bs (entry_text sizes.width entry) rest text)

-- what follows an entry's line isn't longer than the whole
pub front_shorter : (sizes : Sizes) (bs rest : List ℕ) (entry : Entry) → read_entry_front sizes bs ≡ Ok (entry, rest) → length rest ≤ length bs
front_shorter sizes bs rest entry e =
    let (ranged, text) = front_takes_entry sizes bs (entry, rest) e in
    omega (arith, ap length text, length-append (entry_text sizes.width entry) rest)

-- nothing was pulled
pub nothing_came : (had : Option (List ℕ)) (buffer : Buffered) → ComesWithin had had buffer
nothing_came had buffer = record { pulled = []; source = Consumes-nil had; within = omega arith }

-- what was in the buffer is taken from it, and nothing is pulled
pub there_window : (had : Option (List ℕ)) (old new : Buffered) (text : List ℕ) (n : ℕ) → BeginsWithText old.bytes text n → new ≡ record { bytes = drop n old.bytes; left = old.left } → Window had had old new text
there_window had old new text n begins is =
    let bytes : new.bytes ≡ drop n old.bytes = ap (λ b. b.bytes) is in
    let left : new.left ≡ old.left = ap (λ b. b.left) is in
    record {
      pulled = [];
      source = Consumes-nil had;
      same = append-nil old.bytes ∙ begins.same ∙ ap (λ x. text ++ x) (sym bytes);
      within = omega arith;
    }

pub there_taken : {S : Type 0} (s : S) (old new : Buffered) (text : List ℕ) (n : ℕ) → BeginsWithText old.bytes text n → new ≡ record { bytes = drop n old.bytes; left = old.left } → TakesThere s s old new text
there_taken s old new text n begins is = λ rest e.
    let after : drop n old.bytes ≡ rest = append_cancel_left text _ _ (sym begins.same ∙ e) in
    (refl, is ∙ ap (λ r. let b : Buffered = record { bytes = r; left = old.left } in b) after)

pub there_spare : (old new : Buffered) (n : ℕ) → new ≡ record { bytes = drop n old.bytes; left = old.left } → spare new ≤ spare old
there_spare old new n is =
    let same : spare new ≡ length (drop n old.bytes) + old.left = ap spare is in
    omega (arith, same, length-drop n old.bytes)
