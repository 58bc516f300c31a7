-- Parts of a line: what is read is spelled so, and what is spelled so is read.
use Rattle.std.proofs.Common.{◌≡◌, ℕ, ◌<◌, ◌≤◌, ◌^◌, ◌+◌, ◌/◌, ◌%◌, Bool, true, false, cond, List, ◌∷◌, ◌++◌, codes, Option, Some, None, Result, Ok, Err, refl, ap, subst, ◌∙◌, arith, append_assoc}
use Rattle.std.specs.Str.{bytes_eq}
use Rattle.std.specs.Char.{is_ascii_digit}
use Rattle.std.specs.Fmt.{decimal}
use Rattle.std.proofs.lemmas.Slice.Eq.{bytes_eq-Decides}
use Rattle.mapf_model.specs.declared.label.Label.{Label}
use Rattle.mapf_model.specs.declared.label.Label.TheVariants as labels
use Rattle.mapf_fields.specs.declared.fault.LineFault.{LineFault}
use Rattle.mapf_fields.specs.declared.fault.LineFault.TheVariants.{Shape}
use Rattle.mapf_fields.specs.Numbers.{◌>>=◌, field, pair, read_number, read_field, read_last, read_whole, read_pair, in_range, below, read_cell}
use Rattle.mapf_fields.proofs.Binds.{through, same_ok, then_ok}
use Rattle.mapf_fields.proofs.Strips.{front_takes}
use Rattle.mapf_fields.proofs.Fields.{IsPastDigits, number_again, field_takes, field_again, last_takes, last_again, pair_takes, pair_again, below_takes, below_again, range_takes, range_again, cell_takes, cell_again, row-below}
use Rattle.mapf_fields.proofs.Plain.{IsPlain, plain-append, plain-more, plain-word, plain-field, plain-pair}
use Rattle.mapf_certificate.proofs.LineLaws.{not_word}
use Rattle.mapf_lemma_texts.specs.declared.sizes.LineSizes.{LineSizes}
use Rattle.mapf_lemma_texts.specs.declared.parts.AmountWord.{AmountWord}
use Rattle.mapf_lemma_texts.specs.declared.parts.AmountWord.TheVariants as amounts
use Rattle.mapf_lemma_texts.specs.Ranges.{IsOneTo, IsAmountTo, IsListNumber}
use Rattle.mapf_lemma_texts.specs.Lines.{amount_words, list_words, cells_of}
use Rattle.mapf_lemma_texts.specs.LineParts.{Front, Back, ◌&◌, read_back, number, last_number, cell_part, last_cell, read_star, star, read_amount, judge_amount, last_amount, read_list_number, judge_list_number, last_list_number}

-- a part reads exactly the spellings of its values: what it is read as is spelled by the bytes, in its range, and from
-- its spelling it is read; the spelling has no digit first, no LF, and at most so many bytes
pub record IsExactFront {R A : Type 0} (front : Front R A) (text : A → List ℕ) (Is : A → Type 0) (room : ℕ) : Type 0 where
  pub takes : (bs : List ℕ) (p : R × List ℕ) (v : A) → front.read bs ≡ Ok p → front.judge p.0 ≡ Ok v → (bs ≡ text v ++ p.1) × Is v
  pub again : (v : A) (rest : List ℕ) → Is v → IsPastDigits rest → (raw : R) × (front.read (text v ++ rest) ≡ Ok (raw, rest)) × (front.judge raw ≡ Ok v)
  pub past : (v : A) (rest : List ℕ) → IsPastDigits (text v ++ rest)
  pub plain : (v : A) → Is v → IsPlain room (text v)

-- so do the last parts
pub record IsExactBack {R A : Type 0} (back : Back R A) (text : A → List ℕ) (Is : A → Type 0) (room : ℕ) : Type 0 where
  pub takes : (bs : List ℕ) (raw : R) (v : A) → back.read bs ≡ Ok raw → back.judge raw ≡ Ok v → (bs ≡ text v) × Is v
  pub again : (v : A) → Is v → (raw : R) × (back.read (text v) ≡ Ok raw) × (back.judge raw ≡ Ok v)
  pub past : (v : A) → IsPastDigits (text v)
  pub plain : (v : A) → Is v → IsPlain room (text v)

-- a part and the last parts
pub exact-& : {R A S B : Type 0} {front : Front R A} {back : Back S B} {t : A → List ℕ} {u : B → List ℕ} {Is : A → Type 0} {Js : B → Type 0} {j k : ℕ}
    → IsExactFront front t Is j → IsExactBack back u Js k → IsExactBack (front & back) (λ (v : A × B). t v.0 ++ u v.1) (λ v. Is v.0 × Js v.1) (j + k)
exact-& {R = R} {A = A} {S = S} {B = B} {front = front} {back = back} {t = t} {u = u} {Is = Is} {Js = Js} {j = j} {k = k} one other = record {
  takes = λ bs raw v read judged.
      through (front.read bs) _ raw read (λ p first more.
      through (back.read p.1) _ raw more (λ raws second made.
      let whole = same_ok (p.0, raws) raw made in
      through (front.judge raw.0) _ v judged (λ a judged1 more'.
      through (back.judge raw.1) _ v more' (λ b judged2 made'.
      let value = same_ok (a, b) v made' in
      let (text1, in1) = one.takes bs p a first (ap front.judge (ap (λ q. q.0) whole) ∙ judged1) in
      let (text2, in2) = other.takes p.1 raws b second (ap back.judge (ap (λ q. q.1) whole) ∙ judged2) in
      subst (λ (w : A × B). (bs ≡ t w.0 ++ u w.1) × (Is w.0 × Js w.1)) value (text1 ∙ ap (λ r. t a ++ r) text2, (in1, in2))))));
  again = λ v is.
      let (raw1, read1, judged1) = one.again v.0 (u v.1) is.0 (other.past v.1) in
      let (raw2, read2, judged2) = other.again v.1 is.1 in
      ((raw1, raw2), then_ok _ _ _ _ read1 (then_ok _ _ _ _ read2 refl), then_ok _ _ _ _ judged1 (then_ok _ _ _ _ judged2 refl));
  past = λ v. one.past v.0 (u v.1);
  plain = λ v is. plain-append j k (t v.0) (u v.1) (one.plain v.0 is.0) (other.plain v.1 is.1);
}

-- what a line with these last parts is read as
pub back_takes : {R A : Type 0} {back : Back R A} {text : A → List ℕ} {Is : A → Type 0} {room : ℕ} → IsExactBack back text Is room → (bs : List ℕ) (v : A) → read_back back bs ≡ Ok v → (bs ≡ text v) × Is v
back_takes {back = back} exact bs v e = through (back.read bs) back.judge v e (λ raw read judged. exact.takes bs raw v read judged)

pub back_again : {R A : Type 0} {back : Back R A} {text : A → List ℕ} {Is : A → Type 0} {room : ℕ} → IsExactBack back text Is room → (v : A) → Is v → read_back back (text v) ≡ Ok v
back_again {back = back} exact v is = let (raw, read, judged) = exact.again v is in then_ok _ _ _ _ read judged

-- numbers

-- the numbers in a range: they have at most so many digits
pub record IsRange (judge : Option ℕ → Result ℕ LineFault) (Is : ℕ → Type 0) (digits : ℕ) : Type 0 where
  pub takes : (v : Option ℕ) (n : ℕ) → judge v ≡ Ok n → (v ≡ Some n) × Is n
  pub again : (n : ℕ) → Is n → judge (Some n) ≡ Ok n
  pub small : (n : ℕ) → Is n → n < 10 ^ digits
  pub fits : (n : ℕ) → Is n → n < 2 ^ 64
  pub some : 0 < digits

pub range-below : (bound digits : ℕ) → bound ≤ 10 ^ digits → bound ≤ 2 ^ 64 → 0 < digits → IsRange (below bound) (λ n. n < bound) digits
range-below bound digits low fits some = record {
  takes = below_takes bound;
  again = below_again bound;
  small = λ n is. omega (arith, low);
  fits = λ n is. omega (arith, fits);
  some = some;
}

pub range-up_to : (most digits : ℕ) → most < 10 ^ digits → most < 2 ^ 64 → 0 < digits → IsRange (in_range 0 most) (λ n. n ≤ most) digits
range-up_to most digits low fits some = record {
  takes = λ v n e. let (is, above, under) = range_takes 0 most v n e in (is, under);
  again = λ n is. range_again 0 most n (omega arith) is;
  small = λ n is. omega (arith, low);
  fits = λ n is. omega (arith, fits);
  some = some;
}

pub range-one_to : (most digits : ℕ) → most < 10 ^ digits → most < 2 ^ 64 → 0 < digits → IsRange (in_range 1 most) (IsOneTo most) digits
range-one_to most digits low fits some = record {
  takes = λ v n e. let (is, above, under) = range_takes 1 most v n e in (is, (above, under));
  again = λ n is. range_again 1 most n is.0 is.1;
  small = λ n is. omega (arith, low, is.1);
  fits = λ n is. omega (arith, fits, is.1);
  some = some;
}

pub exact-number : {judge : Option ℕ → Result ℕ LineFault} {Is : ℕ → Type 0} {digits : ℕ} → IsRange judge Is digits → IsExactFront (number judge) (field 32) Is (digits + 1)
exact-number {judge = judge} {Is = Is} {digits = digits} range = record {
  takes = λ bs p n read judged.
      let (is, inside) = range.takes p.0 n judged in
      ((field_takes 32 bs p.1 n (read ∙ ap (λ v. Ok (v, p.1)) is)).0, inside);
  again = λ n rest is past. (Some n, field_again 32 n rest (range.fits n is) past, range.again n is);
  past = λ n rest. refl;
  plain = λ n is. plain-field 32 digits n refl range.some (range.small n is) (range.fits n is);
}

pub exact-last : {judge : Option ℕ → Result ℕ LineFault} {Is : ℕ → Type 0} {digits : ℕ} → IsRange judge Is digits → IsExactBack (last_number judge) (field 32) Is (digits + 1)
exact-last {judge = judge} {Is = Is} {digits = digits} range = record {
  takes = λ bs raw n read judged.
      let (is, inside) = range.takes raw n judged in
      ((last_takes 32 bs n (read ∙ ap Ok is)).0, inside);
  again = λ n is. (Some n, last_again 32 n (range.fits n is), range.again n is);
  past = λ n. refl;
  plain = λ n is. plain-field 32 digits n refl range.some (range.small n is) (range.fits n is);
}

-- cells

column_fits : (sizes : LineSizes) (cell : ℕ) → cell % sizes.width < 2 ^ 64
column_fits sizes cell = let some = sizes.narrow.0 in let few = sizes.narrow.1 in omega arith

row_fits : (sizes : LineSizes) (cell : ℕ) → cell < cells_of sizes → cell / sizes.width < 2 ^ 64
row_fits sizes cell inside = let row = row-below sizes.width sizes.height cell inside in omega (arith, sizes.low.1)

cell_judged : (sizes : LineSizes) (cell : ℕ) → cell < cells_of sizes → read_cell sizes.width sizes.height (Some (cell % sizes.width)) (Some (cell / sizes.width)) ≡ Ok cell
cell_judged sizes cell inside = cell_again sizes.width sizes.height cell (omega (arith, sizes.narrow.0)) inside

pub exact-cell : (sizes : LineSizes) → IsExactFront (cell_part sizes.width sizes.height) (pair sizes.width) (λ c. c < cells_of sizes) 10
exact-cell sizes = record {
  takes = λ bs p v read judged.
      through (read_pair bs) _ p read (λ q first made.
      let whole = same_ok ((q.0, q.1), q.2) p made in
      let (text, inside) = pair_takes bs q sizes.width sizes.height v first (ap (λ raw. read_cell sizes.width sizes.height raw.0 raw.1) (ap (λ r. r.0) whole) ∙ judged) in
      (text ∙ ap (λ r. pair sizes.width v ++ r) (ap (λ r. r.1) whole), inside));
  again = λ v rest is past. (
    (Some (v % sizes.width), Some (v / sizes.width)),
    then_ok _ _ _ _ (pair_again sizes.width v rest (column_fits sizes v) (row_fits sizes v is) past) refl,
    cell_judged sizes v is,
  );
  past = λ v rest. refl;
  plain = λ v is. plain-pair sizes.width sizes.height v sizes.narrow.0 sizes.narrow.1 sizes.low.1 is;
}

pub exact-last_cell : (sizes : LineSizes) → IsExactBack (last_cell sizes.width sizes.height) (pair sizes.width) (λ c. c < cells_of sizes) 10
exact-last_cell sizes = record {
  takes = λ bs raw v read judged.
      through (read_field 32 bs) _ raw read (λ x first more.
      through (read_last 44 x.1) _ raw more (λ y second made.
      let whole = same_ok (x.0, y) raw made in
      let (x-is, y-is, inside) = cell_takes sizes.width sizes.height raw.0 raw.1 v judged in
      let first' : read_field 32 bs ≡ Ok (Some (v % sizes.width), x.1) = first ∙ ap (λ w. Ok (w, x.1)) (ap (λ q. q.0) whole ∙ x-is) in
      let second' : read_last 44 x.1 ≡ Ok (Some (v / sizes.width)) = second ∙ ap Ok (ap (λ q. q.1) whole ∙ y-is) in
      ((field_takes 32 bs x.1 (v % sizes.width) first').0 ∙ ap (λ r. field 32 (v % sizes.width) ++ r) (last_takes 44 x.1 (v / sizes.width) second').0, inside)));
  again = λ v is. (
    (Some (v % sizes.width), Some (v / sizes.width)),
    then_ok _ _ _ _ (field_again 32 (v % sizes.width) (field 44 (v / sizes.width)) (column_fits sizes v) refl)
        (then_ok _ _ _ _ (last_again 44 (v / sizes.width) (row_fits sizes v is)) refl),
    cell_judged sizes v is,
  );
  past = λ v. refl;
  plain = λ v is. plain-pair sizes.width sizes.height v sizes.narrow.0 sizes.narrow.1 sizes.low.1 is;
}

-- words

pub exact-star : IsExactFront star (λ u. codes " *") (λ u. Unit {0}) 2
unfolding read_star
exact-star = record {
  takes = λ bs p v read judged.
      through (read_star bs) _ p read (λ rest first made.
      let whole = same_ok (tt, rest) p made in
      let P : List ℕ → Type 0 = λ b. b ≡ codes " *" ++ rest in
      let text : bs ≡ codes " *" ++ rest =
      front_takes P (codes " *") bs (λ r. Ok r) (Err Shape) rest (λ r same. ap (λ q. codes " *" ++ q) (same_ok r rest same)) (λ wrong. cc) first in
      (text ∙ ap (λ r. codes " *" ++ r) (ap (λ q. q.1) whole), tt));
  again = λ v rest is past. (tt, refl, refl);
  past = λ v rest. refl;
  plain = λ v is. plain-word (codes " *") 2 refl refl;
}

no_inf : (n : ℕ) → n < 2 ^ 64 → bytes_eq (field 32 n) (codes " inf") ≡ false
no_inf n fits = not_word (codes " inf") n fits (λ digits. let first : 18 < 10 = digits.0 in omega arith)

no_dash : (n : ℕ) → n < 2 ^ 64 → bytes_eq (field 32 n) (codes " -") ≡ false
no_dash n fits = not_word (codes " -") n fits (λ digits. let first = digits.0 in omega arith)

amount_takes : (most : ℕ) (bs : List ℕ) (word : AmountWord) (v : Label) → read_amount bs ≡ Ok word → judge_amount most word ≡ Ok v → (bs ≡ amount_words v) × IsAmountTo most v
unfolding read_amount
amount_takes most bs word v read judged = by (bytes_eq bs (codes " inf")) refl read
  where
    P : Label → Type 0
    P l = (bs ≡ amount_words l) × IsAmountTo most l

    by : (b : Bool) → bytes_eq bs (codes " inf") ≡ b → cond b (Ok amounts.Infinite) (read_last 32 bs >>= λ units. Ok (amounts.Units units)) ≡ Ok word → (bs ≡ amount_words v) × IsAmountTo most v
    by true t e =
        let made : ◌≡◌ {A = Result Label LineFault} (Ok labels.Never) (Ok v) = ap (judge_amount most) (same_ok amounts.Infinite word e) ∙ judged in
        subst P (same_ok labels.Never v made) ((bytes_eq-Decides bs (codes " inf")).0 t, tt)
    by false t e =
        through (read_last 32 bs) _ word e (λ units first made.
        let more : judge_amount most (amounts.Units units) ≡ Ok v = ap (judge_amount most) (same_ok (amounts.Units units) word made) ∙ judged in
        through (in_range 1 most units) _ v more (λ n ranged done.
        let (is, above, under) = range_takes 1 most units n ranged in
        subst P (same_ok (labels.Ticks n) v done) ((last_takes 32 bs n (first ∙ ap Ok is)).0, (above, under))))

amount_again : (most : ℕ) → most < 2 ^ 64 → (v : Label) → IsAmountTo most v → (raw : AmountWord) × (read_amount (amount_words v) ≡ Ok raw) × (judge_amount most raw ≡ Ok v)
unfolding read_amount
amount_again most fits labels.Never is = (amounts.Infinite, refl, refl)
amount_again most fits (labels.Ticks n) is =
    let small : n < 2 ^ 64 = omega (arith, is.1) in
    let read : (read_last 32 (field 32 n) >>= λ units. Ok (amounts.Units units)) ≡ Ok (amounts.Units (Some n)) = then_ok _ _ _ _ (last_again 32 n small) refl in (
      amounts.Units (Some n),
      ap (λ b. cond b (Ok amounts.Infinite) (read_last 32 (field 32 n) >>= λ units. Ok (amounts.Units units))) (no_inf n small) ∙ read,
      then_ok _ _ _ _ (range_again 1 most n is.0 is.1) refl,
    )

amount_past : (v : Label) → IsPastDigits (amount_words v)
amount_past labels.Never = refl
amount_past (labels.Ticks n) = refl

amount_plain : (most digits : ℕ) → most < 10 ^ digits → most < 2 ^ 64 → 3 ≤ digits → (v : Label) → IsAmountTo most v → IsPlain (digits + 1) (amount_words v)
amount_plain most digits low fits some labels.Never is = plain-more 4 (digits + 1) _ (omega arith) (plain-word (codes " inf") 4 refl refl)
amount_plain most digits low fits some (labels.Ticks n) is = plain-field 32 digits n refl (omega arith) (omega (arith, low, is.1)) (omega (arith, fits, is.1))

pub exact-amount : (most digits : ℕ) → most < 10 ^ digits → most < 2 ^ 64 → 3 ≤ digits → IsExactBack (last_amount most) amount_words (IsAmountTo most) (digits + 1)
exact-amount most digits low fits some = record {
  takes = amount_takes most;
  again = amount_again most fits;
  past = amount_past;
  plain = amount_plain most digits low fits some;
}

list_takes : (lists : ℕ) (bs : List ℕ) (word : Option (Option ℕ)) (v : Option ℕ) → read_list_number bs ≡ Ok word → judge_list_number lists word ≡ Ok v → (bs ≡ list_words v) × IsListNumber lists v
unfolding read_list_number
list_takes lists bs word v read judged = by (bytes_eq bs (codes " -")) refl read
  where
    P : Option ℕ → Type 0
    P l = (bs ≡ list_words l) × IsListNumber lists l

    by : (b : Bool) → bytes_eq bs (codes " -") ≡ b → cond b (Ok None) (read_last 32 bs >>= λ n. Ok (Some n)) ≡ Ok word → (bs ≡ list_words v) × IsListNumber lists v
    by true t e =
        let made : ◌≡◌ {A = Result (Option ℕ) LineFault} (Ok None) (Ok v) = ap (judge_list_number lists) (same_ok None word e) ∙ judged in
        subst P (same_ok None v made) ((bytes_eq-Decides bs (codes " -")).0 t, tt)
    by false t e =
        through (read_last 32 bs) _ word e (λ m first made.
        let more : judge_list_number lists (Some m) ≡ Ok v = ap (judge_list_number lists) (same_ok (Some m) word made) ∙ judged in
        through (below lists m) _ v more (λ n ranged done.
        let (is, under) = below_takes lists m n ranged in
        subst P (same_ok (Some n) v done) ((last_takes 32 bs n (first ∙ ap Ok is)).0, under)))

list_again : (lists : ℕ) → lists ≤ 2 ^ 64 → (v : Option ℕ) → IsListNumber lists v → (raw : Option (Option ℕ)) × (read_list_number (list_words v) ≡ Ok raw) × (judge_list_number lists raw ≡ Ok v)
unfolding read_list_number
list_again lists fits None is = (None, refl, refl)
list_again lists fits (Some n) is =
    let small : n < 2 ^ 64 = omega arith in
    let read : (read_last 32 (field 32 n) >>= λ m. Ok (Some m)) ≡ Ok (Some (Some n)) = then_ok _ _ _ _ (last_again 32 n small) refl in (
      Some (Some n),
      ap (λ b. cond b (Ok None) (read_last 32 (field 32 n) >>= λ m. Ok (Some m))) (no_dash n small) ∙ read,
      then_ok _ _ _ _ (below_again lists n is) refl,
    )

list_past : (v : Option ℕ) → IsPastDigits (list_words v)
list_past None = refl
list_past (Some n) = refl

list_plain : (lists : ℕ) → lists ≤ 9999999999 → (v : Option ℕ) → IsListNumber lists v → IsPlain 11 (list_words v)
list_plain lists few None is = plain-more 2 11 _ (omega arith) (plain-word (codes " -") 2 refl refl)
list_plain lists few (Some n) is = plain-field 32 10 n refl (omega arith) (omega arith) (omega arith)

pub exact-list : (sizes : LineSizes) → IsExactBack (last_list_number sizes.lists) list_words (IsListNumber sizes.lists) 11
exact-list sizes = record {
  takes = list_takes sizes.lists;
  again = list_again sizes.lists (omega (arith, sizes.listed));
  past = list_past;
  plain = list_plain sizes.lists sizes.listed;
}

-- where the parts have another shape

-- parts after this one have another shape
pub after_front : {R A S B : Type 0} {front : Front R A} {t : A → List ℕ} {Is : A → Type 0} {k : ℕ} → IsExactFront front t Is k → (back : Back S B) (v : A) (rest : List ℕ) → Is v → IsPastDigits rest
    → back.read rest ≡ Err Shape → (front & back).read (t v ++ rest) ≡ Err Shape
after_front exact back v rest is past wrong =
    let (raw, read, judged) = exact.again v rest is past in
    ap (λ r. r >>= λ p. back.read p.1 >>= λ raws. Ok (p.0, raws)) read ∙ ap (λ r. r >>= λ raws. Ok (raw, raws)) wrong

-- a cell where a number is expected
pub number_on_cell : {S B : Type 0} (sizes : LineSizes) (judge : Option ℕ → Result ℕ LineFault) (back : Back S B) (v : ℕ) (rest : List ℕ)
    → back.read (field 44 (v / sizes.width) ++ rest) ≡ Err Shape → (number judge & back).read (pair sizes.width v ++ rest) ≡ Err Shape
number_on_cell sizes judge back v rest wrong =
    let column = v % sizes.width in
    let row = field 44 (v / sizes.width) in
    let read : read_field 32 (pair sizes.width v ++ rest) ≡ Ok (Some column, row ++ rest) =
    ap (read_field 32) (append_assoc (field 32 column) row rest) ∙ field_again 32 column (row ++ rest) (column_fits sizes v) refl in
    ap (λ r. r >>= λ p. back.read p.1 >>= λ raws. Ok (p.0, raws)) read ∙ ap (λ r. r >>= λ raws. Ok (Some column, raws)) wrong

-- a number that others follow, where the last is expected
pub last_on_more : (n b : ℕ) (rest : List ℕ) → n < 2 ^ 64 → is_ascii_digit b ≡ false → read_last 32 (field 32 n ++ (b ∷ rest)) ≡ Err Shape
unfolding read_last read_whole
last_on_more n b rest fits other = let read = number_again n (b ∷ rest) fits other in rw read refl

-- a cell where the last number is expected
pub last_on_cell : (sizes : LineSizes) (v : ℕ) (rest : List ℕ) → read_last 32 (pair sizes.width v ++ rest) ≡ Err Shape
last_on_cell sizes v rest =
    ap (read_last 32) (append_assoc (field 32 (v % sizes.width)) (field 44 (v / sizes.width)) rest)
    ∙ last_on_more (v % sizes.width) 44 (decimal (v / sizes.width) ++ rest) (column_fits sizes v) refl

pub no_amount : (bs : List ℕ) → read_amount (44 ∷ bs) ≡ Err Shape
unfolding read_amount read_last
no_amount bs = refl

pub no_number : (bs : List ℕ) → read_field 32 (32 ∷ (42 ∷ bs)) ≡ Err Shape
unfolding read_field read_number
no_number bs = refl

pub no_last : (bs : List ℕ) → read_last 32 (44 ∷ bs) ≡ Err Shape
unfolding read_last
no_last bs = refl

-- the first part has another shape
pub not_front : {R A S B : Type 0} (front : Front R A) (back : Back S B) (bs : List ℕ) → front.read bs ≡ Err Shape → (front & back).read bs ≡ Err Shape
not_front front back bs wrong = ap (λ r. r >>= λ p. back.read p.1 >>= λ raws. Ok (p.0, raws)) wrong

no_pair : (bs : List ℕ) → read_pair (32 ∷ (42 ∷ bs)) ≡ Err Shape
unfolding read_pair
no_pair bs = ap (λ r. r >>= λ x. read_field 44 x.1 >>= λ y. Ok (x.0, y.0, y.1)) (no_number bs)

-- a star where a cell is expected
pub no_cell : (width height : ℕ) (bs : List ℕ) → (cell_part width height).read (32 ∷ (42 ∷ bs)) ≡ Err Shape
no_cell width height bs = ap (λ r. r >>= λ p. Ok ((p.0, p.1), p.2)) (no_pair bs)
