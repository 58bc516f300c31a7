-- What the answers of a reader of parts say of the bytes that its source gave.
use Rattle.std.proofs.Common.{◌≡◌, ℕ, Bool, false, List, [], ◌∷◌, ◌++◌, Option, Some, Result, IfErr, refl, sym, ap, subst, ◌∙◌, arith}
use Rattle.std.proofs.lemmas.List.{append-nil}
use Rattle.std.proofs.lemmas.Option.{same_Some}
use Rattle.std.specs.Io.KnownBytes.{IsAtEnd}
use Rattle.mapf_certificate.specs.declared.cert.LinesFault.{LinesFault}
use Rattle.mapf_certificate.specs.Buffered.{Buffered}
use Rattle.mapf_certificate.specs.Window.{Window, Fails, IsTextFault, IsNoTextFault}
use Rattle.mapf_certificate.proofs.Windows.{Window-known, Window-trans, Fails-after, Fails-weaker, Fails-not, Fails-text, Refuses-taken}
use Rattle.mapf_lemma_texts.specs.declared.due.Due.{Due}
use Rattle.mapf_lemma_texts.specs.declared.due.Due.TheVariants as dues
use Rattle.mapf_lemma_texts.specs.declared.line.LemmaLine.{LemmaLine}
use Rattle.mapf_lemma_texts.specs.declared.line.LemmaLine.TheVariants as lines
use Rattle.mapf_lemma_texts.specs.declared.part.Part.{Part}
use Rattle.mapf_lemma_texts.specs.declared.sizes.LineSizes.{LineSizes}
use Rattle.mapf_lemma_texts.specs.Due.{Admits, due_after, lists_after}
use Rattle.mapf_lemma_texts.specs.Lines.{IsLaterLine, line_text}
use Rattle.mapf_lemma_texts.specs.PartReading.{AreSizesAfter, AwaitsParts, CompletesPart, FollowsFirst, IsRest, IsRestAt, PartReading, ReadsEnd, ReadsPart}
use Rattle.mapf_lemma_texts.specs.Parts.{IsPart, first_line, more_text, part_text}
use Rattle.mapf_lemma_texts.proofs.ListLaws.{BeginsWithLater, same_later}
use Rattle.mapf_lemma_texts.proofs.PartsApart.{part_cut, parts_apart}
use Rattle.mapf_lemma_texts.proofs.SizesLaws.{same_sizes}
use Rattle.mapf_model.specs.declared.item.Claim.{Claim}

-- of a header that is known, the sizes
pub sizes_same : (o : Option (LineSizes × Claim)) (a b : LineSizes) (c d : Claim) → o ≡ Some (a, c) → o ≡ Some (b, d) → a ≡ b
sizes_same o a b c d p q = ap (λ h. h.0) (same_Some {A = LineSizes × Claim} (a, c) (b, d) (sym p ∙ q))

-- if the end isn't due, the rest begins with a part
record StartsRest (sizes : LineSizes) (due : Due) (ps : List Part) (t : List ℕ) : Type 0 where
  part : Part
  others : List Part
  same : ps ≡ part ∷ others
  is : IsPart sizes part
  place : Admits due (first_line part)
  later : LineSizes
  sizes_after : AreSizesAfter sizes part later
  after : List ℕ
  spelled : t ≡ part_text sizes.width part ++ after
  rest : IsRest later (due_after due part) others after

rest_starts : (sizes : LineSizes) (due : Due) (ps : List Part) (t : List ℕ) → (due ≡ dues.Tree 0 → ⊥) → IsRest sizes due ps t → StartsRest sizes due ps t
rest_starts sizes due [] t other (ends, spelled) = absurd (other ends)
rest_starts sizes due (part ∷ others) t other (is, place, later, sizes_after, after, spelled, rest) =
    record { part = part; others = others; same = refl; is = is; place = place; later = later; sizes_after = sizes_after; after = after; spelled = spelled; rest = rest }

-- if it is due, only the end comes
pub rest_ends : (sizes : LineSizes) (due : Due) (ps : List Part) (t : List ℕ) → due ≡ dues.Tree 0 → IsRest sizes due ps t → (ps ≡ []) × (t ≡ line_text sizes.width lines.End)
rest_ends sizes due [] t ends (same, spelled) = (refl, spelled)
rest_ends sizes due (part ∷ others) t ends (is, place, later, sizes_after, after, spelled, rest) = absurd (none (subst (λ (d : Due). Admits d (first_line part)) ends place))
  where
    none : Admits (dues.Tree 0) (first_line part) → ⊥
    none (some, head) = absurd (omega (arith, some))

-- each rest begins with a line
rest_line : (sizes : LineSizes) (due : Due) (ps : List Part) (t : List ℕ) → IsRest sizes due ps t → BeginsWithLater sizes t
rest_line sizes due [] t (ends, spelled) = record { value = lines.End; is = tt; rest = []; spelled = spelled ∙ sym (append-nil (line_text sizes.width lines.End)) }
rest_line sizes due (part ∷ others) t (is, place, later, sizes_after, after, spelled, rest) =
    record { value = first_line part; is = is.0; rest = more_text sizes.width part ++ after; spelled = spelled ∙ part_cut sizes.width part after }

rest_at : (r : PartReading) (sizes : LineSizes) (claim : Claim) (t : List ℕ) → r.header ≡ Some (sizes, claim) → IsRestAt r t → (ps : List Part) × IsRest sizes r.due ps t
rest_at r sizes claim t known at = (at.parts, subst (λ (s : LineSizes). IsRest s r.due at.parts t) (sizes_same r.header at.sizes sizes at.claim claim at.header known) at.rest)

-- what is refused of a reading is refused of the same reading
pub fails_at : {A : Type 0} (a b : Option (List ℕ)) (failed : Bool) (r s : PartReading) (answer : Result A LinesFault) → r ≡ s → IfErr answer (Fails a b failed r.buffer (IsRestAt r)) → IfErr answer (Fails a b failed s.buffer (IsRestAt s))
fails_at a b failed r s answer same fails = let P : PartReading → Type 0 = λ q. IfErr answer (Fails a b failed q.buffer (IsRestAt q)) in subst P same fails

pub fails_first : (r : PartReading) (sizes : LineSizes) (claim : Claim) (had left : Option (List ℕ)) (failed : Bool) (fault : LinesFault) → r.header ≡ Some (sizes, claim) → Fails had left failed r.buffer (BeginsWithLater sizes) fault → Fails had left failed r.buffer (IsRestAt r) fault
fails_first r sizes claim had left failed fault known fails = Fails-weaker had left failed r.buffer (IsRestAt r) (BeginsWithLater sizes) fault
    (λ t at. let (ps, rest) = rest_at r sizes claim t known at in rest_line sizes r.due ps t rest) fails

pub fails_in_end : (r : PartReading) (sizes : LineSizes) (claim : Claim) (had mid left : Option (List ℕ)) (failed : Bool) (y : Buffered) (line : LemmaLine) (fault : LinesFault) → r.header ≡ Some (sizes, claim) → r.due ≡ dues.Tree 0 → IsLaterLine sizes line
    → Window had mid r.buffer y (line_text sizes.width line) → Fails mid left failed y (λ t. (line ≡ lines.End) × (t ≡ [])) fault → Fails had left failed r.buffer (IsRestAt r) fault
fails_in_end r sizes claim had mid left failed y line fault known ends ranged window fails =
    Fails-after had mid left failed r.buffer y (line_text sizes.width line) (IsRestAt r) (λ t. (line ≡ lines.End) × (t ≡ [])) fault window
    (λ more at.
    let (ps, rest) = rest_at r sizes claim (line_text sizes.width line ++ more) known at in
    let spelled = (rest_ends sizes r.due ps (line_text sizes.width line ++ more) ends rest).1 in
    same_later sizes line lines.End more [] ranged tt (spelled ∙ sym (append-nil (line_text sizes.width lines.End)))) fails

-- a part's first line, and what follows it
part_fits : (sizes : LineSizes) (due : Due) (ps : List Part) (line : LemmaLine) (more : List ℕ) → (due ≡ dues.Tree 0 → ⊥) → IsLaterLine sizes line → IsRest sizes due ps (line_text sizes.width line ++ more)
    → Admits due line × FollowsFirst Part (λ part. part) sizes line more
part_fits sizes due ps line more other ranged rest =
    let starts = rest_starts sizes due ps (line_text sizes.width line ++ more) other rest in
    let (same, tail) = same_later sizes line (first_line starts.part) more (more_text sizes.width starts.part ++ starts.after) ranged starts.is.0 (starts.spelled ∙ part_cut sizes.width starts.part starts.after) in (
      subst (Admits due) (sym same) starts.place,
      record { value = starts.part; first = sym same; is = starts.is; rest = starts.after; spelled = tail },
    )

pub fails_unadmitted : (r : PartReading) (sizes : LineSizes) (claim : Claim) (had left : Option (List ℕ)) (failed : Bool) (y : Buffered) (line : LemmaLine) (fault : LinesFault) → IsTextFault fault → failed ≡ false → r.header ≡ Some (sizes, claim) → (r.due ≡ dues.Tree 0 → ⊥) → IsLaterLine sizes line
    → Window had left r.buffer y (line_text sizes.width line) → (Admits r.due line → ⊥) → Fails had left failed r.buffer (IsRestAt r) fault
fails_unadmitted r sizes claim had left failed y line fault is works known other ranged window never =
    Fails-text had left failed r.buffer (IsRestAt r) fault is works (Refuses-taken had left r.buffer y (line_text sizes.width line) (IsRestAt r) window
    (λ more at.
    let (ps, rest) = rest_at r sizes claim (line_text sizes.width line ++ more) known at in
    never (part_fits sizes r.due ps line more other ranged rest).0))

pub fails_in_part : (r : PartReading) (sizes : LineSizes) (claim : Claim) (had mid left : Option (List ℕ)) (failed : Bool) (y : Buffered) (line : LemmaLine) (fault : LinesFault) → r.header ≡ Some (sizes, claim) → (r.due ≡ dues.Tree 0 → ⊥) → IsLaterLine sizes line
    → Window had mid r.buffer y (line_text sizes.width line) → Fails mid left failed y (FollowsFirst Part (λ part. part) sizes line) fault → Fails had left failed r.buffer (IsRestAt r) fault
fails_in_part r sizes claim had mid left failed y line fault known other ranged window fails =
    Fails-after had mid left failed r.buffer y (line_text sizes.width line) (IsRestAt r) (FollowsFirst Part (λ part. part) sizes line) fault window
    (λ more at.
    let (ps, rest) = rest_at r sizes claim (line_text sizes.width line ++ more) known at in
    (part_fits sizes r.due ps line more other ranged rest).1) fails

-- a part's first line and the others
pub reads_part : (had mid left : Option (List ℕ)) (old new : PartReading) (y : Buffered) (sizes later : LineSizes) (claim : Claim) (line : LemmaLine) (part : Part) → old.header ≡ Some (sizes, claim) → Admits old.due line → Window had mid old.buffer y (line_text sizes.width line)
    → CompletesPart sizes mid left y new.buffer line part → AreSizesAfter sizes part later → new.header ≡ Some (later, claim) → new.due ≡ due_after old.due part → ReadsPart had left old new part
reads_part had mid left old new y sizes later claim line part known place first completes sized header due =
    let whole = subst (λ (l : LemmaLine). Window had mid old.buffer y (line_text sizes.width l)) (sym completes.first) first in
    record {
      sizes = sizes;
      claim = claim;
      header = known;
      is = completes.is;
      place = subst (Admits old.due) (sym completes.first) place;
      window = Window-trans had mid left old.buffer y new.buffer (line_text sizes.width (first_line part)) (more_text sizes.width part) whole completes.window;
      later = later;
      sizes_after = sized;
      header_after = header;
      due = due;
    }

-- the line `end` and nothing more
pub end_window : (width : ℕ) (had mid left : Option (List ℕ)) (x y z : Buffered) (line : LemmaLine) → Window had mid x y (line_text width line) → Window mid left y z [] → line ≡ lines.End → Window had left x z (line_text width lines.End)
end_window width had mid left x y z line first second same =
    let text = line_text width lines.End in
    subst (Window had left x z) (append-nil text) (Window-trans had mid left x y z text [] (subst (λ (l : LemmaLine). Window had mid x y (line_text width l)) same first) second)

-- what may follow a part that was read makes a rest with it
pub part_joins : (had left : Option (List ℕ)) (old new : PartReading) (part : Part) → ReadsPart had left old new part → (bytes : List ℕ) → had ≡ Some bytes → (ps : List Part) → AwaitsParts left new ps → AwaitsParts had old (part ∷ ps)
part_joins had left old new part reads bytes known ps awaits =
    let text = part_text reads.sizes.width part in
    let (rest, kept, same, many) = Window-known had left old.buffer new.buffer text bytes reads.window known in
    let one : awaits.bytes ≡ rest = same_Some awaits.bytes rest (sym awaits.known ∙ kept) in
    let sizes = sizes_same new.header awaits.sizes reads.later awaits.claim reads.claim awaits.header reads.header_after in
    let after = new.buffer.bytes ++ awaits.bytes in
    let moved = subst (λ (d : Due). IsRest reads.later d ps after) reads.due (subst (λ (s : LineSizes). IsRest s new.due ps after) sizes awaits.rest) in
    let spelled : old.buffer.bytes ++ bytes ≡ text ++ after = same ∙ ap (λ l. text ++ (new.buffer.bytes ++ l)) (sym one) in
    record {
      sizes = reads.sizes;
      claim = reads.claim;
      header = reads.header;
      bytes = bytes;
      known = known;
      rest = (reads.is, reads.place, reads.later, reads.sizes_after, after, spelled, moved);
    }

-- the sizes after a part are those after the same part
pub later_same : (sizes a b : LineSizes) (p q : Part) → p ≡ q → AreSizesAfter sizes p a → AreSizesAfter sizes q b → a ≡ b
later_same sizes a b p q one first second =
    same_sizes a b (first.width ∙ sym second.width) (first.height ∙ sym second.height) (first.agents ∙ sym second.agents)
    (first.lists ∙ ap (lists_after sizes.lists) one ∙ sym second.lists)

-- the part that was read is the one that came
pub part_same : (had left : Option (List ℕ)) (old new : PartReading) (part due : Part) (ps : List Part) → ReadsPart had left old new part → AwaitsParts had old (due ∷ ps) → (part ≡ due) × AwaitsParts left new ps
part_same had left old new part due ps reads awaits =
    let text = part_text reads.sizes.width part in
    let (rest, kept, same, many) = Window-known had left old.buffer new.buffer text awaits.bytes reads.window awaits.known in
    let sizes = sizes_same old.header awaits.sizes reads.sizes awaits.claim reads.claim awaits.header reads.header in
    by rest kept same (subst (λ (s : LineSizes). IsRest s old.due (due ∷ ps) (old.buffer.bytes ++ awaits.bytes)) sizes awaits.rest)
  where
    by : (rest : List ℕ) → left ≡ Some rest → old.buffer.bytes ++ awaits.bytes ≡ part_text reads.sizes.width part ++ (new.buffer.bytes ++ rest) → IsRest reads.sizes old.due (due ∷ ps) (old.buffer.bytes ++ awaits.bytes)
        → (part ≡ due) × AwaitsParts left new ps
    by rest kept same (is, place, later, sizes_after, after, spelled, others) =
        let (one, tail) = (parts_apart reads.sizes).apart part due (new.buffer.bytes ++ rest) after reads.is is (sym same ∙ spelled) in
        let sized = later_same reads.sizes later reads.later due part (sym one) sizes_after reads.sizes_after in
        let dues_same : due_after old.due due ≡ new.due = ap (due_after old.due) (sym one) ∙ sym reads.due in
        let moved = subst (IsRest reads.later new.due ps) (sym tail) (subst (λ (d : Due). IsRest reads.later d ps after) dues_same (subst (λ (s : LineSizes). IsRest s (due_after old.due due) ps after) sized others)) in
        (one, record { sizes = reads.later; claim = reads.claim; header = reads.header_after; bytes = rest; known = kept; rest = moved })

pub end_joins : (had left : Option (List ℕ)) (old new : PartReading) → ReadsEnd had left old new → (bytes : List ℕ) → had ≡ Some bytes → AwaitsParts had old []
end_joins had left old new reads bytes known =
    let text = line_text reads.sizes.width lines.End in
    let (rest, kept, same, many) = Window-known had left old.buffer new.buffer text bytes reads.window known in
    let none : rest ≡ [] = subst IsAtEnd kept reads.ended in
    let all : old.buffer.bytes ++ bytes ≡ text = same ∙ ap (λ l. text ++ (l ++ rest)) reads.empty ∙ ap (λ l. text ++ l) none ∙ append-nil text in
    record { sizes = reads.sizes; claim = reads.claim; header = reads.header; bytes = bytes; known = known; rest = (reads.nothing_due, all) }

-- what is awaited isn't refused
pub awaited : (had left : Option (List ℕ)) (failed : Bool) (r : PartReading) (ps : List Part) (fault : LinesFault) → AwaitsParts had r ps → Fails had left failed r.buffer (IsRestAt r) fault → IsNoTextFault fault
awaited had left failed r ps fault awaits fails =
    Fails-not had left failed r.buffer (IsRestAt r) fault awaits.bytes fails awaits.known (record { sizes = awaits.sizes; claim = awaits.claim; header = awaits.header; parts = ps; rest = awaits.rest })
