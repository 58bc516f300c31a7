-- Values with a line of their own, and lists of them, in a text.
use Rattle.std.proofs.Common.{◌≡◌, ℕ, List, ◌++◌, length, Option, Bool, false, sym, ap, subst, ◌∙◌, append_assoc}
use Rattle.mapf_certificate.specs.declared.cert.LinesFault.{LinesFault}
use Rattle.mapf_certificate.specs.Buffered.{Buffered}
use Rattle.mapf_certificate.specs.Bounded.{AreInOrder, AreSpelledApart, MayFollow}
use Rattle.mapf_certificate.specs.Window.{Window, BeginsWith, Fails, IsTextFault}
use Rattle.mapf_certificate.proofs.Sequences.{same_list}
use Rattle.mapf_certificate.proofs.Windows.{Refuses-taken, Fails-text, Fails-after, Window-trans}
use Rattle.mapf_lemma_texts.specs.declared.line.LemmaLine.{LemmaLine}
use Rattle.mapf_lemma_texts.specs.declared.sizes.LineSizes.{LineSizes}
use Rattle.mapf_lemma_texts.specs.Lines.{IsLaterLine, line_text}
use Rattle.mapf_lemma_texts.specs.declared.line.LemmaLine.TheVariants as lines
use Rattle.mapf_lemma_texts.specs.Listing.{IsListed, BeginsWithList, FitsAnyhow, InAnyOrder, value_text, values_text}
use Rattle.mapf_lemma_texts.specs.Parts.{IsGroupInRange, group_text}
use Rattle.mapf_lemma_texts.specs.Places.{IsBeforeUse}
use Rattle.mapf_lemmas.specs.Groups.{Group}
use Rattle.mapf_lemmas.specs.declared.leaf.Use.{Use}
use Rattle.mapf_lemma_texts.specs.declared.sizes.LinePlace.TheVariants as places
use Rattle.mapf_lemma_texts.proofs.PlainLines.{same_line}

-- the lines after the header that two texts begin with are one line where the texts are one
pub same_later : (sizes : LineSizes) (l m : LemmaLine) (s t : List ℕ) → IsLaterLine sizes l → IsLaterLine sizes m → line_text sizes.width l ++ s ≡ line_text sizes.width m ++ t → (l ≡ m) × (s ≡ t)
same_later sizes l m s t p q e = same_line (places.Later sizes) l m s t p q e

-- bytes begin with a line in range
abbrev pub BeginsWithLater : LineSizes → List ℕ → Type 0
BeginsWithLater sizes = BeginsWith LemmaLine (IsLaterLine sizes) (line_text sizes.width)

module _ {A : Type 0} (sizes : LineSizes) (line : A → LemmaLine) (Fits : A → Type 0) (R : A → A → Type 0) (injective : (a b : A) → line a ≡ line b → a ≡ b) where
  -- the values of two lines are one where the texts are one
  pub values_apart : AreSpelledApart A (IsListed sizes line Fits) (value_text sizes.width line)
  values_apart = record { apart = λ a b s t p q e. let (same, rest) = same_later sizes (line a) (line b) s t p.0 q.0 e in (injective a b same, rest) }

  -- where a value is expected, a line is
  pub value_is_line : (before : List A) (t : List ℕ) → BeginsWith A (MayFollow A (IsListed sizes line Fits) R before) (value_text sizes.width line) t → BeginsWithLater sizes t
  value_is_line before t begins = record { value = line begins.value; is = begins.is.0.0; rest = begins.rest; spelled = begins.spelled }

  -- if the bytes begin with a value that may follow, their first line is that value's
  pub value_fits : (before : List A) (l : LemmaLine) (more : List ℕ) → IsLaterLine sizes l → BeginsWith A (MayFollow A (IsListed sizes line Fits) R before) (value_text sizes.width line) (line_text sizes.width l ++ more)
      → (value : A) × (l ≡ line value) × MayFollow A (IsListed sizes line Fits) R before value
  value_fits before l more is begins =
      let (same, rest) = same_later sizes l (line begins.value) more begins.rest is begins.is.0.0 begins.spelled in
      (begins.value, same, begins.is)

  -- a line that begins no value which may follow
  pub misfit_line : (before : List A) (a b : Option (List ℕ)) (failed : Bool) (x y : Buffered) (l : LemmaLine) (fault : LinesFault) → IsTextFault fault → failed ≡ false → IsLaterLine sizes l
      → Window a b x y (line_text sizes.width l) → ((value : A) → l ≡ line value → MayFollow A (IsListed sizes line Fits) R before value → ⊥) → Fails a b failed x (BeginsWith A (MayFollow A (IsListed sizes line Fits) R before) (value_text sizes.width line)) fault
  misfit_line before a b failed x y l fault is works ranged window never =
      Fails-text a b failed x (BeginsWith A (MayFollow A (IsListed sizes line Fits) R before) (value_text sizes.width line)) fault is works
      (Refuses-taken a b x y (line_text sizes.width l) (BeginsWith A (MayFollow A (IsListed sizes line Fits) R before) (value_text sizes.width line)) window
      (λ more begins. let (value, same, follows) = value_fits before l more ranged begins in never value same follows))

  -- the line is a value's, which may not follow
  pub misfit_value : (before : List A) (a b : Option (List ℕ)) (failed : Bool) (x y : Buffered) (l : LemmaLine) (value : A) (fault : LinesFault) → IsTextFault fault → failed ≡ false → IsLaterLine sizes l
      → Window a b x y (line_text sizes.width l) → l ≡ line value → (MayFollow A (IsListed sizes line Fits) R before value → ⊥) → Fails a b failed x (BeginsWith A (MayFollow A (IsListed sizes line Fits) R before) (value_text sizes.width line)) fault
  misfit_value before a b failed x y l value fault is works ranged window same never =
      misfit_line before a b failed x y l fault is works ranged window
      (λ other e follows. never (subst (MayFollow A (IsListed sizes line Fits) R before) (injective other value (sym e ∙ same)) follows))

-- so many values that come before what follows
pub record ListThen (A : Type 0) (sizes : LineSizes) (line : A → LemmaLine) (Fits : A → Type 0) (R : A → A → Type 0) (count : ℕ) (Next : List ℕ → Type 0) (bytes : List ℕ) : Type 0 where
  pub values : List A
  pub are : AreInOrder A (IsListed sizes line Fits) R count values
  pub after : List ℕ
  pub spelled : bytes ≡ values_text sizes.width line values ++ after
  pub next : Next after

module _ {A : Type 0} (sizes : LineSizes) (line : A → LemmaLine) (Fits : A → Type 0) (R : A → A → Type 0) (injective : (a b : A) → line a ≡ line b → a ≡ b) (count : ℕ) where
  -- they are a list
  pub list_here : (Next : List ℕ → Type 0) (bytes : List ℕ) → ListThen A sizes line Fits R count Next bytes → BeginsWithList A sizes line Fits R count bytes
  list_here Next bytes listed = record { value = listed.values; is = listed.are; rest = listed.after; spelled = listed.spelled }

  -- after as many values comes what follows
  pub list_after : (Next : List ℕ → Type 0) (values : List A) (more : List ℕ) → AreInOrder A (IsListed sizes line Fits) R count values → ListThen A sizes line Fits R count Next (values_text sizes.width line values ++ more) → Next more
  list_after Next values more are listed =
      let (same, rest) = same_list (IsListed sizes line Fits) (value_text sizes.width line) (values_apart sizes line Fits R injective) values listed.values more listed.after are.each listed.are.each (are.many ∙ sym listed.are.many) listed.spelled in
      subst Next (sym rest) listed.next

group_same : (m n a b : ℕ) → lines.Group m a ≡ lines.Group n b → (m ≡ n) × (a ≡ b)
group_same m n a b e = (cc, cc)

use_same : (a b : Use) → lines.WeightedUse a ≡ lines.WeightedUse b → a ≡ b
use_same a b e = cc

-- the uses of a group
abbrev pub AreUses : LineSizes → ℕ → List ℕ → Type 0
AreUses sizes = BeginsWithList Use sizes lines.WeightedUse FitsAnyhow IsBeforeUse

group_cut : (sizes : LineSizes) (group : Group) (s : List ℕ) → group_text sizes.width group ++ s ≡ line_text sizes.width (lines.Group (length group.uses) group.divisor) ++ (values_text sizes.width lines.WeightedUse group.uses ++ s)
group_cut sizes group s = append_assoc (line_text sizes.width (lines.Group (length group.uses) group.divisor)) (values_text sizes.width lines.WeightedUse group.uses) s

-- two texts that begin with a group, and of which one begins the other, begin with the same group
pub groups_apart : (sizes : LineSizes) → AreSpelledApart Group (IsGroupInRange sizes) (group_text sizes.width)
groups_apart sizes = record { apart = by }
  where
    by : (a b : Group) (s t : List ℕ) → IsGroupInRange sizes a → IsGroupInRange sizes b → group_text sizes.width a ++ s ≡ group_text sizes.width b ++ t → (a ≡ b) × (s ≡ t)
    by a b s t p q e =
        let w = sizes.width in
        let (same, more) = same_later sizes (lines.Group (length a.uses) a.divisor) (lines.Group (length b.uses) b.divisor) (values_text w lines.WeightedUse a.uses ++ s) (values_text w lines.WeightedUse b.uses ++ t) p.0 q.0 (sym (group_cut sizes a s) ∙ e ∙ group_cut sizes b t) in
        let (many, divisor) = group_same (length a.uses) (length b.uses) a.divisor b.divisor same in
        let (uses, rest) = same_list (IsListed sizes lines.WeightedUse FitsAnyhow) (value_text w lines.WeightedUse) (values_apart sizes lines.WeightedUse FitsAnyhow IsBeforeUse use_same) a.uses b.uses s t p.1.each q.1.each many more in
        (ap (λ (n : ℕ). let c : Group = record { divisor = n; uses = a.uses } in c) divisor ∙ ap (λ (us : List Use). let c : Group = record { divisor = b.divisor; uses = us } in c) uses, rest)

-- where a group is expected, a line is
pub group_is_line : (sizes : LineSizes) (t : List ℕ) → BeginsWith Group (IsGroupInRange sizes) (group_text sizes.width) t → BeginsWithLater sizes t
group_is_line sizes t begins =
    let group = begins.value in
    record {
      value = lines.Group (length group.uses) group.divisor;
      is = begins.is.0;
      rest = values_text sizes.width lines.WeightedUse group.uses ++ begins.rest;
      spelled = begins.spelled ∙ group_cut sizes group begins.rest;
    }

-- a group's line is followed by its uses
pub uses_due : (sizes : LineSizes) (l : LemmaLine) (count divisor : ℕ) (more : List ℕ) → IsLaterLine sizes l → l ≡ lines.Group count divisor → BeginsWith Group (IsGroupInRange sizes) (group_text sizes.width) (line_text sizes.width l ++ more)
    → AreUses sizes count more
uses_due sizes l count divisor more is same begins =
    let group = begins.value in
    let (one, rest) = same_later sizes l (lines.Group (length group.uses) group.divisor) more (values_text sizes.width lines.WeightedUse group.uses ++ begins.rest) is begins.is.0 (begins.spelled ∙ group_cut sizes group begins.rest) in
    let many : length group.uses ≡ count = (group_same (length group.uses) count group.divisor divisor (sym one ∙ same)).0 in
    record {
      value = group.uses;
      is = record { many = many; each = begins.is.1.each; rising = begins.is.1.rising };
      rest = begins.rest;
      spelled = rest;
    }

-- a group whose uses are refused
pub fails_in_uses : (sizes : LineSizes) (a b c : Option (List ℕ)) (failed : Bool) (x y : Buffered) (l : LemmaLine) (count divisor : ℕ) (fault : LinesFault) → IsLaterLine sizes l → Window a b x y (line_text sizes.width l) → l ≡ lines.Group count divisor
    → Fails b c failed y (AreUses sizes count) fault → Fails a c failed x (BeginsWith Group (IsGroupInRange sizes) (group_text sizes.width)) fault
fails_in_uses sizes a b c failed x y l count divisor fault is window same fails =
    Fails-after a b c failed x y (line_text sizes.width l) (BeginsWith Group (IsGroupInRange sizes) (group_text sizes.width)) (AreUses sizes count) fault window
    (λ more begins. uses_due sizes l count divisor more is same begins) fails

-- a group's line and its uses
pub group_window : (sizes : LineSizes) (a b c : Option (List ℕ)) (x y z : Buffered) (l : LemmaLine) (count divisor : ℕ) (uses : List Use) → Window a b x y (line_text sizes.width l) → l ≡ lines.Group count divisor → length uses ≡ count
    → Window b c y z (values_text sizes.width lines.WeightedUse uses) → Window a c x z (group_text sizes.width (record { divisor = divisor; uses = uses }))
group_window sizes a b c x y z l count divisor uses first same many second =
    let whole : l ≡ lines.Group (length uses) divisor = same ∙ ap (λ n. lines.Group n divisor) (sym many) in
    Window-trans a b c x y z (line_text sizes.width (lines.Group (length uses) divisor)) (values_text sizes.width lines.WeightedUse uses) (subst (λ (k : LemmaLine). Window a b x y (line_text sizes.width k)) whole first) second

-- any group in range may follow
pub any_group : (sizes : LineSizes) (before : List Group) (t : List ℕ) → BeginsWith Group (MayFollow Group (IsGroupInRange sizes) InAnyOrder before) (group_text sizes.width) t → BeginsWith Group (IsGroupInRange sizes) (group_text sizes.width) t
any_group sizes before t begins = record { value = begins.value; is = begins.is.0; rest = begins.rest; spelled = begins.spelled }
