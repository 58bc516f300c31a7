-- A certificate that is judged as its parts are read.
use Rattle.std.proofs.Common.{◌≡◌, ◌≢◌, ℕ, ◌≤◌, ◌+◌, Bool, false, List, [], ◌∷◌, ◌++◌, Option, Some, None, IfSome, IsSomeAnd, Result, Ok, Err, IfErr, IsErrAnd, length, refl, sym, ◌∙◌, ap, subst, append_assoc, arith}
use Rattle.std.proofs.lemmas.List.{append-nil}
use Rattle.std.proofs.lemmas.Option.{same_Some}
use Rattle.std.proofs.KnownBytes.{Consumes-nil}
use Rattle.mapf_certificate.specs.declared.cert.CertFault.{CertFault}
use Rattle.mapf_certificate.specs.declared.cert.CertFault.TheVariants as texts
use Rattle.mapf_certificate.specs.declared.cert.LinesFault.{LinesFault}
use Rattle.mapf_certificate.specs.declared.cert.LinesFault.TheVariants.{Text, Device, TooLong, Memory}
use Rattle.mapf_certificate.specs.Buffered.{Buffered}
use Rattle.mapf_certificate.specs.Window.{Window, ComesWithin, Fails, IsNoTextFault}
use Rattle.mapf_certificate.proofs.Windows.{Window-trans, Window-known, Window-within, ComesWithin-after, Exceeds-after, refuses_within}
use Rattle.mapf_lemmas.specs.Laws.{StatementIsUnique}
use Rattle.mapf_lemma_checker.specs.declared.fault.LemmaFault.{LemmaFault}
use Rattle.mapf_lemma_checker.specs.declared.fault.LemmaFault.TheVariants as faults
use Rattle.mapf_lemma_checker.specs.declared.fault.LemmaRefusal.{LemmaRefusal}
use Rattle.mapf_lemma_checker.specs.declared.fault.LemmaRefusal.TheVariants.{C2, C3, C4, C6, C7, C8, C9, C10}
use Rattle.mapf_lemma_checker.specs.BadParts.{BeginBadly, HasBadPart}
use Rattle.mapf_lemma_checker.specs.CertJudging.{AreJudgedParts, HasPartRefusal, IsBetweenParts, IsJudgedOn, IsJudgedTo, IsStateAt, SpellsRest}
use Rattle.mapf_lemma_checker.specs.Faults.{IsOfChecking, IsRefusedFor, of_lines}
use Rattle.mapf_lemma_checker.specs.LemmaParts.{IsPartOf}
use Rattle.mapf_lemma_checker.specs.States.{IsPlaceFor, JudgeState, ShowParts, ShowsPart, first_state}
use Rattle.mapf_lemma_checker.proofs.DueLemmas.{one_state, part_of, place_for, state_after}
use Rattle.mapf_lemma_texts.specs.PartReading.{AreSizesAfter, AwaitsParts, IsRest, PartReading, ReadsPart, TakesEnd, TakesPart}
use Rattle.mapf_lemma_texts.specs.declared.due.Due.{Due}
use Rattle.mapf_lemma_texts.specs.declared.line.LemmaLine.TheVariants as lines
use Rattle.mapf_lemma_texts.specs.declared.part.Part.{Part}
use Rattle.mapf_lemma_texts.specs.declared.sizes.LineSizes.{LineSizes}
use Rattle.mapf_lemma_texts.specs.Due.{due_after, lists_after}
use Rattle.mapf_lemma_texts.specs.Lines.{line_text}
use Rattle.mapf_lemma_texts.specs.Parts.{IsPart, part_text}
use Rattle.mapf_model.specs.declared.item.Claim.{Claim}
use Rattle.mapf_model.specs.declared.label.Label.{Label}
use Rattle.mapf_model.specs.Plan.{Instance}

-- of a header that is known, the sizes
pub sizes_same : (o : Option (LineSizes × Claim)) (a b : LineSizes) (c d : Claim) → o ≡ Some (a, c) → o ≡ Some (b, d) → a ≡ b
sizes_same o a b c d p q = ap (λ h. h.0) (same_Some {A = LineSizes × Claim} (a, c) (b, d) (sym p ∙ q))

-- nothing was taken yet
pub none_taken : (had : Option (List ℕ)) (buffer : Buffered) → Window had had buffer buffer []
none_taken had buffer = record { pulled = []; source = Consumes-nil had; same = append-nil buffer.bytes; within = omega arith }

-- nothing was read
pub judged_none : (problem : Instance) (target : Label) (had : Option (List ℕ)) (start : PartReading) → IsJudgedTo problem target had had start start first_state
judged_none problem target had start = record {
  given = [];
  shown = refl;
  taken = [];
  window = none_taken had start.buffer;
  placed = λ rest bytes spells. (bytes, spells);
  ahead = λ parts awaits. (parts, refl, awaits);
  behind = λ bytes known rest awaits. awaits;
  shows = λ rest last shown. shown;
  bad = λ bytes rest known left_known bad.
      let same : rest ≡ bytes = same_Some rest bytes (sym left_known ∙ known) in
      subst (λ (t : List ℕ). HasBadPart problem target start first_state (start.buffer.bytes ++ t)) same bad;
}

-- the part is the next one, and the end isn't
pub record IsNextPart (had left : Option (List ℕ)) (old new : PartReading) (part : Part) : Type 0 where
  pub takes : TakesPart had left old new part
  pub only_part : (other : Part) (parts : List Part) → AwaitsParts had old (other ∷ parts) → (part ≡ other) × AwaitsParts left new parts
  pub only_end : AwaitsParts had old [] → ⊥

-- a part that the reader gave is
pub is_next : (had left : Option (List ℕ)) (old new : PartReading) (given : Option Part) (part : Part) → given ≡ Some part → IfSome given (TakesPart had left old new) →
    ((other : Part) (parts : List Part) → AwaitsParts had old (other ∷ parts) → IsSomeAnd given (λ read. (read ≡ other) × AwaitsParts left new parts)) → (AwaitsParts had old [] → given ≡ None) → IsNextPart had left old new part
is_next had left old new None part is takes only_part only_end = absurd cc
is_next had left old new (Some given) part is takes only_part only_end = rw (← same_Some given part is) (record {
  takes = takes;
  only_part = only_part;
  only_end = λ there. let none = only_end there in cc;
})

-- before a part that was read: its place, and that it is of the problem
module _ (problem : Instance) (target : Label) (had left : Option (List ℕ)) (now new : PartReading) (state : JudgeState) (between : IsBetweenParts problem target now state) (part : Part) (reads : ReadsPart had left now new part) where
  same_sizes : reads.sizes ≡ between.sizes
  same_sizes = sizes_same now.header reads.sizes between.sizes reads.claim between.claim reads.header between.header

  pub has_place : IsPlaceFor problem target state part
  has_place = place_for problem target between.sizes.lists now.due part state between.state_at reads.place

  pub is_part_of : IsPartOf problem (length state.lists) part
  is_part_of = part_of problem target between.sizes now.due part state between.of_problem (subst (λ (s : LineSizes). IsPart s part) same_sizes reads.is) between.state_at reads.place

  -- after it the reader and the judge still expect the same part
  pub between_after : (next : JudgeState) → ShowsPart problem target state part next → new.fault ≡ None → new.is_whole ≡ false → IsBetweenParts problem target new next
  between_after next shows no_fault going =
      let sized : AreSizesAfter between.sizes part reads.later = subst (λ (s : LineSizes). AreSizesAfter s part reads.later) same_sizes reads.sizes_after in
      record {
        sizes = reads.later;
        claim = reads.claim;
        header = reads.header_after;
        of_problem = record {
          width_is = sized.width ∙ between.of_problem.width_is;
          height_is = sized.height ∙ between.of_problem.height_is;
          agents_are = sized.agents ∙ between.of_problem.agents_are;
        };
        no_fault = no_fault;
        going = going;
        state_at = subst (λ (n : ℕ). IsStateAt problem target n new.due next) (sym sized.lists)
            (subst (λ (d : Due). IsStateAt problem target (lists_after between.sizes.lists part) d next) (sym reads.due)
            (state_after problem target between.sizes.lists now.due part state next between.state_at reads.place shows));
      }

-- one more part shows what it has to show
shown_more : (problem : Instance) (target : Label) (first : JudgeState) (given : List Part) (state : JudgeState) (part : Part) (next : JudgeState) → ShowParts problem target first given state → ShowsPart problem target state part next →
    ShowParts problem target first (given ++ part ∷ []) next
shown_more problem target first [] state part next shown shows = (next, subst (λ (s : JudgeState). ShowsPart problem target s part next) shown shows, refl)
shown_more problem target first (other ∷ given) state part next (mid, is, rest) shows = (mid, is, shown_more problem target mid given state part next rest shows)

-- a part more
module _ (problem : Instance) (target : Label) (had mid left : Option (List ℕ)) (start now new : PartReading) (state : JudgeState) (so_far : IsJudgedTo problem target had mid start now state) (part : Part) (next : IsNextPart mid left now new part) where
  -- it is the next one
  next_is : (given parts rest : List Part) → parts ≡ given ++ rest → AwaitsParts mid now rest → (after : List Part) × (parts ≡ (given ++ part ∷ []) ++ after) × (rest ≡ part ∷ after) × AwaitsParts left new after
  next_is given parts [] same awaits = absurd (next.only_end awaits)
  next_is given parts (other ∷ rest) same awaits =
      let (is, after) = next.only_part other rest awaits in
      let front : other ∷ rest ≡ part ∷ rest = ap (λ p. p ∷ rest) (sym is) in
      (rest, same ∙ ap (λ ps. given ++ ps) front ∙ sym (append_assoc given (part ∷ []) rest), front, after)

  abbrev text : List ℕ
  text = part_text next.takes.read.sizes.width part

  taken : Window had left start.buffer new.buffer (so_far.taken ++ text)
  taken = Window-trans had mid left start.buffer now.buffer new.buffer so_far.taken text so_far.window next.takes.read.window

  -- what is spelled after it is spelled with it before
  with_part : (rest : List Part) (bytes : List ℕ) → SpellsRest new rest bytes → SpellsRest now (part ∷ rest) (text ++ bytes)
  with_part rest bytes spells =
      let reads = next.takes.read in
      let same : spells.sizes ≡ reads.later = sizes_same new.header spells.sizes reads.later spells.claim reads.claim spells.header reads.header_after in
      let due : IsRest spells.sizes (due_after now.due part) rest bytes = subst (λ (d : Due). IsRest spells.sizes d rest bytes) reads.due spells.rest in
      record {
        sizes = reads.sizes;
        claim = reads.claim;
        header = reads.header;
        rest = (reads.is, reads.place, reads.later, reads.sizes_after, bytes, refl, subst (λ (s : LineSizes). IsRest s (due_after now.due part) rest bytes) same due);
      }

  -- where its lines stand
  part_spelled : (rest : List ℕ) → mid ≡ Some rest → (after : List ℕ) × (left ≡ Some after) × (now.buffer.bytes ++ rest ≡ text ++ (new.buffer.bytes ++ after))
  part_spelled rest known =
      let (after, known_left, same, count) = Window-known mid left now.buffer new.buffer text rest next.takes.read.window known in
      (after, known_left, same)

  -- if it doesn't show what it has to show, it is bad
  pub part_is_bad : ((after : JudgeState) → ShowsPart problem target state part after → ⊥) → (bytes : List ℕ) → had ≡ Some bytes → HasBadPart problem target start first_state (start.buffer.bytes ++ bytes)
  part_is_bad never bytes known =
      let reads = next.takes.read in
      let (rest, known_mid, same, count) = Window-known had mid start.buffer now.buffer so_far.taken bytes so_far.window known in
      let (after, known_left, spelled) = part_spelled rest known_mid in
      so_far.bad bytes rest known known_mid (record {
        sizes = reads.sizes;
        claim = reads.claim;
        header = reads.header;
        parts = [];
        bad = part;
        begin = (reads.is, reads.place, never, new.buffer.bytes ++ after, spelled);
      })

  -- if it shows that, and a later one doesn't, the later one is bad
  later_is_bad : (shown : JudgeState) → ShowsPart problem target state part shown → (bytes rest : List ℕ) → had ≡ Some bytes → left ≡ Some rest → HasBadPart problem target new shown (new.buffer.bytes ++ rest) →
      HasBadPart problem target start first_state (start.buffer.bytes ++ bytes)
  later_is_bad shown shows bytes rest known left_known bad =
      let reads = next.takes.read in
      let (had_mid, known_mid, same, count) = Window-known had mid start.buffer now.buffer so_far.taken bytes so_far.window known in
      let (after, known_left, spelled) = part_spelled had_mid known_mid in
      let came : rest ≡ after = same_Some rest after (sym left_known ∙ known_left) in
      let sized : bad.sizes ≡ reads.later = sizes_same new.header bad.sizes reads.later bad.claim reads.claim bad.header reads.header_after in
      let begin = subst (λ (s : LineSizes). BeginBadly problem target s (due_after now.due part) shown bad.parts bad.bad (new.buffer.bytes ++ after)) sized
      (subst (λ (d : Due). BeginBadly problem target bad.sizes d shown bad.parts bad.bad (new.buffer.bytes ++ after)) reads.due
      (subst (λ (t : List ℕ). BeginBadly problem target bad.sizes new.due shown bad.parts bad.bad (new.buffer.bytes ++ t)) came bad.begin)) in
      so_far.bad bytes had_mid known known_mid (record {
        sizes = reads.sizes;
        claim = reads.claim;
        header = reads.header;
        parts = part ∷ bad.parts;
        bad = bad.bad;
        begin = (reads.is, reads.place, reads.later, reads.sizes_after, shown, shows, new.buffer.bytes ++ after, spelled, begin);
      })

  pub judged_more : StatementIsUnique → (after : JudgeState) → ShowsPart problem target state part after → IsJudgedTo problem target had left start new after
  judged_more unique after shows = record {
    given = so_far.given ++ part ∷ [];
    shown = shown_more problem target first_state so_far.given state part after so_far.shown shows;
    taken = so_far.taken ++ text;
    window = taken;
    placed = λ rest bytes spells.
        let (whole, placed) = so_far.placed (part ∷ rest) (text ++ bytes) (with_part rest bytes spells) in
        (whole, subst (λ (ps : List Part). SpellsRest start ps whole) (sym (append_assoc so_far.given (part ∷ []) rest)) placed);
    ahead = λ parts awaits.
        let (rest, same, there) = so_far.ahead parts awaits in
        let (further, all, front, others) = next_is so_far.given parts rest same there in
        (further, all, others);
    behind = λ bytes known rest awaits.
        let (had_left, known_mid, same, count) = Window-known had mid start.buffer now.buffer so_far.taken bytes so_far.window known in
        subst (λ (ps : List Part). AwaitsParts had start ps) (sym (append_assoc so_far.given (part ∷ []) rest)) (so_far.behind bytes known (part ∷ rest) (next.takes.joins had_left known_mid rest awaits));
    shows = λ rest last shown.
        let (one, is, others) = so_far.shows (part ∷ rest) last (subst (λ (ps : List Part). ShowParts problem target first_state ps last) (append_assoc so_far.given (part ∷ []) rest) shown) in
        subst (λ (s : JudgeState). ShowParts problem target s rest last) (one_state problem target unique part state one after is shows) others;
    bad = later_is_bad after shows;
  }

  pub came_with_part : ComesWithin had left start.buffer
  came_with_part = Window-within had left start.buffer new.buffer (so_far.taken ++ text) taken

  -- if it can't show what it has to show, no parts that the reader awaited do
  pub part_refutes : ((after : JudgeState) → ShowsPart problem target state part after → ⊥) → (parts : List Part) (last : JudgeState) → AwaitsParts had start parts → ShowParts problem target first_state parts last → ⊥
  part_refutes never parts last awaits shown =
      let (rest, same, there) = so_far.ahead parts awaits in
      let (further, all, front, others) = next_is so_far.given parts rest same there in
      let left_to_show = so_far.shows rest last (subst (λ (ps : List Part). ShowParts problem target first_state ps last) same shown) in
      let (one, is, more) = subst (λ (ps : List Part). ShowParts problem target state ps last) front left_to_show in
      never one is

-- the end was read
pub judged_all : (problem : Instance) (target : Label) (had mid left : Option (List ℕ)) (start now new : PartReading) (state : JudgeState) → IsJudgedTo problem target had mid start now state → TakesEnd mid left now new → AreJudgedParts problem target had start
judged_all problem target had mid left start now new state so_far takes =
    let reads = takes.read in
    let ended : SpellsRest now [] (line_text reads.sizes.width lines.End) = record { sizes = reads.sizes; claim = reads.claim; header = reads.header; rest = (reads.nothing_due, refl) } in
    let (whole, placed) = so_far.placed [] (line_text reads.sizes.width lines.End) ended in
    record {
      parts = so_far.given;
      last = state;
      shown = so_far.shown;
      text = whole;
      placed = subst (λ (ps : List Part). SpellsRest start ps whole) (append-nil so_far.given) placed;
      read = λ bytes known.
          let (rest, known_mid, same, count) = Window-known had mid start.buffer now.buffer so_far.taken bytes so_far.window known in
          subst (λ (ps : List Part). AwaitsParts had start ps) (append-nil so_far.given) (so_far.behind bytes known [] (takes.joins rest known_mid));
      within = λ bytes known.
          let (rest, known_mid, same, count) = Window-known had mid start.buffer now.buffer so_far.taken bytes so_far.window known in
          let (after, known_left, same_end, count_end) = Window-known mid left now.buffer new.buffer (line_text reads.sizes.width lines.End) rest reads.window known_mid in
          let none_left : after ≡ [] = rw known_left at reads.ended in
          omega (arith, count, count_end, ap length none_left);
    }

-- the bytes up to the end are within the limit
pub came_to_end : (problem : Instance) (target : Label) (had mid left : Option (List ℕ)) (start now new : PartReading) (state : JudgeState) → IsJudgedTo problem target had mid start now state → TakesEnd mid left now new → ComesWithin had left start.buffer
came_to_end problem target had mid left start now new state so_far takes =
    ComesWithin-after had mid left start.buffer now.buffer so_far.taken so_far.window (Window-within mid left now.buffer new.buffer (line_text takes.read.sizes.width lines.End) takes.read.window)

-- no parts were awaited where reading found an error of the text
pub none_awaited : (problem : Instance) (target : Label) (had mid : Option (List ℕ)) (start now : PartReading) (state : JudgeState) (fault : LinesFault) → IsJudgedTo problem target had mid start now state →
    ((other : Part) (parts : List Part) → AwaitsParts mid now (other ∷ parts) → IsNoTextFault fault) → (AwaitsParts mid now [] → IsNoTextFault fault) → (parts : List Part) → AwaitsParts had start parts → IsNoTextFault fault
none_awaited problem target had mid start now state fault so_far only_part only_end parts awaits = let (rest, same, there) = so_far.ahead parts awaits in by rest there where
  by : (rest : List Part) → AwaitsParts mid now rest → IsNoTextFault fault
  by [] there = only_end there
  by (other ∷ rest) there = only_part other rest there

module _ (had left : Option (List ℕ)) (failed : Bool) (start : Buffered) (Says : LemmaRefusal → Type 0) where
  -- why reading stopped, after this was taken
  pub stops_reading : (mid : Option (List ℕ)) (now : Buffered) (taken : List ℕ) (IsText : List ℕ → Type 0) (fault : LinesFault) → Window had mid start now taken → Fails mid left failed now IsText fault →
      ((why : CertFault) → C2 why ≢ C2 texts.Memory → (IsNoTextFault fault → ⊥) → Says (C2 why)) → IsOfChecking had left failed start Says (of_lines fault)
  stops_reading mid now taken IsText (Text texts.Memory) window fails says = absurd fails
  stops_reading mid now taken IsText (Text fault) window fails says = (fails.0, ComesWithin-after had mid left start now taken window (refuses_within mid left now IsText fails.1), says fault (λ e. cc) (λ no. no))
  stops_reading mid now taken IsText Device window fails says = (fails.0, ComesWithin-after had mid left start now taken window fails.1)
  stops_reading mid now taken IsText TooLong window fails says = (fails.0, Exceeds-after had mid left start now taken window fails.1)
  stops_reading mid now taken IsText Memory window fails says = (fails.0, ComesWithin-after had mid left start now taken window fails.1)

module _ (problem : Instance) (target : Label) (had left : Option (List ℕ)) (failed : Bool) (start : PartReading) where
  -- why judging a part stopped
  pub stops_judging : (Because : Type 0) (fault : LemmaFault) → failed ≡ false → ComesWithin had left start.buffer → IsRefusedFor Because fault → (Because → (parts : List Part) (last : JudgeState) → AwaitsParts had start parts → ShowParts problem target first_state parts last → ⊥) →
      (Because → (bytes : List ℕ) → had ≡ Some bytes → HasBadPart problem target start first_state (start.buffer.bytes ++ bytes)) → IsOfChecking had left failed start.buffer (HasPartRefusal problem target had start) fault
  stops_judging Because (faults.Refused (C2 fault)) works comes is none bad = absurd is
  stops_judging Because (faults.Refused C3) works comes is none bad = absurd is
  stops_judging Because (faults.Refused C4) works comes is none bad = absurd is
  stops_judging Because (faults.Refused (C6 line)) works comes is none bad = (works, comes, ((λ e. cc), none is, bad is))
  stops_judging Because (faults.Refused (C7 line)) works comes is none bad = (works, comes, ((λ e. cc), none is, bad is))
  stops_judging Because (faults.Refused (C8 line)) works comes is none bad = (works, comes, ((λ e. cc), none is, bad is))
  stops_judging Because (faults.Refused (C9 line)) works comes is none bad = (works, comes, ((λ e. cc), none is, bad is))
  stops_judging Because (faults.Refused (C10 line)) works comes is none bad = (works, comes, ((λ e. cc), none is, bad is))
  stops_judging Because faults.Device works comes is none bad = absurd is
  stops_judging Because faults.TooLong works comes is none bad = absurd is
  stops_judging Because faults.Memory works comes is none bad = (works, comes)

-- where reading or judging a part ended with this error
pub not_judged_on : (problem : Instance) (target : Label) (had left : Option (List ℕ)) (failed : Bool) (start reading : PartReading) (state : JudgeState) (result : Result Bool LemmaFault) (fault : LemmaFault) → IsErrAnd result (λ given. given ≡ fault) →
    IsOfChecking had left failed start.buffer (HasPartRefusal problem target had start) fault → IsJudgedOn problem target had left failed start reading state result
not_judged_on problem target had left failed start reading state (Ok more) fault is stops = absurd is
not_judged_on problem target had left failed start reading state (Err given) fault is stops = record {
  read = tt;
  came = tt;
  stops = subst (λ (f : LemmaFault). IsOfChecking had left failed start.buffer (HasPartRefusal problem target had start) f) (sym is) stops;
}

-- an error that is passed on
pub err_passed : {A E : Type 0} (r : Result A E) (P : E → Type 0) (e : E) → IsErrAnd r (λ y. y ≡ e) → P e → IfErr r P
err_passed (Ok x) P e is holds = tt
err_passed (Err y) P e is holds = subst P (sym is) holds
