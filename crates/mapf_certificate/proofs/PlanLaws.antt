-- Lines of a plan text: what is read is spelled so, and what is spelled so is read.
use Rattle.std.proofs.Common.{◌≡◌, ℕ, ◌<◌, ◌^◌, ◌==◌, true, false, cond, List, [], ◌∷◌, ◌++◌, codes, length, Option, Some, None, Result, Ok, Err, refl, ap, sym, subst, ◌∙◌, arith, inl, inr}
use Rattle.std.specs.Fmt.{decimal}
use Rattle.std.specs.Option.{option_map_or}
use Rattle.std.specs.Str.{bytes_eq}
use Rattle.std.specs.Str.Parse.{AllDigits}
use Rattle.std.proofs.lemmas.Bool.Decides.{nat_tests}
use Rattle.std.proofs.lemmas.Fmt.{decimal_is_IsNumeral, decimal_nonempty}
use Rattle.std.proofs.lemmas.Slice.Eq.{bytes_eq-Decides}
use Rattle.std.proofs.lemmas.Str.Parse.{digit_from_value}
use Rattle.mapf_model.specs.declared.cause.Cause.{Cause}
use Rattle.mapf_model.specs.declared.cause.Cause.TheVariants.{Splits, Ticks}
use Rattle.mapf_fields.specs.declared.fault.LineFault.{LineFault}
use Rattle.mapf_fields.specs.declared.fault.LineFault.TheVariants.{Shape}
use Rattle.mapf_fields.specs.Numbers.{◌>>=◌, field, strip, read_field, read_last, in_range}
use Rattle.mapf_fields.specs.Ends.{lacks_end}
use Rattle.mapf_fields.proofs.Binds.{guarded, through, same_ok, chosen, then_ok}
use Rattle.mapf_fields.proofs.Strips.{front_takes}
use Rattle.mapf_fields.proofs.Fields.{IsPastDigits, field_again, last_again, range_again, field_range, last_range}
use Rattle.mapf_fields.proofs.Plain.{IsPlain, plain-append, plain-more, plain-word, plain-field}
use Rattle.mapf_certificate.specs.declared.plan_lines.AnswerLine.{AnswerLine}
use Rattle.mapf_certificate.specs.declared.plan_lines.AnswerLine.TheVariants as answers
use Rattle.mapf_certificate.specs.declared.plan_lines.CauseWord.{CauseWord}
use Rattle.mapf_certificate.specs.declared.plan_lines.CauseWord.TheVariants as causes
use Rattle.mapf_certificate.specs.declared.version.Version.{Version}
use Rattle.mapf_certificate.specs.declared.version.Version.TheVariants.{One, Two}
use Rattle.mapf_certificate.specs.Lines.{IsAgentCount}
use Rattle.mapf_certificate.specs.LineReading.{read_count, read_cost}
use Rattle.mapf_certificate.specs.Plans.{plan_title, cause_words, IsCauseInRange}
use Rattle.mapf_certificate.specs.PlanReading.{agents_words, bound_words, answer_words, IsBoundOfVersion, IsAnswerLine}
use Rattle.mapf_certificate.specs.PlanReading.{read_plan_title, read_agents_line, read_cause, cause_in_range, read_bound, bound_in_range, read_limit, read_answer_line}
use Rattle.mapf_certificate.proofs.LineLaws.{count_takes, cost_takes, count_again, cost_again}

pub title_takes : (bs : List ℕ) (version : Version) → read_plan_title bs ≡ Ok version → bs ≡ plan_title version
unfolding read_plan_title
title_takes bs version e = elim (chosen (bytes_eq bs (codes "mapf-plan 1")) _ _ _ e) [
  | inl (found, same) ↦ subst (λ (v : Version). bs ≡ plan_title v) (same_ok One version same) ((bytes_eq-Decides bs (codes "mapf-plan 1")).0 found)
  | inr more ↦
      let (found, same) = guarded (bytes_eq bs (codes "mapf-plan 2")) Shape (Ok Two) version more in
      subst (λ (v : Version). bs ≡ plan_title v) (same_ok Two version same) ((bytes_eq-Decides bs (codes "mapf-plan 2")).0 found)
]

pub title_again : (version : Version) → read_plan_title (plan_title version) ≡ Ok version
unfolding read_plan_title
title_again One = refl
title_again Two = refl

pub agents_takes : (bs : List ℕ) (n : ℕ) → read_agents_line bs ≡ Ok n → IsAgentCount n × (bs ≡ agents_words n)
unfolding read_agents_line
agents_takes bs n e =
    front_takes (λ b. IsAgentCount n × (b ≡ agents_words n)) (codes "agents") bs read_count (Err Shape) n
    (λ rest made. let (text, ranged) = count_takes rest n made in (ranged, ap (λ r. codes "agents" ++ r) text))
    (λ wrong. cc) e

pub agents_again : (n : ℕ) → IsAgentCount n → read_agents_line (agents_words n) ≡ Ok n
unfolding read_agents_line
agents_again n is = count_again n is

abbrev TakesAnswer : Version → List ℕ → AnswerLine → Type 0
TakesAnswer version bs answer = IsAnswerLine version answer × (bs ≡ answer_words answer)

cause_takes : (bs : List ℕ) (p : CauseWord × List ℕ) (cause : Cause) → read_cause bs ≡ Ok p → cause_in_range p.0 ≡ Ok cause → (bs ≡ cause_words cause ++ p.1) × IsCauseInRange cause
unfolding read_cause
cause_takes bs p cause e ranged =
    front_takes (λ b. (b ≡ cause_words cause ++ p.1) × IsCauseInRange cause) (codes " ticks") bs _ _ p
    (λ rest made.
    let whole : (causes.Ticks, rest) ≡ p = same_ok _ p made in
    let ticks : ◌≡◌ {A = Result Cause LineFault} (Ok Ticks) (Ok cause) = ap (λ (q : CauseWord × List ℕ). cause_in_range q.0) whole ∙ ranged in
    subst (λ (c : Cause). (codes " ticks" ++ rest ≡ cause_words c ++ p.1) × IsCauseInRange c) (same_ok Ticks cause ticks) (ap (λ (q : CauseWord × List ℕ). codes " ticks" ++ q.1) whole, tt))
    (λ other. through (read_field 32 bs) _ p other (λ count read made.
    let whole : (causes.Splits count.0, count.1) ≡ p = same_ok _ p made in
    let splits : (in_range 0 100000 count.0 >>= λ n. Ok (Splits n)) ≡ Ok cause = ap (λ (q : CauseWord × List ℕ). cause_in_range q.0) whole ∙ ranged in
    through (in_range 0 100000 count.0) _ cause splits (λ n is done.
    let (text, low, high) = field_range 32 0 100000 bs count n read is in
    subst (λ (c : Cause). (bs ≡ cause_words c ++ p.1) × IsCauseInRange c) (same_ok _ cause done) (text ∙ ap (λ (q : CauseWord × List ℕ). field 32 n ++ q.1) whole, high))))
    e

bound_takes : (version : Version) (bs : List ℕ) (v : Option (Option ℕ)) (bound : Option ℕ) → read_bound version bs ≡ Ok v → bound_in_range v ≡ Ok bound → (bs ≡ bound_words bound) × IsBoundOfVersion version bound
unfolding read_bound
bound_takes One [] v bound read ranged =
    let made : ◌≡◌ {A = Result (Option ℕ) LineFault} (Ok None) (Ok bound) = ap bound_in_range (same_ok None v read) ∙ ranged in
    let is = same_ok None bound made in
    (ap bound_words is, sym is)
bound_takes One (b ∷ bs) v bound read ranged = cc
bound_takes Two bs v bound read ranged =
    front_takes (λ b. (b ≡ bound_words bound) × IsBoundOfVersion Two bound) (codes " bound") bs _ (Err Shape) v
    (λ rest told. through (read_last 32 rest) _ v told (λ w last made.
    let number : (in_range 0 1999999800 w >>= λ n. Ok (Some n)) ≡ Ok bound = ap bound_in_range (same_ok _ v made) ∙ ranged in
    through (in_range 0 1999999800 w) _ bound number (λ n is done.
    let (text, low, high) = last_range 32 0 1999999800 rest w n last is in
    subst (λ (o : Option ℕ). (codes " bound" ++ rest ≡ bound_words o) × IsBoundOfVersion Two o) (same_ok _ bound done) (ap (λ r. codes " bound" ++ r) text, high))))
    (λ wrong. cc) read

limit_takes : (version : Version) (bs : List ℕ) (answer : AnswerLine) → read_limit version bs ≡ Ok answer → TakesAnswer version (codes "limit" ++ bs) answer
unfolding read_limit
limit_takes version bs answer e =
    through (read_cause bs) _ answer e (λ word read1 more1.
    through (read_bound version word.1) _ answer more1 (λ told read2 more2.
    through (cause_in_range word.0) _ answer more2 (λ cause is1 more3.
    through (bound_in_range told) _ answer more3 (λ bound is2 made.
    let (text1, in1) = cause_takes bs word cause read1 is1 in
    let (text2, in2) = bound_takes version word.1 told bound read2 is2 in
    let text = text1 ∙ ap (λ r. cause_words cause ++ r) text2 in
    subst (TakesAnswer version (codes "limit" ++ bs)) (same_ok _ answer made) ((in1, in2), ap (λ r. codes "limit" ++ r) text)))))

pub answer_takes : (version : Version) (bs : List ℕ) (answer : AnswerLine) → read_answer_line version bs ≡ Ok answer → IsAnswerLine version answer × (bs ≡ answer_words answer)
unfolding read_answer_line
answer_takes version bs answer e = elim (chosen (bytes_eq bs (codes "impossible")) _ _ _ e) [
  | inl (found, same) ↦ subst (TakesAnswer version bs) (same_ok answers.Impossible answer same) (tt, (bytes_eq-Decides bs (codes "impossible")).0 found)
  | inr more ↦
      front_takes (λ b. TakesAnswer version b answer) (codes "cost") bs _ _ answer
      (λ rest made. through (read_cost rest) _ answer made (λ n is done.
      let (text, high) = cost_takes rest n is in
      subst (TakesAnswer version (codes "cost" ++ rest)) (same_ok _ answer done) (high, ap (λ r. codes "cost" ++ r) text)))
      (front_takes (λ b. TakesAnswer version b answer) (codes "limit") bs (read_limit version) (Err Shape) answer (λ rest. limit_takes version rest answer) (λ wrong. cc)) more
]

-- a number isn't the word `ticks`
not_ticks : (n : ℕ) (rest : List ℕ) → n < 2 ^ 64 → strip (codes " ticks") (field 32 n ++ rest) ≡ None
not_ticks n rest fits = by (decimal n) (decimal_nonempty n fits) (decimal_is_IsNumeral n fits).0.1
  where
    by : (ds : List ℕ) → 0 < length ds → AllDigits 10 ds → strip (codes " ticks") ((32 ∷ ds) ++ rest) ≡ None
    by [] some all = absurd (omega arith)
    by (d ∷ ds) some all =
        let range = digit_from_value d all.0 in
        let no : (116 == d) ≡ false = grind (arith, nat_tests) in
        ap (λ b. cond b (strip (codes "icks") (ds ++ rest)) None) no

cause_again : (cause : Cause) (rest : List ℕ) → IsCauseInRange cause → IsPastDigits rest → (word : CauseWord) × (read_cause (cause_words cause ++ rest) ≡ Ok (word, rest)) × (cause_in_range word ≡ Ok cause)
unfolding read_cause
cause_again Ticks rest is past = (causes.Ticks, refl, refl)
cause_again (Splits n) rest is past =
    let fits : n < 2 ^ 64 = omega arith in
    let number = not_ticks n rest fits in
    let ranged : (in_range 0 100000 (Some n) >>= λ m. Ok (Splits m)) ≡ Ok (Splits n) = then_ok _ _ _ _ (range_again 0 100000 n (omega arith) is) refl in
    let read : (read_field 32 (field 32 n ++ rest) >>= λ count. Ok (causes.Splits count.0, count.1)) ≡ Ok (causes.Splits (Some n), rest) = then_ok _ _ _ _ (field_again 32 n rest fits past) refl in
    (causes.Splits (Some n), ap (λ o. option_map_or (λ r. Ok (causes.Ticks, r)) o (read_field 32 (field 32 n ++ rest) >>= λ count. Ok (causes.Splits count.0, count.1))) number ∙ read, ranged)

bound_again : (version : Version) (bound : Option ℕ) → IsBoundOfVersion version bound → (told : Option (Option ℕ)) × (read_bound version (bound_words bound) ≡ Ok told) × (bound_in_range told ≡ Ok bound)
unfolding read_bound
bound_again One None is = (None, refl, refl)
bound_again One (Some n) is = cc
bound_again Two None is = absurd is
bound_again Two (Some n) is =
    (Some (Some n), then_ok _ _ _ _ (last_again 32 n (omega arith)) refl, then_ok _ _ _ _ (range_again 0 1999999800 n (omega arith) is) refl)

bound_past : (bound : Option ℕ) → IsPastDigits (bound_words bound)
bound_past None = tt
bound_past (Some n) = refl

limit_again : (version : Version) (cause : Cause) (bound : Option ℕ) → IsCauseInRange cause → IsBoundOfVersion version bound → read_limit version (cause_words cause ++ bound_words bound) ≡ Ok (answers.Limit cause bound)
unfolding read_limit
limit_again version cause bound few may =
    let (word, read1, is1) = cause_again cause (bound_words bound) few (bound_past bound) in
    let (told, read2, is2) = bound_again version bound may in
    then_ok _ _ _ _ read1
    (then_ok _ _ _ _ read2
    (then_ok _ _ _ _ is1
    (then_ok _ _ _ _ is2 refl)))

pub answer_again : (version : Version) (answer : AnswerLine) → IsAnswerLine version answer → read_answer_line version (answer_words answer) ≡ Ok answer
unfolding read_answer_line
answer_again version (answers.Cost n) is = then_ok _ _ _ _ (cost_again n is) refl
answer_again version answers.Impossible is = refl
answer_again version (answers.Limit cause bound) (few, may) = limit_again version cause bound few may

-- no LF in them

pub title_lacks : (version : Version) → lacks_end (plan_title version) ≡ true
title_lacks One = refl
title_lacks Two = refl

pub agents_lack : (n : ℕ) → IsAgentCount n → lacks_end (agents_words n) ≡ true
agents_lack n (low, high) = (plain-append 6 4 _ _ (plain-word (codes "agents") 6 refl refl) (plain-field 32 3 n refl (omega arith) (omega arith) (omega arith))).ends

plain-cause : (cause : Cause) → IsCauseInRange cause → IsPlain 7 (cause_words cause)
plain-cause (Splits n) is = plain-field 32 6 n refl (omega arith) (omega arith) (omega arith)
plain-cause Ticks is = plain-more 6 7 _ (omega arith) (plain-word (codes " ticks") 6 refl refl)

plain-bound : (version : Version) (bound : Option ℕ) → IsBoundOfVersion version bound → IsPlain 17 (bound_words bound)
plain-bound version None is = record { ends = refl; short = omega arith }
plain-bound One (Some n) is = cc
plain-bound Two (Some n) is = plain-append 6 11 _ _ (plain-word (codes " bound") 6 refl refl) (plain-field 32 10 n refl (omega arith) (omega arith) (omega arith))

pub answer_lacks : (version : Version) (answer : AnswerLine) → IsAnswerLine version answer → lacks_end (answer_words answer) ≡ true
answer_lacks version (answers.Cost n) is = (plain-append 4 11 _ _ (plain-word (codes "cost") 4 refl refl) (plain-field 32 10 n refl (omega arith) (omega arith) (omega arith))).ends
answer_lacks version answers.Impossible is = refl
answer_lacks version (answers.Limit cause bound) (few, may) = (plain-append 5 24 _ _ (plain-word (codes "limit") 5 refl refl) (plain-append 7 17 _ _ (plain-cause cause few) (plain-bound version bound may))).ends
