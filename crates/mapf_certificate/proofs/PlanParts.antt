-- Parts of a plan text: what is read is spelled so, and what is spelled so is read.
use Rattle.std.proofs.Common.{◌≡◌, ℕ, ◌<◌, ◌^◌, ◌*◌, Bool, true, false, cond, List, [], ◌∷◌, ◌++◌, codes, Option, Some, None, Result, Ok, Err, refl, ap, ◌∙◌}
use Rattle.std.specs.Str.{bytes_eq}
use Rattle.std.specs.Option.{option_map_or}
use Rattle.std.specs.Result.{result_ok}
use Rattle.std.proofs.lemmas.Slice.Eq.{bytes_eq-Decides}
use Rattle.mapf_fields.specs.declared.fault.LineFault.{LineFault}
use Rattle.mapf_fields.specs.declared.fault.LineFault.TheVariants.{Shape, Range}
use Rattle.mapf_fields.specs.Numbers.{field, pair, read_field, read_pair, read_cell}
use Rattle.mapf_fields.specs.Ends.{IsCut, lacks_end, cut}
use Rattle.mapf_fields.proofs.Binds.{through, same_ok, ok_pair_parts, then_ok}
use Rattle.mapf_fields.proofs.Strips.{front_takes}
use Rattle.mapf_fields.proofs.Fields.{pair_takes, field_takes, field_again, IsPastDigits}
use Rattle.mapf_fields.proofs.Cuts.{cut_is, cut_takes}
use Rattle.mapf_certificate.specs.declared.plan_text.PlanTextFault.TheVariants.{P1, P2}
use Rattle.mapf_certificate.specs.declared.plan_lines.AnswerLine.{AnswerLine}
use Rattle.mapf_certificate.specs.declared.version.Version.{Version}
use Rattle.mapf_certificate.specs.declared.sizes.Sizes.{Sizes}
use Rattle.mapf_certificate.specs.Lines.{IsAgentCount}
use Rattle.mapf_certificate.specs.Plans.{plan_title}
use Rattle.mapf_certificate.specs.PlanReading.{next_line, fault_at, next_words, next_title, next_agents, next_answer, nothing_after, read_end, read_pair_cell, read_path_front, something, agents_words, answer_words, IsAnswerLine, read_plan_title, read_agents_line, read_answer_line}
use Rattle.mapf_certificate.proofs.LineLaws.{pair_cell_again, cell_sizes_again}
use Rattle.mapf_certificate.proofs.PlanLaws.{title_takes, title_again, title_lacks, agents_takes, agents_again, answer_takes, answer_again, agents_lack, answer_lacks}

pub line_takes : (n : ℕ) (bs : List ℕ) (p : List ℕ × List ℕ) → next_line n bs ≡ Ok p → IsCut bs p.0 p.1
unfolding next_line
line_takes n bs p e = by (cut bs) refl e
  where
    by : (o : Option (List ℕ × List ℕ)) → cut bs ≡ o → option_map_or (λ q. Ok q) o (Err (P2 n)) ≡ Ok p → IsCut bs p.0 p.1
    by None is made = cc
    by (Some q) is made = cut_takes bs p.0 p.1 (is ∙ ap Some (same_ok q p made))

pub line_again : (n : ℕ) (line rest : List ℕ) → lacks_end line ≡ true → next_line n (line ++ (10 ∷ rest)) ≡ Ok (line, rest)
unfolding next_line
line_again n line rest lacks = ap (λ o. option_map_or (λ q. Ok q) o (Err (P2 n))) (cut_is (line ++ (10 ∷ rest)) line rest (record { same = refl; whole = lacks }))

pub words_take : (n : ℕ) (words bs rest : List ℕ) → next_words n words bs ≡ Ok rest → bs ≡ words ++ (10 ∷ rest)
unfolding next_words
words_take n words bs rest e =
    through (next_line n bs) _ rest e (λ p read more. by p (bytes_eq p.0 words) refl (line_takes n bs p read) more)
  where
    by : (p : List ℕ × List ℕ) (b : Bool) → bytes_eq p.0 words ≡ b → IsCut bs p.0 p.1 → cond b (Ok p.1) (Err (P1 n)) ≡ Ok rest → bs ≡ words ++ (10 ∷ rest)
    by p true t found made = found.same ∙ ap (λ l. l ++ (10 ∷ p.1)) ((bytes_eq-Decides p.0 words).0 t) ∙ ap (λ r. words ++ (10 ∷ r)) (same_ok p.1 rest made)
    by p false t found made = cc

pub words_again : (n : ℕ) (words rest : List ℕ) → lacks_end words ≡ true → next_words n words (words ++ (10 ∷ rest)) ≡ Ok rest
unfolding next_words
words_again n words rest lacks =
    let same : bytes_eq words words ≡ true = (bytes_eq-Decides words words).1 refl in
    then_ok _ _ _ _ (line_again n words rest lacks) (ap (λ b. cond b (Ok rest) (Err (P1 n))) same)

fault_takes : {A : Type 0} (n : ℕ) (r : Result A LineFault) (x : A) → fault_at n r ≡ Ok x → r ≡ Ok x
fault_takes n (Ok y) x e = ap Ok (same_ok y x e)
fault_takes n (Err Shape) x e = cc
fault_takes n (Err Range) x e = cc

pub next_title_takes : (bs rest : List ℕ) (version : Version) → next_title bs ≡ Ok (version, rest) → bs ≡ plan_title version ++ (10 ∷ rest)
unfolding next_title
next_title_takes bs rest version e =
    through (next_line 1 bs) _ (version, rest) e (λ p read more.
    through (fault_at 1 (read_plan_title p.0)) _ (version, rest) more (λ v is made.
    let found = line_takes 1 bs p read in
    let (value, after) = ok_pair_parts v version p.1 rest made in
    let text = title_takes p.0 version (fault_takes 1 (read_plan_title p.0) v is ∙ ap Ok value) in
    found.same ∙ ap (λ l. l ++ (10 ∷ p.1)) text ∙ ap (λ r. plan_title version ++ (10 ∷ r)) after))

pub next_title_again : (version : Version) (rest : List ℕ) → next_title (plan_title version ++ (10 ∷ rest)) ≡ Ok (version, rest)
unfolding next_title
next_title_again version rest =
    let read : fault_at 1 (read_plan_title (plan_title version)) ≡ Ok version = ap (fault_at 1) (title_again version) in
    then_ok _ _ _ _ (line_again 1 (plan_title version) rest (title_lacks version)) (then_ok _ _ _ _ read refl)

pub next_agents_takes : (bs rest : List ℕ) (k : ℕ) → next_agents bs ≡ Ok (k, rest) → IsAgentCount k × (bs ≡ agents_words k ++ (10 ∷ rest))
unfolding next_agents
next_agents_takes bs rest k e =
    through (next_line 2 bs) _ (k, rest) e (λ p read more.
    through (fault_at 2 (read_agents_line p.0)) _ (k, rest) more (λ n is made.
    let found = line_takes 2 bs p read in
    let (value, after) = ok_pair_parts n k p.1 rest made in
    let (ranged, text) = agents_takes p.0 k (fault_takes 2 (read_agents_line p.0) n is ∙ ap Ok value) in
    (ranged, found.same ∙ ap (λ l. l ++ (10 ∷ p.1)) text ∙ ap (λ r. agents_words k ++ (10 ∷ r)) after)))

pub next_agents_again : (k : ℕ) (rest : List ℕ) → IsAgentCount k → next_agents (agents_words k ++ (10 ∷ rest)) ≡ Ok (k, rest)
unfolding next_agents
next_agents_again k rest is =
    let read : fault_at 2 (read_agents_line (agents_words k)) ≡ Ok k = ap (fault_at 2) (agents_again k is) in
    then_ok _ _ _ _ (line_again 2 (agents_words k) rest (agents_lack k is)) (then_ok _ _ _ _ read refl)

pub next_answer_takes : (version : Version) (bs rest : List ℕ) (answer : AnswerLine) → next_answer version bs ≡ Ok (answer, rest) → IsAnswerLine version answer × (bs ≡ answer_words answer ++ (10 ∷ rest))
unfolding next_answer
next_answer_takes version bs rest answer e =
    through (next_line 3 bs) _ (answer, rest) e (λ p read more.
    through (fault_at 3 (read_answer_line version p.0)) _ (answer, rest) more (λ a is made.
    let found = line_takes 3 bs p read in
    let (value, after) = ok_pair_parts a answer p.1 rest made in
    let (ranged, text) = answer_takes version p.0 answer (fault_takes 3 (read_answer_line version p.0) a is ∙ ap Ok value) in
    (ranged, found.same ∙ ap (λ l. l ++ (10 ∷ p.1)) text ∙ ap (λ r. answer_words answer ++ (10 ∷ r)) after)))

pub next_answer_again : (version : Version) (answer : AnswerLine) (rest : List ℕ) → IsAnswerLine version answer → next_answer version (answer_words answer ++ (10 ∷ rest)) ≡ Ok (answer, rest)
unfolding next_answer
next_answer_again version answer rest is =
    let read : fault_at 3 (read_answer_line version (answer_words answer)) ≡ Ok answer = ap (fault_at 3) (answer_again version answer is) in
    then_ok _ _ _ _ (line_again 3 (answer_words answer) rest (answer_lacks version answer is)) (then_ok _ _ _ _ read refl)

nothing_takes : (n : ℕ) (bs : List ℕ) (u : Unit {0}) → nothing_after n bs ≡ Ok u → bs ≡ []
nothing_takes n [] u e = refl
nothing_takes n (b ∷ bs) u e = cc

pub end_takes : (n : ℕ) (bs : List ℕ) (u : Unit {0}) → read_end n bs ≡ Ok u → bs ≡ codes "end\n"
unfolding read_end
end_takes n bs u e =
    through (next_words n (codes "end") bs) _ u e (λ rest read more.
    words_take n (codes "end") bs rest read ∙ ap (λ r. codes "end" ++ (10 ∷ r)) (nothing_takes n rest u more))

pub end_again : (n : ℕ) → read_end n (codes "end\n") ≡ Ok tt
unfolding read_end
end_again n = then_ok _ _ _ _ (words_again n (codes "end") [] refl) refl

result_ok_takes : {A E : Type 0} (r : Result A E) (x : A) → result_ok r ≡ Some x → r ≡ Ok x
result_ok_takes (Ok y) x e = let same : y ≡ x = cc in ap Ok same
result_ok_takes (Err f) x e = cc

pub pair_cell_takes : (sizes : Sizes) (bs rest : List ℕ) (cell : ℕ) → read_pair_cell sizes bs ≡ Ok (Some cell, rest) → (bs ≡ pair sizes.width cell ++ rest) × (cell < sizes.width * sizes.height)
unfolding read_pair_cell
pair_cell_takes sizes bs rest cell e =
    through (read_pair bs) _ (Some cell, rest) e (λ p read made.
    let (value, after) = ok_pair_parts (result_ok (read_cell sizes.width sizes.height p.0 p.1)) (Some cell) p.2 rest made in
    let (text, inside) = pair_takes bs p sizes.width sizes.height cell read (result_ok_takes _ cell value) in
    (text ∙ ap (λ r. pair sizes.width cell ++ r) after, inside))

pub pair_cell_is_read : (sizes : Sizes) (cell : ℕ) (rest : List ℕ) → cell < sizes.width * sizes.height → IsPastDigits rest → read_pair_cell sizes (pair sizes.width cell ++ rest) ≡ Ok (Some cell, rest)
unfolding read_pair_cell
pair_cell_is_read sizes cell rest inside past =
    then_ok _ _ _ _ (pair_cell_again sizes cell rest inside past) (ap (λ r. Ok (result_ok r, rest)) (cell_sizes_again sizes cell inside))

something_takes : {A : Type 0} (x y : A) (bs : List ℕ) → something x bs ≡ Ok y → x ≡ y
something_takes x y [] e = cc
something_takes x y (b ∷ bs) e = same_ok x y e

pub path_front_takes : (bs : List ℕ) (agent cost : ℕ) (rest : List ℕ) → read_path_front bs ≡ Ok (Some agent, Some cost, rest) → bs ≡ codes "path" ++ (field 32 agent ++ (field 32 cost ++ rest))
unfolding read_path_front
path_front_takes bs agent cost rest e =
    front_takes (λ b. b ≡ codes "path" ++ (field 32 agent ++ (field 32 cost ++ rest))) (codes "path") bs _ (Err Shape) (Some agent, Some cost, rest)
    (λ after made. through (read_field 32 after) _ (Some agent, Some cost, rest) made (λ i read1 more1.
    through (read_field 32 i.1) _ (Some agent, Some cost, rest) more1 (λ c read2 more2.
    let all = something_takes (i.0, c.0, c.1) (Some agent, Some cost, rest) c.1 more2 in
    let (text1, _) = field_takes 32 after i.1 agent (read1 ∙ ap (λ v. Ok (v, i.1)) (ap (λ q. q.0) all)) in
    let (text2, _) = field_takes 32 i.1 rest cost (read2 ∙ ap (λ v. Ok (v, c.1)) (ap (λ q. q.1) all) ∙ ap (λ r. Ok (Some cost, r)) (ap (λ q. q.2) all)) in
    ap (λ r. codes "path" ++ r) (text1 ∙ ap (λ r. field 32 agent ++ r) text2))))
    (λ wrong. cc) e

pub path_front_again : (agent cost c : ℕ) (rest : List ℕ) → agent < 2 ^ 64 → cost < 2 ^ 64 → IsPastDigits (c ∷ rest) → read_path_front (codes "path" ++ (field 32 agent ++ (field 32 cost ++ (c ∷ rest)))) ≡ Ok (Some agent, Some cost, c ∷ rest)
unfolding read_path_front
path_front_again agent cost c rest fits fits' past =
    then_ok _ _ _ _ (field_again 32 agent (field 32 cost ++ (c ∷ rest)) fits refl) (then_ok _ _ _ _ (field_again 32 cost (c ∷ rest) fits' past) refl)
