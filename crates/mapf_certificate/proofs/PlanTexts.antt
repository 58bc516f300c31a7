-- Whole plan texts: the first three lines, and what follows them.
use Rattle.std.proofs.Common.{◌≡◌, ◌≢◌, ℕ, ◌<◌, ◌≤◌, ◌*◌, List, [], ◌∷◌, ◌++◌, codes, length, Option, Some, None, Ok, refl, ap, sym, subst, ◌∙◌, arith, append_assoc, All}
use Rattle.std.proofs.lemmas.List.Elements.{All-head, All-tail, All-weaker}
use Rattle.std.proofs.lemmas.List.Sums.{sum_by-append}
use Rattle.mapf_model.specs.declared.cause.Cause.{Cause}
use Rattle.mapf_model.specs.Grid.{GridMap}
use Rattle.mapf_model.specs.Printed.{IsPathInRange}
use Rattle.mapf_fields.specs.Numbers.{field}
use Rattle.mapf_fields.proofs.Binds.{through, same_ok, then_ok}
use Rattle.mapf_certificate.specs.declared.plan_text.PlanText.{PlanText}
use Rattle.mapf_certificate.specs.declared.plan_text.PlanAnswer.{PlanAnswer}
use Rattle.mapf_certificate.specs.declared.plan_text.PlanAnswer.TheVariants as texts
use Rattle.mapf_certificate.specs.declared.plan_lines.AnswerLine.{AnswerLine}
use Rattle.mapf_certificate.specs.declared.plan_lines.AnswerLine.TheVariants as answers
use Rattle.mapf_certificate.specs.declared.version.Version.{Version}
use Rattle.mapf_certificate.specs.declared.version.Version.TheVariants.{One, Two}
use Rattle.mapf_certificate.specs.Lines.{IsAgentCount}
use Rattle.mapf_certificate.specs.Plans.{paths_text, cost_of, ticks_of, plan_title, cause_words, answer_text, plan_text, IsAnswerInRange, IsAnswerOfVersion, IsPlanText}
use Rattle.mapf_certificate.specs.PlanReading.{next_title, next_agents, next_answer, agents_words, answer_words, IsBoundOfVersion, IsAnswerLine, read_header, line_of, rest_of}
use Rattle.mapf_certificate.proofs.PlanParts.{next_title_takes, next_title_again, next_agents_takes, next_agents_again, next_answer_takes, next_answer_again}

-- three lines, and what follows
abbrev pub headed : Version → ℕ → AnswerLine → List ℕ → List ℕ
headed version agents line rest = plan_title version ++ (10 ∷ (agents_words agents ++ (10 ∷ (answer_words line ++ (10 ∷ rest)))))

abbrev Headed : List ℕ → Version × ℕ × AnswerLine × List ℕ → Type 0
Headed bs p = IsAgentCount p.1 × IsAnswerLine p.0 p.2 × (bs ≡ headed p.0 p.1 p.2 p.3)

pub header_takes : (bs : List ℕ) (p : Version × ℕ × AnswerLine × List ℕ) → read_header bs ≡ Ok p → IsAgentCount p.1 × IsAnswerLine p.0 p.2 × (bs ≡ headed p.0 p.1 p.2 p.3)
unfolding read_header
header_takes bs p e =
    through (next_title bs) _ p e (λ t read1 more1.
    through (next_agents t.1) _ p more1 (λ k read2 more2.
    through (next_answer t.0 k.1) _ p more2 (λ a read3 made.
    let title = next_title_takes bs t.1 t.0 read1 in
    let (counted, agents) = next_agents_takes t.1 k.1 k.0 read2 in
    let (ranged, answer) = next_answer_takes t.0 k.1 a.1 a.0 read3 in
    subst (Headed bs) (same_ok _ p made) (counted, ranged, title ∙ ap (λ u. plan_title t.0 ++ (10 ∷ u)) (agents ∙ ap (λ u. agents_words k.0 ++ (10 ∷ u)) answer)))))

pub header_again : (version : Version) (agents : ℕ) (line : AnswerLine) (rest : List ℕ) → IsAgentCount agents → IsAnswerLine version line → read_header (headed version agents line rest) ≡ Ok (version, agents, line, rest)
unfolding read_header
header_again version agents line rest counted ranged =
    then_ok _ _ _ _ (next_title_again version (agents_words agents ++ (10 ∷ (answer_words line ++ (10 ∷ rest)))))
    (then_ok _ _ _ _ (next_agents_again agents (answer_words line ++ (10 ∷ rest)) counted)
    (then_ok _ _ _ _ (next_answer_again version line rest ranged) refl))

-- an answer's text is its line and what follows it
answer_is : (width : ℕ) (answer : PlanAnswer) → answer_text width answer ++ codes "end\n" ≡ answer_words (line_of answer) ++ (10 ∷ rest_of width answer)
answer_is width (texts.Found plan) =
    let cost = field 32 (cost_of plan) in
    append_assoc (codes "cost" ++ (cost ++ (10 ∷ []))) (paths_text width 0 plan) (codes "end\n") ∙ ap (λ t. codes "cost" ++ t) (append_assoc cost (10 ∷ []) (paths_text width 0 plan ++ codes "end\n"))
answer_is width texts.Impossible = refl
answer_is width (texts.Limit cause) =
    let words = cause_words cause in
    ap (λ t. codes "limit" ++ t) (append_assoc words (10 ∷ []) (codes "end\n") ∙ sym (append_assoc words [] (10 ∷ codes "end\n")))
answer_is width (texts.Bounded cause bound) =
    let words = cause_words cause in
    let number = field 32 bound in
    let last : (number ++ (10 ∷ [])) ++ codes "end\n" ≡ number ++ (10 ∷ codes "end\n") = append_assoc number (10 ∷ []) (codes "end\n") in
    ap (λ t. codes "limit" ++ t) (append_assoc words (codes " bound" ++ (number ++ (10 ∷ []))) (codes "end\n")
    ∙ ap (λ t. words ++ (codes " bound" ++ t)) last
    ∙ sym (append_assoc words (codes " bound" ++ number) (10 ∷ codes "end\n")))

pub text_is : (width : ℕ) (p : PlanText) → plan_text width p ≡ headed p.version p.agents (line_of p.answer) (rest_of width p.answer)
text_is width p =
    let agents = field 32 p.agents in
    ap (λ t. plan_title p.version ++ (10 ∷ t)) (ap (λ t. codes "agents" ++ t) (append_assoc agents (10 ∷ []) (answer_text width p.answer ++ codes "end\n")) ∙ ap (λ t. codes "agents" ++ (agents ++ (10 ∷ t))) (answer_is width p.answer))

-- a plan's cost is in its range
cost_small : (grid : GridMap) (plan : List (List ℕ)) → All (IsPathInRange grid) plan → cost_of plan ≤ 9999999 * length plan
cost_small grid [] all = omega arith
cost_small grid (path ∷ plan) all =
    let first = All-head (IsPathInRange grid) path plan all in
    let more = cost_small grid plan (All-tail (IsPathInRange grid) path plan all) in
    omega (arith, sum_by-append ticks_of (path ∷ []) plan, first.short, more)

pub line_in_range : (grid : GridMap) (version : Version) (agents : ℕ) (answer : PlanAnswer) → agents ≤ 200 → IsAnswerInRange grid agents answer → IsAnswerOfVersion version answer → IsAnswerLine version (line_of answer)
line_in_range grid version agents (texts.Found plan) few is may = omega (arith, cost_small grid plan is.1, is.0)
line_in_range grid version agents texts.Impossible few is may = tt
line_in_range grid version agents (texts.Limit cause) few is may = (is, subst (λ (v : Version). IsBoundOfVersion v None) (sym may) refl)
line_in_range grid version agents (texts.Bounded cause bound) few is may = (is.0, subst (λ (v : Version). IsBoundOfVersion v (Some bound)) (sym may) is.1)

-- where a plan goes, its grid's size alone counts
pub path_moved : (g h : GridMap) (path : List ℕ) → g.width ≡ h.width → g.height ≡ h.height → IsPathInRange g path → IsPathInRange h path
path_moved g h path w t is = record {
  some = is.some;
  short = is.short;
  on_grid = let P : ℕ → Type 0 = λ n. All (λ cell. cell < n) path in subst P (ap (λ n. n * g.height) w ∙ ap (λ n. h.width * n) t) is.on_grid;
  tight = is.tight;
}

pub answer_moved : (g h : GridMap) (a b : ℕ) (answer : PlanAnswer) → g.width ≡ h.width → g.height ≡ h.height → a ≡ b → IsAnswerInRange g a answer → IsAnswerInRange h b answer
answer_moved g h a b (texts.Found plan) w t same is = (is.0 ∙ same, All-weaker (IsPathInRange g) (IsPathInRange h) (λ path. path_moved g h path w t) plan is.1)
answer_moved g h a b texts.Impossible w t same is = tt
answer_moved g h a b (texts.Limit cause) w t same is = is
answer_moved g h a b (texts.Bounded cause bound) w t same is = is

-- `end` alone follows a line that is no cost
pub end_of : (width : ℕ) (line : AnswerLine) (answer : PlanAnswer) → ((cost : ℕ) → line ≢ answers.Cost cost) → line ≡ line_of answer → rest_of width answer ≡ codes "end\n"
end_of width line (texts.Found plan) other same = absurd (other (cost_of plan) same)
end_of width line texts.Impossible other same = refl
end_of width line (texts.Limit cause) other same = refl
end_of width line (texts.Bounded cause bound) other same = refl

-- a bound in a line is in its range, and of version 2
bound_in_text : (version : Version) (bound : ℕ) → IsBoundOfVersion version (Some bound) → (bound ≤ 1999999800) × (version ≡ Two)
bound_in_text One bound is = cc
bound_in_text Two bound is = (is, refl)

no_bound_in_text : (version : Version) → IsBoundOfVersion version None → version ≡ One
no_bound_in_text One is = refl
no_bound_in_text Two is = absurd is

-- an answer whose line is no cost is in its range where its line is
pub limit_in_range : (grid : GridMap) (version : Version) (agents : ℕ) (answer : PlanAnswer) → ((cost : ℕ) → line_of answer ≢ answers.Cost cost) → IsAnswerLine version (line_of answer) → IsAnswerInRange grid agents answer
limit_in_range grid version agents (texts.Found plan) other is = absurd (other (cost_of plan) refl)
limit_in_range grid version agents texts.Impossible other is = tt
limit_in_range grid version agents (texts.Limit cause) other is = is.0
limit_in_range grid version agents (texts.Bounded cause bound) other is = (is.0, (bound_in_text version bound is.1).0)

-- an answer is of the version that its line is of
pub answer_of_version : (version : Version) (answer : PlanAnswer) → IsAnswerLine version (line_of answer) → IsAnswerOfVersion version answer
answer_of_version version (texts.Found plan) is = tt
answer_of_version version texts.Impossible is = tt
answer_of_version version (texts.Limit cause) is = no_bound_in_text version is.1
answer_of_version version (texts.Bounded cause bound) is = (bound_in_text version bound is.1).1

causes_same : (a b : Cause) (x y : Option ℕ) → answers.Limit a x ≡ answers.Limit b y → a ≡ b
causes_same a b x y e = cc

bounds_same : (a b : Cause) (x y : ℕ) → answers.Limit a (Some x) ≡ answers.Limit b (Some y) → x ≡ y
bounds_same a b x y e = cc

-- limits with the same line are the same
pub limits_same : (a b : PlanAnswer) → ((cost : ℕ) → line_of a ≢ answers.Cost cost) → line_of a ≡ line_of b → a ≡ b
limits_same (texts.Found p) b other line = absurd (other (cost_of p) refl)
limits_same texts.Impossible texts.Impossible other line = refl
limits_same (texts.Limit cause) (texts.Limit cause') other line = ap texts.Limit (causes_same cause cause' None None line)
limits_same (texts.Bounded cause bound) (texts.Bounded cause' bound') other line =
    ap (λ (c : Cause). texts.Bounded c bound) (causes_same cause cause' (Some bound) (Some bound') line) ∙ ap (texts.Bounded cause') (bounds_same cause cause' bound bound' line)
limits_same a b other line = cc

-- what a spelled text's first lines are read to
pub header_of : (grid : GridMap) (p : PlanText) (bs : List ℕ) → IsPlanText grid p → bs ≡ plan_text grid.width p → read_header bs ≡ Ok (p.version, p.agents, line_of p.answer, rest_of grid.width p.answer)
header_of grid p bs is e =
    ap read_header (e ∙ text_is grid.width p) ∙ header_again p.version p.agents (line_of p.answer) (rest_of grid.width p.answer) is.0 (line_in_range grid p.version p.agents p.answer is.0.1 is.1 is.2)
