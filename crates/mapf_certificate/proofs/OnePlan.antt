-- Plan texts are spelled apart.
use Rattle.std.proofs.Common.{◌≡◌, ℕ, ◌<◌, ◌+◌, List, [], ◌∷◌, ◌++◌, length, All, Some, None, refl, sym, ap, ◌∙◌, arith, append_assoc}
use Rattle.std.proofs.lemmas.List.Elements.{All-head, All-tail}
use Rattle.mapf_model.specs.Printed.{IsOnGrid, IsPathInRange}
use Rattle.mapf_fields.proofs.Binds.{ok_pair_parts, ok_triple_parts, ok_four_parts}
use Rattle.mapf_fields.proofs.Plain.{same_front}
use Rattle.mapf_certificate.specs.Lines.{grid_for}
use Rattle.mapf_fields.specs.declared.fault.LineFault.{LineFault}
use Rattle.mapf_certificate.specs.declared.plan_text.PlanAnswer.{PlanAnswer}
use Rattle.mapf_certificate.specs.declared.plan_text.PlanAnswer.TheVariants as texts
use Rattle.mapf_certificate.specs.declared.plan_text.PlanTextFault.{PlanTextFault}
use Rattle.mapf_certificate.specs.declared.plan_lines.AnswerLine.TheVariants as answers
use Rattle.mapf_certificate.specs.declared.sizes.Sizes.{Sizes}
use Rattle.mapf_certificate.specs.Plans.{SpellsOnePlan, IsAnswerInRange, cells_text, path_words, paths_text, ticks_of}
use Rattle.mapf_certificate.specs.PlanReading.{read_pair_cell, read_path_front, line_of, rest_of}
use Rattle.mapf_certificate.proofs.PathLaws.{cells_past, front_read}
use Rattle.mapf_certificate.proofs.PathsLaws.{path_lacks}
use Rattle.mapf_certificate.proofs.PlanParts.{pair_cell_is_read}
use Rattle.mapf_certificate.proofs.PlanTexts.{answer_moved, limits_same, header_of}

-- cells with the same text are the same
cells_same : (sizes : Sizes) (xs ys : List ℕ) → All (IsOnGrid (grid_for sizes)) xs → All (IsOnGrid (grid_for sizes)) ys → cells_text sizes.width xs ≡ cells_text sizes.width ys → xs ≡ ys
cells_same sizes [] [] p q e = refl
cells_same sizes [] (y ∷ ys) p q e = cc
cells_same sizes (x ∷ xs) [] p q e = cc
cells_same sizes (x ∷ xs) (y ∷ ys) p q e =
    let width = sizes.width in
    let On = IsOnGrid (grid_for sizes) in
    let first = pair_cell_is_read sizes x (cells_text width xs) (All-head On x xs p) (cells_past width xs) in
    let second = pair_cell_is_read sizes y (cells_text width ys) (All-head On y ys q) (cells_past width ys) in
    let (one, rest) = ok_pair_parts {E = LineFault} (Some x) (Some y) (cells_text width xs) (cells_text width ys) (sym first ∙ ap (read_pair_cell sizes) e ∙ second) in
    let more : xs ≡ ys = cells_same sizes xs ys (All-tail On x xs p) (All-tail On y ys q) rest in
    cc

-- paths with the same line are the same
path_same : (sizes : Sizes) (due : ℕ) (p q : List ℕ) → due < sizes.agents → IsPathInRange (grid_for sizes) p → IsPathInRange (grid_for sizes) q → path_words sizes.width due p ≡ path_words sizes.width due q → p ≡ q
path_same sizes due p q less is_p is_q e =
    let width = sizes.width in
    let first = front_read width due p is_p.some is_p.short (omega (arith, sizes.few.1)) in
    let second = front_read width due q is_q.some is_q.short (omega (arith, sizes.few.1)) in
    let (agent, cost, cells) = ok_triple_parts {E = LineFault} (Some due) (Some due) (Some (ticks_of p)) (Some (ticks_of q)) (cells_text width p) (cells_text width q) (sym first ∙ ap read_path_front e ∙ second) in
    cells_same sizes p q is_p.on_grid is_q.on_grid cells

-- lists of paths with the same lines are the same
paths_same : (sizes : Sizes) (due : ℕ) (ps qs : List (List ℕ)) (s t : List ℕ) → due + length ps ≡ sizes.agents → length ps ≡ length qs → All (IsPathInRange (grid_for sizes)) ps → All (IsPathInRange (grid_for sizes)) qs
    → paths_text sizes.width due ps ++ s ≡ paths_text sizes.width due qs ++ t → ps ≡ qs
paths_same sizes due [] [] s t whole many all_p all_q e = refl
paths_same sizes due [] (q ∷ qs) s t whole many all_p all_q e = absurd (omega arith)
paths_same sizes due (p ∷ ps) [] s t whole many all_p all_q e = absurd (omega arith)
paths_same sizes due (p ∷ ps) (q ∷ qs) s t whole many all_p all_q e =
    let width = sizes.width in
    let In = IsPathInRange (grid_for sizes) in
    let is_p = All-head In p ps all_p in
    let is_q = All-head In q qs all_q in
    let less : due < sizes.agents = omega arith in
    let (words, rest) = same_front (path_words width due p) (path_words width due q) (paths_text width (due + 1) ps ++ s) (paths_text width (due + 1) qs ++ t) (path_lacks sizes due p less is_p) (path_lacks sizes due q less is_q)
    (sym (cut p ps s) ∙ e ∙ cut q qs t) in
    let head : p ≡ q = path_same sizes due p q less is_p is_q words in
    let tail : ps ≡ qs = paths_same sizes (due + 1) ps qs s t (omega arith) (omega arith) (All-tail In p ps all_p) (All-tail In q qs all_q) rest in
    cc
  where
    cut : (x : List ℕ) (xs : List (List ℕ)) (u : List ℕ) → paths_text sizes.width due (x ∷ xs) ++ u ≡ path_words sizes.width due x ++ (10 ∷ (paths_text sizes.width (due + 1) xs ++ u))
    cut x xs u =
        append_assoc (path_words sizes.width due x ++ (10 ∷ [])) (paths_text sizes.width (due + 1) xs) u ∙ append_assoc (path_words sizes.width due x) (10 ∷ []) (paths_text sizes.width (due + 1) xs ++ u)

-- answers with the same lines are the same
answers_same : (sizes : Sizes) (a b : PlanAnswer) → IsAnswerInRange (grid_for sizes) sizes.agents a → IsAnswerInRange (grid_for sizes) sizes.agents b → line_of a ≡ line_of b → rest_of sizes.width a ≡ rest_of sizes.width b → a ≡ b
answers_same sizes (texts.Found p) (texts.Found q) is_a is_b line rest = ap texts.Found (paths_same sizes 0 p q _ _ (omega (arith, is_a.0)) (omega (arith, is_a.0, is_b.0)) is_a.1 is_b.1 rest)
answers_same sizes (texts.Found p) texts.Impossible is_a is_b line rest = cc
answers_same sizes (texts.Found p) (texts.Limit cause) is_a is_b line rest = cc
answers_same sizes (texts.Found p) (texts.Bounded cause bound) is_a is_b line rest = cc
answers_same sizes texts.Impossible b is_a is_b line rest = limits_same texts.Impossible b (λ cost e. let wrong : answers.Impossible ≡ answers.Cost cost = e in cc) line
answers_same sizes (texts.Limit cause) b is_a is_b line rest = limits_same (texts.Limit cause) b (λ cost e. let wrong : answers.Limit cause None ≡ answers.Cost cost = e in cc) line
answers_same sizes (texts.Bounded cause bound) b is_a is_b line rest = limits_same (texts.Bounded cause bound) b (λ cost e. let wrong : answers.Limit cause (Some bound) ≡ answers.Cost cost = e in cc) line

-- on one grid no bytes spell two plan texts
pub one_plan : SpellsOnePlan
one_plan grid bytes text other is fits fits' spelled spelled' =
    let (narrow, narrow', low, low', free) = is in
    let sizes : Sizes = record { version = text.version; width = grid.width; height = grid.height; agents = text.agents; narrow = (narrow, narrow'); low = (low, low'); few = fits.0 } in
    let first = header_of grid text bytes fits spelled in
    let second = header_of grid other bytes fits' spelled' in
    let (versions, counts, line, rest) = ok_four_parts {E = PlanTextFault} text.version other.version text.agents other.agents (line_of text.answer) (line_of other.answer) (rest_of grid.width text.answer) (rest_of grid.width other.answer) (sym first ∙ second) in
    let is_text = answer_moved grid (grid_for sizes) text.agents sizes.agents text.answer refl refl refl fits.1 in
    let is_other = answer_moved grid (grid_for sizes) other.agents sizes.agents other.answer refl refl (sym counts) fits'.1 in
    let same : text.answer ≡ other.answer = answers_same sizes text.answer other.answer is_text is_other line rest in
    λ k. record { version = versions k; agents = counts k; answer = same k }
