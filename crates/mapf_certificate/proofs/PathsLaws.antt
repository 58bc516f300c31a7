-- The paths of a plan, read one after another.
use Rattle.std.proofs.Common.{◌≡◌, ℕ, ◌<◌, ◌+◌, ◌-◌, true, List, [], ◌∷◌, ◌++◌, codes, length, Ok, refl, sym, ap, subst, ◌∙◌, arith, append_assoc, append-nil, length-append, All}
use Rattle.std.proofs.lemmas.List.Elements.{All-append, All-tail}
use Rattle.std.proofs.lemmas.List.Sums.{sum_by-append}
use Rattle.mapf_model.specs.Printed.{IsOnGrid, IsPathInRange}
use Rattle.mapf_fields.specs.Numbers.{field, pair}
use Rattle.mapf_fields.specs.Ends.{lacks_end}
use Rattle.mapf_fields.proofs.Plain.{plain-field, plain-pair, lacks-append}
use Rattle.mapf_certificate.specs.declared.sizes.Sizes.{Sizes}
use Rattle.mapf_certificate.specs.Lines.{grid_for}
use Rattle.mapf_certificate.specs.Plans.{cells_text, path_words, path_text, paths_text, ticks_of, ArePaths, PathsGoOn}
use Rattle.mapf_certificate.specs.PlanReading.{next_line}
use Rattle.mapf_certificate.proofs.PlanParts.{line_takes, line_again}
use Rattle.mapf_certificate.proofs.PathLaws.{All-middle, All-one}

cells_lack : (sizes : Sizes) (cells : List ℕ) → All (IsOnGrid (grid_for sizes)) cells → lacks_end (cells_text sizes.width cells) ≡ true
cells_lack sizes [] all = refl
cells_lack sizes (c ∷ cells) all =
    let inside = All-middle (IsOnGrid (grid_for sizes)) [] c cells all in
    lacks-append (pair sizes.width c) (cells_text sizes.width cells) (plain-pair sizes.width sizes.height c sizes.narrow.0 sizes.narrow.1 sizes.low.1 inside).ends
    (cells_lack sizes cells (All-tail (IsOnGrid (grid_for sizes)) c cells all))

pub path_lacks : (sizes : Sizes) (due : ℕ) (path : List ℕ) → due < sizes.agents → IsPathInRange (grid_for sizes) path → lacks_end (path_words sizes.width due path) ≡ true
path_lacks sizes due path less is =
    lacks-append (codes "path") (field 32 due ++ (field 32 (ticks_of path) ++ cells_text sizes.width path)) refl
    (lacks-append (field 32 due) (field 32 (ticks_of path) ++ cells_text sizes.width path) (plain-field 32 3 due refl (omega arith) (omega (arith, sizes.few.1)) (omega (arith, sizes.few.1))).ends
    (lacks-append (field 32 (ticks_of path)) (cells_text sizes.width path) (plain-field 32 7 (ticks_of path) refl (omega arith) (omega (arith, is.some, is.short)) (omega (arith, is.short))).ends
    (cells_lack sizes path is.on_grid)))

-- a plan that goes on with a path goes on after it with the others
pub record GoesOnWith (sizes : Sizes) (due : ℕ) (plan paths : List (List ℕ)) (rest left : List ℕ) : Type 0 where
  pub path : List ℕ
  pub after : List ℕ
  pub in_range : IsPathInRange (grid_for sizes) path
  pub read : (n : ℕ) → next_line n left ≡ Ok (path_words sizes.width due path, after)
  pub then : PathsGoOn sizes.width (due + 1) plan (paths ++ (path ∷ [])) rest after

pub paths_go_on_step : (sizes : Sizes) (due : ℕ) (plan paths : List (List ℕ)) (rest left : List ℕ) → length plan ≡ sizes.agents → length paths ≡ due → due < sizes.agents → All (IsPathInRange (grid_for sizes)) plan
    → PathsGoOn sizes.width due plan paths rest left → GoesOnWith sizes due plan paths rest left
paths_go_on_step sizes due plan paths rest left whole count less all on = by on.others on.same on.spelled
  where
    by : (others : List (List ℕ)) → plan ≡ paths ++ others → left ≡ paths_text sizes.width due others ++ rest → GoesOnWith sizes due plan paths rest left
    by [] same spelled = absurd (omega (arith, ap length same, length-append {A = List ℕ} paths []))
    by (p ∷ others) same spelled =
        let width = sizes.width in
        let is = All-middle (IsPathInRange (grid_for sizes)) paths p others (subst (All (IsPathInRange (grid_for sizes))) same all) in
        let after = paths_text width (due + 1) others ++ rest in
        let text : left ≡ path_words width due p ++ (10 ∷ after) =
        spelled ∙ append_assoc (path_text width due p) (paths_text width (due + 1) others) rest ∙ append_assoc (path_words width due p) (10 ∷ []) after in
        record {
          path = p;
          after = after;
          in_range = is;
          read = λ n. ap (next_line n) text ∙ line_again n (path_words width due p) after (path_lacks sizes due p less is);
          then = record { others = others; same = same ∙ sym (append_assoc paths (p ∷ []) others); spelled = refl };
        }

paths_text-push : (width k : ℕ) (paths : List (List ℕ)) (p : List ℕ) → paths_text width k (paths ++ (p ∷ [])) ≡ paths_text width k paths ++ path_text width (k + length paths) p
paths_text-push width k [] p =
    let same : k + 0 ≡ k = omega arith in
    append-nil (path_text width k p) ∙ ap (λ j. path_text width j p) (sym same)
paths_text-push width k (q ∷ paths) p =
    let same : (k + 1) + length paths ≡ k + length (q ∷ paths) = omega arith in
    ap (λ t. path_text width k q ++ t) (paths_text-push width (k + 1) paths p ∙ ap (λ j. paths_text width (k + 1) paths ++ path_text width j p) same)
    ∙ sym (append_assoc (path_text width k q) (paths_text width (k + 1) paths) (path_text width (k + length (q ∷ paths)) p))

pub are_paths_step : (sizes : Sizes) (due sum n : ℕ) (bytes rest line after path : List ℕ) (paths new : List (List ℕ)) → ArePaths (grid_for sizes) due bytes paths sum rest → next_line n rest ≡ Ok (line, after)
    → IsPathInRange (grid_for sizes) path → line ≡ path_words sizes.width due path → new ≡ paths ++ (path ∷ []) → ArePaths (grid_for sizes) (due + 1) bytes new (sum + (length path - 1)) after
are_paths_step sizes due sum n bytes rest line after path paths new are read is words grown =
    let width = sizes.width in
    let cut = line_takes n rest (line, after) read in
    let last : rest ≡ path_text width due path ++ after = cut.same ∙ ap (λ l. l ++ (10 ∷ after)) words ∙ sym (append_assoc (path_words width due path) (10 ∷ []) after) in
    let place : 0 + length paths ≡ due = omega (arith, are.count) in
    let all : ArePaths (grid_for sizes) (due + 1) bytes (paths ++ (path ∷ [])) (sum + (length path - 1)) after = record {
      count = omega (arith, are.count, length-append paths (path ∷ []));
      in_range = All-append (IsPathInRange (grid_for sizes)) paths (path ∷ []) are.in_range (All-one (IsPathInRange (grid_for sizes)) path is);
      costs = omega (arith, are.costs, sum_by-append ticks_of paths (path ∷ []));
      spelled = are.spelled ∙ ap (λ r. paths_text width 0 paths ++ r) last ∙ sym (append_assoc (paths_text width 0 paths) (path_text width due path) after)
          ∙ ap (λ t. t ++ after) (ap (λ j. paths_text width 0 paths ++ path_text width j path) (sym place) ∙ sym (paths_text-push width 0 paths path));
    } in
    subst (λ (l : List (List ℕ)). ArePaths (grid_for sizes) (due + 1) bytes l (sum + (length path - 1)) after) (sym grown) all
