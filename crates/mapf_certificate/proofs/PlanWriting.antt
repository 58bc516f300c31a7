-- The parts in which a plan text is written.
use Rattle.std.proofs.Common.{◌≡◌, ℕ, suc, ◌+◌, ◌<◌, List, ◌++◌, length, drop, get_or, append_assoc, ap, sym, ◌∙◌, arith}
use Rattle.std.proofs.Math.Seq.{drop-cons}
use Rattle.mapf_certificate.specs.Plans.{path_text, paths_text}

-- the path of this agent, and those of the later ones
pub paths_next : (width k : ℕ) (paths : List (List ℕ)) (path : List ℕ) → k < length paths → path ≡ get_or paths k path → paths_text width k (drop k paths) ≡ path_text width k path ++ paths_text width (k + 1) (drop (k + 1) paths)
paths_next width k paths path inside is =
    let count : suc k ≡ k + 1 = omega arith in
    ap (paths_text width k) (drop-cons paths k path inside) ∙ ap (λ p. path_text width k p ++ paths_text width (k + 1) (drop (suc k) paths)) (sym is) ∙ ap (λ n. path_text width k path ++ paths_text width (k + 1) (drop n paths)) count

-- a line's word and two fields, then the rest of it and its end
pub line_parts : (word first second rest end : List ℕ) → (word ++ (first ++ second)) ++ (rest ++ end) ≡ (word ++ (first ++ (second ++ rest))) ++ end
line_parts word first second rest end =
    append_assoc word (first ++ second) (rest ++ end)
    ∙ ap (λ x. word ++ x) (append_assoc first second (rest ++ end) ∙ ap (λ x. first ++ x) (sym (append_assoc second rest end)) ∙ sym (append_assoc first (second ++ rest) end))
    ∙ sym (append_assoc word (first ++ (second ++ rest)) end)

pub pushed_parts : (page word first second : List ℕ) → (page ++ (word ++ first)) ++ second ≡ page ++ (word ++ (first ++ second))
pushed_parts page word first second = append_assoc page (word ++ first) second ∙ ap (λ x. page ++ x) (append_assoc word first second)
