-- Rows: one line more of a list of lines.
use Rattle.std.proofs.Common.{◌≡◌, ℕ, ◌<◌, ◌≤◌, ◌+◌, Bool, List, [], ◌∷◌, ◌++◌, Some, length, get_or, take, drop, map, sym, ap, subst, ◌∙◌, arith, append_assoc, length-drop, below_more}
use Rattle.std.specs.List.{concat}
use Rattle.std.proofs.lemmas.List.{append-nil, map-append, drop_more, take_more}
use Rattle.mapf_text.specs.Maps.{flag_of, HasRows, HasBodyFault, HasUnknownAt}
use Rattle.mapf_text.specs.declared.map_fault.MapFault.TheVariants.{M7, M8}

-- the line at a place, and the lines before and after it
pub record IsLineAt (lines : List (List ℕ)) (y : ℕ) (line : List ℕ) (rest : List (List ℕ)) : Type 0 where
  pub within : y < length lines
  pub at : get_or lines y [] ≡ line
  pub front : take (y + 1) lines ≡ take y lines ++ (line ∷ [])
  pub back : drop (y + 1) lines ≡ rest

pub line_at : (lines : List (List ℕ)) (y : ℕ) (line : List ℕ) (rest : List (List ℕ)) → drop y lines ≡ line ∷ rest → IsLineAt lines y line rest
line_at lines y line rest e =
    let left = length-drop y lines in
    let some = ap length e in
    let within : y < length lines = omega arith in
    let next = sym (drop_more lines y [] within) ∙ e in
    let at : get_or lines y [] ≡ line = cc in
    record { within = within; at = at; front = take_more lines y [] within ∙ ap (λ l. take y lines ++ (l ∷ [])) at; back = cc }

-- no line is left
pub no_line_at : (lines : List (List ℕ)) (y : ℕ) → drop y lines ≡ [] → length lines ≤ y
no_line_at lines y e = omega (arith, length-drop y lines, ap length e)

pub concat-push : (rows : List (List ℕ)) (row : List ℕ) → concat (rows ++ (row ∷ [])) ≡ concat rows ++ row
concat-push [] row = append-nil row
concat-push (x ∷ rows) row = ap (λ l. x ++ l) (concat-push rows row) ∙ sym (append_assoc x (concat rows) row)

-- one row more
pub rows-push : (lines : List (List ℕ)) (y width : ℕ) (free more : List Bool) (row : List ℕ) (rest : List (List ℕ)) → HasRows lines y width free → IsLineAt lines y row rest → length row ≡ width
    → map Some more ≡ map Some free ++ map flag_of row → HasRows lines (y + 1) width more
rows-push lines y width free more row rest rows line wide flags = record {
  enough = omega (arith, line.within);
  widths = below_more _ _ rows.widths (ap length line.at ∙ wide);
  flags = ap (λ l. map flag_of (concat l)) line.front ∙ ap (map flag_of) (concat-push (take y lines) row) ∙ map-append flag_of (concat (take y lines)) row ∙ ap (λ l. l ++ map flag_of row) rows.flags ∙ sym flags;
}

-- the text ends after so many rows
pub too_few : (lines : List (List ℕ)) (y height width : ℕ) (free : List Bool) → y < height → HasRows lines y width free → drop y lines ≡ [] → HasBodyFault height width lines (M8 y)
too_few lines y height width free below rows none =
    let at_most = no_line_at lines y none in
    let enough = rows.enough in
    (below, omega arith, (free, rows))

-- a byte of the row is no cell
pub unknown_at : (lines : List (List ℕ)) (x y height width : ℕ) (free : List Bool) (row : List ℕ) (rest : List (List ℕ)) → y < height → HasRows lines y width free → IsLineAt lines y row rest → length row ≡ width
    → HasUnknownAt row x → HasBodyFault height width lines (M7 x y)
unknown_at lines x y height width free row rest below rows line wide unknown =
    (below, line.within, (free, rows), ap length line.at ∙ wide, subst (λ (r : List ℕ). HasUnknownAt r x) (sym line.at) unknown)
