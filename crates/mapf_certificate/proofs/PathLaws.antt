-- The pairs of a path's line, and the paths of a plan, read one after another.
use Rattle.std.proofs.Common.{◌≡◌, ◌≢◌, ℕ, ◌<◌, ◌≤◌, ◌^◌, ◌/◌, ◌%◌, Bool, true, false, List, [], ◌∷◌, ◌++◌, length, Option, Some, Ok, refl, sym, ap, subst, ◌∙◌, arith, append_assoc, append-nil, All, ◌==◌, suc, zero}
use Rattle.std.proofs.lemmas.List.Elements.{All-append}
use Rattle.std.proofs.lemmas.Grind.{flat_map-append, common_steps}
use Rattle.mapf_model.specs.Printed.{IsOnGrid}
use Rattle.mapf_fields.specs.Numbers.{field, pair, read_field, read_pair}
use Rattle.mapf_fields.proofs.Binds.{through, same_ok, ok_pair_parts}
use Rattle.mapf_fields.proofs.Fields.{IsPastDigits, field_shorter}
use Rattle.mapf_certificate.specs.declared.sizes.Sizes.{Sizes}
use Rattle.mapf_certificate.specs.Lines.{grid_for}
use Rattle.std.specs.Fmt.{decimal}
use Rattle.mapf_certificate.specs.Plans.{cells_text, path_words, ticks_of, HasCells, GoesOn}
use Rattle.mapf_certificate.specs.PlanReading.{read_pair_cell, read_path_front}
use Rattle.mapf_certificate.proofs.PlanParts.{pair_cell_takes, pair_cell_is_read, path_front_again}

-- a fact of each element is one of the element in the middle, and of those before and after it
pub All-middle : {X : Type 0} (P : X → Type 0) (xs : List X) (y : X) (ys : List X) → All P (xs ++ (y ∷ ys)) → P y
All-middle P [] y ys all = all 0 y (omega arith)
All-middle P (x ∷ xs) y ys all = All-middle P xs y ys (λ k d h. all (suc k) d (omega arith))

pub All-one : {X : Type 0} (P : X → Type 0) (y : X) → P y → All P (y ∷ [])
All-one P y h zero d less = h
All-one P y h (suc k) d less = absurd (omega arith)

pub cells_past : (width : ℕ) (cells : List ℕ) → IsPastDigits (cells_text width cells)
cells_past width [] = tt
cells_past width (c ∷ cells) = refl

pub pair_cell_shorter : (sizes : Sizes) (bs rest : List ℕ) (v : Option ℕ) → read_pair_cell sizes bs ≡ Ok (v, rest) → length rest < length bs
unfolding read_pair_cell read_pair
pair_cell_shorter sizes bs rest v e =
    through (read_pair bs) _ (v, rest) e (λ p read made.
    through (read_field 32 bs) _ p read (λ x first more.
    through (read_field 44 x.1) _ p more (λ y second done.
    let (value, after) = ok_pair_parts _ v p.2 rest made in
    let whole = same_ok _ p done in
    omega (arith, ap length after, ap (λ q. length q.2) whole, field_shorter 32 bs x.1 x.0 first, field_shorter 44 x.1 y.1 y.0 second))))

-- a path that goes on with a cell goes on after it with the others
pub goes_on_step : (sizes : Sizes) (path cells rest : List ℕ) → All (IsOnGrid (grid_for sizes)) path → GoesOn sizes.width path cells rest → rest ≢ []
    → (cell : ℕ) × (after : List ℕ) × (read_pair_cell sizes rest ≡ Ok (Some cell, after)) × GoesOn sizes.width path (cells ++ (cell ∷ [])) after
goes_on_step sizes path cells rest all on some = by on.others on.same on.spelled
  where
    by : (others : List ℕ) → path ≡ cells ++ others → rest ≡ cells_text sizes.width others → (cell : ℕ) × (after : List ℕ) × (read_pair_cell sizes rest ≡ Ok (Some cell, after)) × GoesOn sizes.width path (cells ++ (cell ∷ [])) after
    by [] same spelled = absurd (some spelled)
    by (c ∷ others) same spelled =
        let inside = All-middle (IsOnGrid (grid_for sizes)) cells c others (subst (All (IsOnGrid (grid_for sizes))) same all) in (
          c,
          cells_text sizes.width others,
          ap (read_pair_cell sizes) spelled ∙ pair_cell_is_read sizes c (cells_text sizes.width others) inside (cells_past sizes.width others),
          record { others = others; same = same ∙ sym (append_assoc cells (c ∷ []) others); spelled = refl },
        )

-- at the end there are no others
pub goes_on_end : (width : ℕ) (path cells : List ℕ) → GoesOn width path cells [] → path ≡ cells
goes_on_end width path cells on = by on.others on.same on.spelled
  where
    by : (others : List ℕ) → path ≡ cells ++ others → [] ≡ cells_text width others → path ≡ cells
    by [] same spelled = same ∙ append-nil cells
    by (c ∷ others) same spelled = cc

pub has_cells_step : (sizes : Sizes) (bytes cells rest after : List ℕ) (cell : ℕ) → HasCells (grid_for sizes) bytes cells rest → read_pair_cell sizes rest ≡ Ok (Some cell, after) → HasCells (grid_for sizes) bytes (cells ++ (cell ∷ [])) after
has_cells_step sizes bytes cells rest after cell has read =
    let (text, inside) = pair_cell_takes sizes rest after cell read in
    let width = sizes.width in
    record {
      in_range = All-append (IsOnGrid (grid_for sizes)) cells (cell ∷ []) has.in_range (All-one (IsOnGrid (grid_for sizes)) cell inside);
      spelled = has.spelled ∙ ap (λ r. cells_text width cells ++ r) text ∙ sym (append_assoc (cells_text width cells) (pair width cell) after)
          ∙ ap (λ t. t ++ after) (ap (λ t. cells_text width cells ++ t) (sym (append-nil (pair width cell))) ∙ sym (flat_map-append (pair width) cells (cell ∷ [])));
    }

pub not_empty : (xs : List ℕ) (b : Bool) → b ≡ (length xs == 0) → b ≡ false → xs ≢ []
not_empty [] b e t = cc
not_empty (x ∷ xs) b e t = λ same. cc

pub is_empty : (xs : List ℕ) (b : Bool) → b ≡ (length xs == 0) → b ≡ true → xs ≡ []
is_empty [] b e t = refl
is_empty (x ∷ xs) b e t = let wrong : (length (x ∷ xs) == 0) ≡ true = sym e ∙ t in grind (arith, common_steps)

-- the line of a path begins with its agent and its cost
pub front_read : (width due : ℕ) (path : List ℕ) → 1 ≤ length path → length path ≤ 10000000 → due < 2 ^ 64 → read_path_front (path_words width due path) ≡ Ok (Some due, Some (ticks_of path), cells_text width path)
front_read width due [] some few fits = absurd (omega arith)
front_read width due (c ∷ cells) some few fits =
    path_front_again due (ticks_of (c ∷ cells)) 32 ((decimal (c % width) ++ field 44 (c / width)) ++ cells_text width cells) fits (omega arith) refl
