use Rattle.std.proofs.Common.{◌≡◌, ◌≢◌, ◌++◌, ◌∷◌, [], List, ℕ, Some, drop, length, length-append, slice_get, take, subst, refl, replicate, sym, ◌∙◌, ap, ⊎_elim, arith}
use Rattle.std.proofs.lemmas.Bool.{cases_eq}
use Rattle.std.proofs.lemmas.List.{map-id}
use Rattle.std.proofs.lemmas.Option.{slice_get_within, same_Some}
use Rattle.mapf_model.proofs.PlaceLemmas.{slice_get-front, slice_get-here}
use Rattle.mapf_conflicts.specs.Pairs.{cells_at}
use Rattle.mapf_conflicts.specs.Replacements.{AreRowsOf}
use Rattle.mapf_conflicts.proofs.ConflictLemmas.{written}
use Rattle.mapf_conflicts.proofs.base_paths.rows_of.Goals as goal

-- one more row, of the tick after those of the others
one_more : (paths rows : List (List ℕ)) (row : List ℕ) → AreRowsOf rows paths → take (length paths) row ≡ cells_at paths (length rows) → AreRowsOf (rows ++ row ∷ []) paths
one_more paths rows row are last tick other is =
    let size = length-append rows (row ∷ []) in
    let within = slice_get_within (rows ++ row ∷ []) tick other is in
    ⊎_elim
    (λ (here : tick ≡ length rows).
    let same = same_Some row other (sym (slice_get-here rows [] row) ∙ subst (λ n. slice_get (rows ++ row ∷ []) n ≡ Some other) here is) in
    ap (take (length paths)) (sym same) ∙ last ∙ ap (cells_at paths) (sym here))
    (λ (before : tick ≢ length rows). are tick other (sym (slice_get-front rows (row ∷ []) tick (omega (arith, size, within, before))) ∙ is))
    (cases_eq tick (length rows))

pub loop-tick-preserved : goal.loop-tick-preserved
loop-tick-preserved c =
    let paths = c.args.paths.now in
    let rows = c.loop-tick.rows.items in
    let count = c.loop-tick.invariant.count in
    let row = c.write_cells.new.cells ++ drop (length paths) (replicate 200 0) in
    let pushed : c.push.new.self.items ≡ rows ++ row ∷ [] = c.in_ok-push.ensures.items in
    let longer = length-append rows (row ∷ []) in
    record {
      count = rw pushed (omega (arith, count, longer));
      rows = rw pushed (one_more paths rows row c.loop-tick.invariant.rows
          (written paths (length paths) (length rows) c.write_cells.new.cells (drop (length paths) (replicate 200 0)) refl (c.write_cells.ensures ∙ ap (λ listed. cells_at listed c.loop-tick.tick) (c.of.ensures ∙ map-id paths) ∙ ap (cells_at paths) (sym count))));
    }
