use Rattle.std.proofs.Common.{◌≡◌, ◌<◌, ◌≤◌, ℕ, List, get_or, length, map, subst, sym, ap, ◌∙◌, ⊎_elim, arith}
use Rattle.std.proofs.lemmas.Bool.{cases_lt}
use Rattle.std.proofs.lemmas.Grind.{common_steps}
use Rattle.std.proofs.lemmas.List.{get_or-map}
use Rattle.mapf_conflicts.proofs.path_list.longest.Goals as goal

-- the cells of the item at the last index so far
last_path : {P : Type 0} (cells : P → List ℕ) (paths : List P) (i k : ℕ) (d : List ℕ) (path : P) → k ≡ i → i < length paths → path ≡ get_or paths i path → get_or (map cells paths) k d ≡ cells path
last_path cells paths i k d path same within is =
    subst (λ n. get_or (map cells paths) n d ≡ cells path) (sym same)
    (get_or-map cells paths i path d within ∙ ap cells (sym is))

pub loop-path-preserved : goal.loop-path-preserved
loop-path-preserved g c =
    let cells = g.P.AsPath.cells in
    let i = c.loop-path.path-index in
    let size = ap length c.as_path.ensures in
    let old : c.loop-path.longest ≤ c.max-longest.result = grind (arith, common_steps, c.max-longest.ensures) in
    let new : length (cells c.path-item.result) ≤ c.max-longest.result = grind (arith, common_steps, c.max-longest.ensures, c.cells.ensures.value, size) in
    record {
      longest = λ k d below. ⊎_elim
          (λ (earlier : k < i). let before = c.loop-path.invariant.longest k d earlier in omega (arith, before, old))
          (λ (last : i ≤ k). let is = ap length (last_path cells c.args.paths.now i k d c.path-item.result (omega (arith, last, below)) c.loop-path-test.true c.path-item.is) in omega (arith, is, new))
          (cases_lt k i);
      positive = let before = c.loop-path.invariant.positive in omega (arith, before, old);
      bounded = grind (arith, common_steps, c.max-longest.ensures, c.loop-path.invariant.bounded, c.cells.ensures.few);
    }
