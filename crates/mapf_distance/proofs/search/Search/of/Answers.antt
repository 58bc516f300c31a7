use Rattle.std.proofs.Common.{◌≡◌, ◌*◌, ◌++◌, ◌∷◌, [], length, sym, ◌∙◌, ap, rules}
use Rattle.mapf_distance.proofs.SearchLemmas.{search_start}
use Rattle.mapf_distance.proofs.search.Search.of.Goals as goal

pub returns-clause-search : goal.returns-clause-search
returns-clause-search c =
    let grid = c.args.grid.now in
    let all = c.in_ok-vec.ensures.items_if_clones_equal (λ y h. search rules) in
    let count : c.width.result * c.height.result ≡ length grid.free = rw (c.width.ensures.width, c.height.ensures.height) (sym c.width.ensures.shape.4) in
    let pushed = c.in_ok-push.ensures.items ∙ ap (λ list. list ++ c.args.goal ∷ []) c.new.ensures.items in
    rw (c.manhattan_distance.ensures.exact, c.xy.ensures.column, c.xy.ensures.row, c.xy-2.ensures.column, c.xy-2.ensures.row, all, c.goal.view_is, pushed, c.new-2.ensures.items, c.new-3.ensures.items)
    (search_start grid c.args.start c.args.goal (c.width.result * c.height.result) c.width.ensures.shape c.requires.start c.requires.goal count)
