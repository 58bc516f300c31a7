use Rattle.std.proofs.Common.{◌%◌, ◌/◌, ◌∙◌, ap, arith}
use Rattle.mapf_distance.proofs.SearchLemmas.{seen_all}
use Rattle.mapf_distance.specs.Search.{open_of}
use Rattle.mapf_distance.proofs.search.Search.look_at.Goals as goal

pub returns-else-entry-manhattan_distance-clause-search : goal.returns-else-entry-manhattan_distance-clause-search
returns-else-entry-manhattan_distance-clause-search c =
    let self = c.args.self.now in
    let cell = c.args.cell in
    let aim = c.requires.aim in
    let at_column = c.xy-at.ensures.column ∙ ap (λ w. cell % w) aim.wide in
    let at_row = c.xy-at.ensures.row ∙ ap (λ w. cell / w) aim.wide in
    let aim_column = aim.column in
    let aim_row = aim.row in
    let far = c.manhattan_distance.ensures.exact in
    let entry = c.entry.ensures in
    seen_all c.args.grid.now self.start self.goal self.level self.table.items (open_of self) self.later.items cell c.requires.search.0
    (c.requires.passed (λ is_level. c.if-entry-manhattan_distance.false (omega arith)))
