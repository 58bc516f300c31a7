use Rattle.std.proofs.Common.{◌∙◌}
use Rattle.mapf_player.proofs.RowLemmas.{row_drawn}
use Rattle.mapf_player.proofs.row.draw_row.Goals as goal

pub returns : goal.returns
returns c = row_drawn c.args.grid.now c.args.paths.now c.args.tick c.args.y c.fill_terrain.new.row c.mark_agents.new.row (c.mark_agents.auto.row ∙ c.fill_terrain.auto.row ∙ c.requires.whole) c.fill_terrain.ensures c.mark_agents.ensures
