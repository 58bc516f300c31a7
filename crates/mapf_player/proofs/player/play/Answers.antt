use Rattle.std.proofs.Common.{refl}
use Rattle.mapf_player.specs.Play.{play_text, IsPlayText}
use Rattle.mapf_fields.proofs.Prefixes.{to_some, to_take}
use Rattle.mapf_player.proofs.player.play.Goals as goal

pub returns-clause-text : goal.returns-clause-text
returns-clause-text g c =
    let text = rw (c.grid.ensures, c.paths.ensures.value) at c.write_text.ensures.text in
    to_some _ _ _ (play_text c.args.problem.now.grid c.args.plan.now c.makespan_of-makespan.result) (IsPlayText c.args.problem.now c.args.plan.now) (c.makespan_of-makespan.result, c.makespan_of-makespan.ensures, refl) text

pub returns-clause-front : goal.returns-clause-front
returns-clause-front g c =
    let front = rw (c.grid.ensures, c.paths.ensures.value) at c.write_text.ensures.text in
    to_take _ _ _ (play_text c.args.problem.now.grid c.args.plan.now c.makespan_of-makespan.result) (IsPlayText c.args.problem.now c.args.plan.now) (c.makespan_of-makespan.result, c.makespan_of-makespan.ensures, refl) front
