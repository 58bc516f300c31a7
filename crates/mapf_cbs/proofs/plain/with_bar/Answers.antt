use Rattle.mapf_cbs.proofs.GeneratedChildLemmas.{bars_with}
use Rattle.mapf_cbs.proofs.WholeLemmas.{bars_swap}
use Rattle.mapf_cbs.proofs.plain.with_bar.Goals as goal

pub returns : goal.returns
returns c = bars_with c.args.bars.now c.in_ok-all.all c.add.new.self c.args.bar (bars_swap c.in_ok-all.all c.args.bars.now c.in_ok-all.ensures) c.in_ok-add.ensures.added
