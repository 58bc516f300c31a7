use Rattle.mapf_cbs.proofs.WholeLemmas.{copies_with}
use Rattle.mapf_cbs.proofs.whole_node.agent_paths_with.Goals as goal

pub returns : goal.returns
returns c = copies_with c.args.agent_paths.now c.in_ok-all.all.items c.args.agent c.args.agent_path c.requires c.in_ok-all.ensures
