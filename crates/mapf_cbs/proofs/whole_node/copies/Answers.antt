use Rattle.std.proofs.Common.{◌≡◌, ◌++◌, ◌∷◌, [], Some, length, length-append, slice_get, refl, arith}
use Rattle.std.proofs.lemmas.Option.{slice_get_read}
use Rattle.mapf_cbs.specs.declared.whole_node.AgentPath.{AgentPath}
use Rattle.mapf_cbs.specs.Whole.{IsCopy}
use Rattle.mapf_cbs.proofs.WholeLemmas.{each_more}
use Rattle.mapf_cbs.proofs.whole_node.copies.Goals as goal

pub loop-i-preserved : goal.loop-i-preserved
loop-i-preserved c =
    let all = c.loop-i.all.items in
    let so_many = c.loop-i.invariant.so_many in
    let pushed : c.push.new.self.items ≡ all ++ c.in_ok-copy.field-0 ∷ [] = c.in_ok-push.ensures.items in
    let longer = length-append all (c.in_ok-copy.field-0 ∷ []) in
    let here = slice_get_read c.args.agent_paths.now (length c.args.agent_paths.now) c.loop-i.i c.index-agent_paths-i.result refl c.loop-i-test.true c.index-agent_paths-i.is in
    record {
      so_many = rw pushed (omega (arith, so_many, longer));
      each = rw pushed (each_more (λ j copy. (agent_path : AgentPath) × (slice_get c.args.agent_paths.now j ≡ Some agent_path) × IsCopy agent_path copy) all c.in_ok-copy.field-0 c.loop-i.i so_many c.loop-i.invariant.each (c.index-agent_paths-i.result, here, c.in_ok-copy.ensures));
    }
