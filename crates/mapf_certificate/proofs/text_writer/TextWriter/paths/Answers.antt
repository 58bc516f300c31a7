use Rattle.std.proofs.Common.{rules, ◌++◌, ◌+◌, drop, append_assoc, ap, sym, ◌∙◌}
use Rattle.mapf_fields.proofs.Prefixes.{fails, passes_trans, prefix_after, prefix_held, same_prefix, same_passes}
use Rattle.mapf_certificate.specs.Plans.{path_text, paths_text}
use Rattle.mapf_certificate.proofs.PlanWriting.{paths_next}
use Rattle.mapf_certificate.proofs.text_writer.TextWriter.paths.Goals as goal

pub returns-in_err-path-clause-text : goal.returns-in_err-path-clause-text
returns-in_err-path-clause-text g c =
    let width = c.args.self.now.width in let k = c.loop-agent.agent in let paths = c.args.paths.now in let path = c.index-paths-agent.result in
    let before = c.loop-agent.invariant in
    let more = paths_text width (k + 1) (drop (k + 1) paths) in
    let next = paths_next width k paths path c.loop-agent-test.true c.index-paths-agent.is in
    fails _ _ _ _ _ _ _ c.from_residual.ensures.1 (same_prefix _ _ _ _ (paths_text width 0 paths) (ap (λ u. before.so_far ++ u) (sym next) ∙ before.rest)
    (prefix_after _ _ _ _ _ before.so_far (path_text width k path ++ more) before.text (prefix_held _ _ _ (path_text width k path) more (same_prefix _ _ _ _ (path_text width k path) (ap (λ w. path_text w k path) before.width) c.in_err-path.ensures.text))))

pub loop-agent-preserved : goal.loop-agent-preserved
loop-agent-preserved g c =
    let width = c.args.self.now.width in let k = c.loop-agent.agent in let paths = c.args.paths.now in let path = c.index-paths-agent.result in
    let before = c.loop-agent.invariant in
    let next = paths_next width k paths path c.loop-agent-test.true c.index-paths-agent.is in
    record {
      works = search rules;
      width = search rules;
      so_far = before.so_far ++ path_text width k path;
      text = passes_trans _ _ _ _ _ _ before.so_far (path_text width k path) before.text (same_passes _ _ _ _ _ (path_text width k path) (ap (λ w. path_text w k path) before.width) c.in_ok-path.ensures.text);
      rest = append_assoc before.so_far (path_text width k path) (paths_text width (k + 1) (drop (k + 1) paths)) ∙ ap (λ u. before.so_far ++ u) (sym next) ∙ before.rest;
    }
