use Rattle.std.proofs.Common.{◌≡◌, [], ◌∷◌, ◌++◌, Some, length, length-append, slice_get, arith}
use Rattle.mapf_distance.specs.Distances.{IsShortestPath}
use Rattle.mapf_cbs.specs.Start.{IsShortest}
use Rattle.mapf_cbs.proofs.StartLemmas.{read_through, AreShortest-more}
use Rattle.mapf_cbs.proofs.start.shortest_paths.Goals as goal

pub loop-agent-preserved : goal.loop-agent-preserved
loop-agent-preserved c =
    let paths = c.loop-agent.paths.items in
    let so_many = c.loop-agent.invariant.so_many in
    let agent = c.agent-item.result in
    let this = read_through c.agents-agent-items.result.now c.args.problem.now.agents c.loop-agent.agent-index agent c.agents-agent-items.ensures.value c.loop-agent-test.true c.agent-item.is in
    let here : slice_get c.args.problem.now.agents (length paths) ≡ Some agent = rw so_many this in
    let found : IsShortestPath c.args.problem.now.grid agent.start agent.goal c.in-Some.path = rw (c.in-Some.is, c.grid.ensures) at c.in_ok-path.ensures in
    let is : IsShortest c.args.problem.now.grid agent c.in-Some.path = record {
      lawful = record { is_path = found.is_path; start = found.from_start; goal = found.to_goal };
      tight = found.tight;
      few = found.few;
      short = found.short;
      least = found.least;
    } in
    let pushed : c.push.new.self.items ≡ paths ++ c.in-Some.path ∷ [] = c.in_ok-push-in-Some.ensures.items in
    record {
      so_many = rw pushed (omega (arith, length-append paths (c.in-Some.path ∷ []), so_many));
      shortest = rw pushed (AreShortest-more c.args.problem.now paths agent c.in-Some.path c.loop-agent.invariant.shortest here is);
    }
