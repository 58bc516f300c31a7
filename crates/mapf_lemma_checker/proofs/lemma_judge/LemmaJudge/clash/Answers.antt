use Rattle.std.proofs.Common.{refl}
use Rattle.mapf_cases.specs.Nodes.{ClashNode}
use Rattle.mapf_lemmas.specs.Lemmas.{scope_of}
use Rattle.mapf_lemma_checker.specs.Judges.{state_of}
use Rattle.mapf_lemma_checker.specs.States.{ShowsNextNode}
use Rattle.mapf_lemma_checker.proofs.NodeLemmas.{HasTaken, HasJudged, goes_on, refused_node}
use Rattle.mapf_lemma_checker.proofs.lemma_judge.LemmaJudge.clash.Goals as goal

pub returns-in_err-clash-clause-refused : goal.returns-in_err-clash-clause-refused
returns-in_err-clash-clause-refused c =
    let problem = c.args.problem.now in
    let judge = c.args.self.now in
    let mid = c.take_tree.new.self in
    let tree = c.in_ok-tree.tree in
    let node = ClashNode c.args.i c.args.j in
    let taken : HasTaken problem judge mid tree = record { rest = c.take_tree.ensures.rest; is = c.in_ok-tree.ensures.tree; place = c.requires.place } in
    refused_node problem judge mid tree taken node (ShowsNextNode problem judge.target (state_of judge) node) (λ next shows. shows) c.from_residual-in_err-clash.result c.in_err-clash.field-0.0 c.from_residual-in_err-clash.ensures.1
    (c.in_err-clash.ensures.refused (scope_of problem judge.lists judge.known.items tree.agents) refl)

pub returns-clause-shown : goal.returns-clause-shown
returns-clause-shown c =
    let problem = c.args.problem.now in
    let judge = c.args.self.now in
    let mid = c.take_tree.new.self in
    let tree = c.in_ok-tree.tree in
    let node = ClashNode c.args.i c.args.j in
    let taken : HasTaken problem judge mid tree = record { rest = c.take_tree.ensures.rest; is = c.in_ok-tree.ensures.tree; place = c.requires.place } in
    let after = c.clash.new.self in
    let judged : HasJudged problem tree after node = record { agents = c.clash.ensures.agents; target = c.clash.ensures.target; pending = c.in_ok-clash.ensures.pending } in
    let good = c.in_ok-clash.ensures.good (scope_of problem judge.lists judge.known.items tree.agents) refl in
    goes_on problem judge mid tree taken node after judged (state_of c.put_back.new.self) good c.in_ok-put_back.ensures.state
