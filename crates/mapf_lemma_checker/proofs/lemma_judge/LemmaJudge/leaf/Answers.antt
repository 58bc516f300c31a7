use Rattle.std.proofs.Common.{rules}
use Rattle.mapf_cases.specs.Nodes.{LeafNode}
use Rattle.mapf_lemmas.specs.Lemmas.{scope_of}
use Rattle.mapf_lemma_checker.specs.Judges.{state_of}
use Rattle.mapf_lemma_checker.specs.States.{ShowsNextNode}
use Rattle.mapf_lemma_checker.proofs.NodeLemmas.{HasTaken, HasJudged, goes_on, refused_node}
use Rattle.mapf_lemma_checker.proofs.lemma_judge.LemmaJudge.leaf.Goals as goal

pub returns-in_err-leaf-clause-refused : goal.returns-in_err-leaf-clause-refused
returns-in_err-leaf-clause-refused c =
    let problem = c.args.problem.now in
    let judge = c.args.self.now in
    let mid = c.take_tree.new.self in
    let tree = c.in_ok-tree.tree in
    let node = LeafNode c.args.uses.now in
    let taken : HasTaken problem judge mid tree = record { rest = c.take_tree.ensures.rest; is = c.in_ok-tree.ensures.tree; place = c.requires.place } in
    refused_node problem judge mid tree taken node (ShowsNextNode problem judge.target (state_of judge) node) (λ next shows. shows) c.from_residual-in_err-leaf.result c.in_err-leaf.field-0.0 c.from_residual-in_err-leaf.ensures.1
    (c.in_err-leaf.ensures.refused (scope_of problem judge.lists judge.known.items tree.agents) (search rules))

pub returns-clause-shown : goal.returns-clause-shown
returns-clause-shown c =
    let problem = c.args.problem.now in
    let judge = c.args.self.now in
    let mid = c.take_tree.new.self in
    let tree = c.in_ok-tree.tree in
    let node = LeafNode c.args.uses.now in
    let taken : HasTaken problem judge mid tree = record { rest = c.take_tree.ensures.rest; is = c.in_ok-tree.ensures.tree; place = c.requires.place } in
    let after = c.leaf.new.self in
    let judged : HasJudged problem tree after node = record { agents = c.leaf.ensures.agents; target = c.leaf.ensures.target; pending = c.in_ok-leaf.ensures.pending } in
    let good = c.in_ok-leaf.ensures.good (scope_of problem judge.lists judge.known.items tree.agents) (search rules) in
    goes_on problem judge mid tree taken node after judged (state_of c.put_back.new.self) good c.in_ok-put_back.ensures.state
