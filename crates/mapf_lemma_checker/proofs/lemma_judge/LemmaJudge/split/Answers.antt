use Rattle.std.proofs.Common.{refl, rules}
use Rattle.mapf_cases.specs.Nodes.{BranchNode}
use Rattle.mapf_lemmas.specs.Lemmas.{scope_of}
use Rattle.mapf_lemma_checker.specs.Judges.{state_of}
use Rattle.mapf_lemma_checker.specs.States.{ShowsPart}
use Rattle.mapf_lemma_checker.proofs.NodeLemmas.{HasTaken, HasJudged, goes_on, refused_node, splits_on}
use Rattle.mapf_lemma_checker.proofs.StateLemmas.{split_place, split_showed, split_shows}
use Rattle.mapf_lemma_texts.specs.WholeTexts.{split_part}
use Rattle.mapf_lemma_checker.proofs.lemma_judge.LemmaJudge.split.Goals as goal

pub returns-in_err-split-clause-refused : goal.returns-in_err-split-clause-refused
returns-in_err-split-clause-refused c =
    let problem = c.args.problem.now in
    let judge = c.args.self.now in
    let mid = c.take_tree.new.self in
    let tree = c.in_ok-tree.tree in
    let node = BranchNode c.args.split.now in
    let taken : HasTaken problem judge mid tree = record { rest = c.take_tree.ensures.rest; is = c.in_ok-tree.ensures.tree; place = split_place problem judge.target (state_of judge) c.args.split.now c.requires.place } in
    refused_node problem judge mid tree taken node (ShowsPart problem judge.target (state_of judge) (split_part c.args.split.now)) (split_showed problem judge.target (state_of judge) c.args.split.now) c.from_residual-in_err-split.result c.in_err-split.field-0.0 c.from_residual-in_err-split.ensures.1
    (c.in_err-split.ensures.refused (scope_of problem judge.lists judge.known.items tree.agents) (search rules))

pub returns-clause-shown : goal.returns-clause-shown
returns-clause-shown c =
    let problem = c.args.problem.now in
    let judge = c.args.self.now in
    let mid = c.take_tree.new.self in
    let tree = c.in_ok-tree.tree in
    let node = BranchNode c.args.split.now in
    let taken : HasTaken problem judge mid tree = record { rest = c.take_tree.ensures.rest; is = c.in_ok-tree.ensures.tree; place = split_place problem judge.target (state_of judge) c.args.split.now c.requires.place } in
    let after = c.split.new.self in
    let judged : HasJudged problem tree after node = record { agents = c.split.ensures.agents; target = c.split.ensures.target; pending = c.in_ok-split.ensures.pending } in
    let good = c.in_ok-split.ensures.good (scope_of problem judge.lists judge.known.items tree.agents) (search rules) in
    split_shows problem judge.target (state_of judge) c.args.split.now _
    (goes_on problem judge mid tree taken node after judged _ good (splits_on problem judge mid tree taken node after judged c.args.split.now refl))
