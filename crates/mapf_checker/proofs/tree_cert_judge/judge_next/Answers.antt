use Rattle.std.proofs.Common.{length, refl}
use Rattle.mapf_model.specs.Tree.{node_of}
use Rattle.mapf_certificate.specs.CertReading.{IsRestAt}
use Rattle.mapf_certificate.specs.Certificates.{IsNode}
use Rattle.mapf_certificate.specs.Reading.{grid_at}
use Rattle.mapf_certificate.proofs.CertTexts.{AreSized}
use Rattle.mapf_checker.specs.Faults.{of_cert}
use Rattle.mapf_checker.specs.NodeDefects.{HasNodeDefect}
use Rattle.mapf_checker.specs.Progress.{pending_by, here_of}
use Rattle.mapf_checker.proofs.ReadLemmas.{between_after, is_next, came_with_node, came_to_end, read_more, bad_node, defect_refutes_nodes, read_all, none_awaited, no_refusal, stops_reading, stops_judging, no_refusal_judging, node_moved, not_read_on}
use Rattle.mapf_checker.proofs.tree_cert_judge.judge_next.Goals as goal

pub returns-in_err-item-clause-judged : goal.returns-in_err-item-clause-judged
returns-in_err-item-clause-judged g c had start so_far =
    let between = c.requires.between in
    let problem = c.args.problem.now in
    let claim = c.args.claim.now in
    let mid = (g.S.Source).remaining c.args.source.now in
    let left = (g.S.Source).remaining c.next_item.new.source in
    let failed = (g.S.Source).has_failed c.next_item.new.source in
    let now = c.args.lines.now in
    let fault = c.in_err-item.field-0.0 in
    let none = none_awaited problem claim had mid start now (pending_by c.args.progress.now) fault so_far
    (λ other rest there. c.in_err-item.ensures.only_item other rest between.fault between.part there) (λ there. c.in_err-item.ensures.only_end between.fault between.part there) in
    not_read_on problem claim had left failed start c.next_item.new.self (pending_by c.args.progress.now) c.from_residual.result (of_cert fault) c.from_residual.ensures.1 (λ nodes awaits shows. no_refusal fault (none nodes awaits))
    (stops_reading problem claim had left failed start mid now _ (IsRestAt now) fault so_far.window (c.in_err-item.ensures.fails between.fault) none)

pub returns-in_default-clause-judged : goal.returns-in_default-clause-judged
returns-in_default-clause-judged g c had start so_far =
    let between = c.requires.between in
    let problem = c.args.problem.now in
    let claim = c.args.claim.now in
    let mid = (g.S.Source).remaining c.args.source.now in
    let left = (g.S.Source).remaining c.next_item.new.source in
    let pending = pending_by c.args.progress.now in
    let ends = c.in_ok-item.ensures.end between.fault between.part c.in_default.is in
    record {
      read = read_all c.items_are_judged_by_front.ensures problem claim had mid left start c.args.lines.now c.next_item.new.self pending between.count so_far ends;
      came = came_to_end problem claim had mid left start c.args.lines.now c.next_item.new.self pending so_far ends;
      only = λ nodes awaits shows. tt;
      stops = tt;
    }

pub item-requires-clause-node : goal.item-requires-clause-node
item-requires-clause-node g c =
    let between = c.requires.between in
    let problem = c.args.problem.now in
    let now = c.args.lines.now in
    let takes = rw c.in-Some.is at (c.in_ok-item.ensures.item between.fault between.part) in
    let size : AreSized (grid_at now) problem.grid = record { width = between.width; height = between.height } in
    let in_range : IsNode now.version (grid_at now) (length problem.agents) (node_of c.in-Some.item) = rw between.header at takes.read.in_range in
    (now.version, node_moved now.version (grid_at now) problem.grid (length problem.agents) size (node_of c.in-Some.item) in_range)

pub returns-in_err-item-2-clause-judged : goal.returns-in_err-item-2-clause-judged
returns-in_err-item-2-clause-judged g c had start so_far =
    let between = c.requires.between in
    let problem = c.args.problem.now in
    let claim = c.args.claim.now in
    let mid = (g.S.Source).remaining c.args.source.now in
    let left = (g.S.Source).remaining c.next_item.new.source in
    let now = c.args.lines.now in
    let new = c.next_item.new.self in
    let said = c.in_ok-item.ensures in
    let next = is_next mid left now new c.in_ok-item.field-0 c.in-Some.item c.in-Some.is (said.item between.fault between.part) (λ other rest there. said.only_item other rest between.fault between.part there) (said.only_end between.fault between.part) in
    let node = node_of c.in-Some.item in
    let failed = (g.S.Source).has_failed c.next_item.new.source in
    let fault = c.in_err-item-2.field-0.0 in
    not_read_on problem claim had left failed start new (pending_by c.item.new.self) c.from_residual-in_err-item-2.result fault c.from_residual-in_err-item-2.ensures.1
    (λ nodes awaits shows. no_refusal_judging (HasNodeDefect problem claim (here_of c.args.progress.now) node) fault c.in_err-item-2.ensures.refused
    (λ refusal defect. defect_refutes_nodes problem claim had mid left start now new c.args.progress.now between so_far node next c.items_are_judged_by_front.ensures refusal defect nodes awaits shows))
    (stops_judging problem claim had left failed start (here_of c.args.progress.now) node fault said.works (came_with_node problem claim had mid left start now new c.args.progress.now between so_far node next) c.in_err-item-2.ensures.refused
    (bad_node problem claim had mid left start now new c.args.progress.now between so_far node next c.only_start_entries_count.ensures.count c.only_start_entries_count.ensures.children))

pub returns-clause-judged : goal.returns-clause-judged
returns-clause-judged g c had start so_far =
    let between = c.requires.between in
    let problem = c.args.problem.now in
    let claim = c.args.claim.now in
    let mid = (g.S.Source).remaining c.args.source.now in
    let left = (g.S.Source).remaining c.next_item.new.source in
    let now = c.args.lines.now in
    let new = c.next_item.new.self in
    let said = c.in_ok-item.ensures in
    let next = is_next mid left now new c.in_ok-item.field-0 c.in-Some.item c.in-Some.is (said.item between.fault between.part) (λ other rest there. said.only_item other rest between.fault between.part there) (said.only_end between.fault between.part) in
    let node = node_of c.in-Some.item in
    record {
      read = read_more problem claim had mid left start now new c.args.progress.now between so_far node next c.items_are_judged_by_front.ensures c.only_start_entries_count.ensures.count c.only_start_entries_count.ensures.children said.grid.0 said.known.0 c.in_ok-item-2.ensures.good (pending_by c.item.new.self) c.in_ok-item-2.ensures.pending;
      came = came_with_node problem claim had mid left start now new c.args.progress.now between so_far node next;
      only = λ nodes awaits shows. tt;
      stops = tt;
    }

pub returns-clause-between : goal.returns-clause-between
returns-clause-between g c came =
    let between = c.requires.between in
    let said = c.in_ok-item.ensures in
    let takes = rw c.in-Some.is at (said.item between.fault between.part) in
    let part = rw c.in-Some.is at said.part in
    between_after c.args.problem.now c.args.claim.now c.args.lines.now c.next_item.new.self c.args.progress.now c.item.new.self (node_of c.in-Some.item) between takes.read.was_pending takes.read.pending
    said.grid said.known.1 said.unfaulted (part refl) c.in_ok-item-2.ensures.ready c.in_ok-item-2.ensures.pending
