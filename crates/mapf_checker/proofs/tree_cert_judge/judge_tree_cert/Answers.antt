use Rattle.std.proofs.Common.{◌≡◌, ◌++◌, length, option_map, refl, rules}
use Rattle.mapf_model.specs.Tree.{nodes_of}
use Rattle.mapf_certificate.specs.Certificates.{header_text}
use Rattle.mapf_certificate.proofs.Windows.{ComesWithin-after}
use Rattle.mapf_checker.specs.CertJudging.{IsOpened}
use Rattle.mapf_checker.specs.Faults.{IsNoRefusal, IsOfChecking}
use Rattle.mapf_checker.specs.Refusals.{HasTreeCertRefusal}
use Rattle.mapf_checker.proofs.CertLemmas.{awaits_spelled, cert_within, good_cert, header_refusal, nodes_show, refusal_of_tree, shown_tree, stops_after, stops_as}
use Rattle.mapf_checker.proofs.ReadLemmas.{err_passed, err_made}
use Rattle.mapf_checker.proofs.TreeLemmas.{on_ok}
use Rattle.mapf_checker.proofs.tree_cert_judge.judge_tree_cert.Goals as goal

pub returns-in_err-judge_header-clause-only : goal.returns-in_err-judge_header-clause-only
returns-in_err-judge_header-clause-only g c bytes known good =
    let problem = c.args.problem.now in
    let start = c.over-lines.result in
    let opened : IsOpened problem start = search rules in
    let same : start.buffer ≡ c.args.buffer = rw c.over-lines.ensures refl in
    err_passed c.from_residual.result IsNoRefusal c.in_err-judge_header.field-0.0 c.from_residual.ensures.1
    (c.in_err-judge_header.ensures.only good.version (nodes_of good.tree) (awaits_spelled problem ((g.S.Source).remaining c.args.source.now) start opened bytes known good.version (length problem.agents) c.args.claim.now good.tree (rw same good.spelled)))

pub returns-in_err-judge_header-clause-stops : goal.returns-in_err-judge_header-clause-stops
returns-in_err-judge_header-clause-stops g c =
    let problem = c.args.problem.now in
    let claim = c.args.claim.now in
    let had = (g.S.Source).remaining c.args.source.now in
    let mid = (g.S.Source).remaining c.judge_header.new.source in
    let failed = (g.S.Source).has_failed c.judge_header.new.source in
    let start = c.over-lines.result in
    let opened : IsOpened problem start = search rules in
    let same : start.buffer ≡ c.args.buffer = rw c.over-lines.ensures refl in
    let fault = c.in_err-judge_header.field-0.0 in
    rw (← same) (err_passed c.from_residual.result (IsOfChecking had mid failed start.buffer (HasTreeCertRefusal problem claim (option_map (λ bytes. start.buffer.bytes ++ bytes) had))) fault c.from_residual.ensures.1
    (stops_as had mid failed start.buffer fault (header_refusal problem claim had start opened) c.in_err-judge_header.ensures.stops))

pub returns : goal.returns
returns g c =
    let problem = c.args.problem.now in
    let claim = c.args.claim.now in
    let had = (g.S.Source).remaining c.args.source.now in
    let mid = (g.S.Source).remaining c.judge_header.new.source in
    let left = (g.S.Source).remaining c.judge_tree.new.source in
    let failed = (g.S.Source).has_failed c.judge_tree.new.source in
    let start = c.over-lines.result in
    let headed = c.judge_header.new.lines in
    let opened : IsOpened problem start = search rules in
    let same : start.buffer ≡ c.args.buffer = rw c.over-lines.ensures refl in
    let takes = c.in_ok-judge_header.ensures.taken in
    let ahead = c.in_ok-judge_header.ensures.ahead in
    let text = header_text headed.version start.width (length problem.agents) claim in
    let front = c.items_are_judged_by_front.ensures in
    let did = c.judge_tree.ensures in
    rw (← same) (record {
      works = did.works;
      came = on_ok c.judge_tree.result (ComesWithin-after had mid left start.buffer headed.buffer text takes.window) did.came;
      shown = on_ok c.judge_tree.result (shown_tree front problem claim mid headed) did.judged;
      good = λ bytes known. on_ok c.judge_tree.result (λ judged. good_cert problem claim had start opened mid headed takes front c.tree_is_unique.ensures judged bytes known) did.judged;
      within = λ bytes known. on_ok c.judge_tree.result (λ judged. cert_within problem claim had start opened mid headed takes judged bytes known) did.judged;
      only = λ bytes known good.
          let awaits = awaits_spelled problem had start opened bytes known good.version (length problem.agents) claim good.tree good.spelled in
          did.only (nodes_of good.tree) (ahead good.version (length problem.agents) claim (nodes_of good.tree) awaits) (nodes_show front problem claim good.tree good.shows);
      stops = err_made c.judge_tree.result (λ fault. stops_after had mid left failed start.buffer headed.buffer text fault takes.window (refusal_of_tree problem claim had start opened mid headed takes ahead)) did.stops;
    })
