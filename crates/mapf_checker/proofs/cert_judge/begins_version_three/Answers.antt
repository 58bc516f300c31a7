use Rattle.mapf_checker.proofs.TitleLemmas.{lacks_title, title_tells}
use Rattle.mapf_checker.proofs.cert_judge.begins_version_three.Goals as goal

pub returns-in-Ok-clause-title : goal.returns-in-Ok-clause-title
returns-in-Ok-clause-title g c =
    let (first, rest, found, tells) = c.in-Ok.ensures.line in
    title_tells c.in-Ok.is' c.begins_with.new.self.bytes first rest found tells

pub returns-in-Err-clause-fails : goal.returns-in-Err-clause-fails
returns-in-Err-clause-fails g c =
    lacks_title ((g.S.Source).remaining c.args.source.now) ((g.S.Source).remaining c.begins_with.new.source) ((g.S.Source).has_failed c.begins_with.new.source) c.args.buffer.now c.begins_with.new.self c.in-Err.why c.without_line.result
    c.in-Err.ensures.stopped c.without_line.ensures
