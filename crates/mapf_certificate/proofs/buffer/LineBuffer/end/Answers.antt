use Rattle.std.proofs.Common.{◌≡◌, [], ◌∙◌}
use Rattle.mapf_certificate.proofs.PathLaws.{not_empty, is_empty}
use Rattle.mapf_certificate.proofs.EndWindows.{more_there, lacks_fails}
use Rattle.mapf_certificate.proofs.buffer.LineBuffer.end.Goals as goal

pub returns-then-not-is_empty-clause-fails : goal.returns-then-not-is_empty-clause-fails
returns-then-not-is_empty-clause-fails g c = (c.requires, more_there (g.S.Source.remaining c.args.source.now) c.args.self.now (not_empty c.args.self.now.bytes c.is_empty.result c.is_empty.ensures c.if-not-is_empty.true))

pub returns-in-Ok-false-clause-empty : goal.returns-in-Ok-false-clause-empty
returns-in-Ok-false-clause-empty g c =
    let before : c.args.self.now.bytes ≡ [] = is_empty c.args.self.now.bytes c.is_empty.result c.is_empty.ensures c.if-not-is_empty.false in
    (c.in-Ok-false.ensures.end c.in-Ok-false.field-0-test).1 ∙ before

pub returns-in-Err-clause-fails : goal.returns-in-Err-clause-fails
returns-in-Err-clause-fails g c =
    lacks_fails _ _ _ _ _ _ _ c.in-Err.ensures.stopped c.without_line.ensures
