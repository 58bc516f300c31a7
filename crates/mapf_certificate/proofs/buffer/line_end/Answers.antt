use Rattle.mapf_fields.proofs.Cuts.{place}
use Rattle.mapf_certificate.proofs.LineWindows.{no_place}
use Rattle.mapf_certificate.proofs.buffer.line_end.Goals as goal

pub returns-clause-line : goal.returns-clause-line
returns-clause-line c = place c.args.bytes.now c.min.result c.line_length.result c.line_length.ensures

pub returns-clause-none : goal.returns-clause-none
returns-clause-none c = no_place c.args.bytes.now c.min.result c.line_length.result c.min.ensures c.line_length.ensures
