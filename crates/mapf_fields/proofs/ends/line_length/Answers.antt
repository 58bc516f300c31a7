use Rattle.mapf_fields.proofs.Cuts.{end_is}
use Rattle.mapf_fields.proofs.ends.line_length.Goals as goal

pub returns : goal.returns
returns c = end_is c.args.bytes.now _ c.end_place.ensures
