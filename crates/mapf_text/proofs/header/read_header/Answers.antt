use Rattle.std.proofs.Common.{refl, inr}
use Rattle.mapf_text.specs.Lines.{lines_of}
use Rattle.mapf_text.specs.Maps.{HasHeight}
use Rattle.mapf_text.proofs.header.read_header.Goals as goal

pub returns-in-Err-OutOfRange-size_line-clause-found :
    goal.returns-in-Err-OutOfRange-size_line-clause-found
returns-in-Err-OutOfRange-size_line-clause-found c =
    let (width, rest, is_width, out) = rw c.in-Err-OutOfRange-size_line.field-0-is at c.in-Err-OutOfRange-size_line.ensures in
    let has_height : HasHeight (lines_of c.args.text.now) c.in-Ok.read.0 (lines_of c.in-Ok.read.1.now) = record { after_type = _; is_type = c.in-Some.ensures; is_height = c.in-Ok.ensures.0 } in
    inr (refl, (c.in-Ok.read.0, width, rest, record { after_height = _; has_height = has_height; height_in_range = c.in-Ok.ensures.1; is_width = is_width }, out))
