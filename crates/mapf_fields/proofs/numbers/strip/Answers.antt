use Rattle.std.proofs.lemmas.Slice.Eq.{strip_prefix_is}
use Rattle.std.proofs.lemmas.Bool.Decides.{Decides-eqb}
use Rattle.mapf_fields.proofs.Strips.{strip_is}
use Rattle.mapf_fields.proofs.numbers.strip.Goals as goal

pub returns : goal.returns
returns c = strip_is c.args.front.now c.args.bytes.now _ (strip_prefix_is Decides-eqb c.args.bytes.now c.args.front.now _ c.strip_prefix.ensures.cases)
