use Rattle.std.proofs.Common.{refl}
use Rattle.mapf_fields.specs.declared.spellings.TheConstants.{WORDS}
use Rattle.mapf_fields.proofs.Spelled.{are_words, spelled}
use Rattle.mapf_fields.proofs.spellings.spelling.Goals as goal

pub returns : goal.returns
unfolding are_words
returns c = spelled WORDS refl refl c.args.number c.requires
