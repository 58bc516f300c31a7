use Rattle.mapf_lemma_convert.proofs.ConversionLemmas.{conversion_shows}
use Rattle.mapf_lemma_convert.proofs.laws.converted_certificates_show.Goals as goal

pub returns : goal.returns
returns c problem claim tree shows = conversion_shows problem claim tree shows
