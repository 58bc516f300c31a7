use Rattle.mapf_fields.proofs.Prefixes.{passes_unheld}
use Rattle.mapf_fields.proofs.page.Page.put.Goals as goal

pub returns-clause-text : goal.returns-clause-text
returns-clause-text g c = passes_unheld _ _ _ _ _ _ _ c.in_ok-flush.ensures.text c.flush.ensures.empty c.write_all.ensures.ok c.write_all.ensures.prefix
