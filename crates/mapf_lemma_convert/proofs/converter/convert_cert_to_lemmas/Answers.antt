use Rattle.std.proofs.Common.{refl}
use Rattle.mapf_lemma_convert.proofs.ResultLemmas.{found_of, only_of, refused_of}
use Rattle.mapf_lemma_convert.proofs.converter.convert_cert_to_lemmas.Goals as goal

pub returns-in-Ok-clause-found : goal.returns-in-Ok-clause-found
returns-in-Ok-clause-found c =
    let cert = c.in-Ok.cert in
    let (tree, spells, spelled) = c.in-Ok.ensures.found in
    found_of (λ v. v.items) c.args.grid.now cert.agents cert.claim tree c.args.text.now cert.version spells c.converted_text.result
    (c.converted_text.ensures c.args.text.now cert.version cert.agents cert.claim tree spells (refl, refl, refl, spelled))

pub returns-in-Ok-clause-refused : goal.returns-in-Ok-clause-refused
returns-in-Ok-clause-refused c =
    let cert = c.in-Ok.cert in
    let (tree, spells, spelled) = c.in-Ok.ensures.found in
    refused_of (λ v. v.items) c.args.grid.now cert.agents cert.claim tree c.args.text.now cert.version spells c.converted_text.result
    (c.converted_text.ensures c.args.text.now cert.version cert.agents cert.claim tree spells (refl, refl, refl, spelled))

pub returns-in-Ok-clause-only : goal.returns-in-Ok-clause-only
returns-in-Ok-clause-only c version agents claim tree spells can =
    only_of (λ v. v.items) c.args.grid.now agents claim tree can c.converted_text.result
    (c.converted_text.ensures c.args.text.now version agents claim tree spells (c.in-Ok.ensures.only version agents claim tree spells))
