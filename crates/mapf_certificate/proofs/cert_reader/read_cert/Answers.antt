use Rattle.std.proofs.Common.{Some, length, map}
use Rattle.mapf_model.specs.Tree.{node_of, nodes_of}
use Rattle.mapf_certificate.proofs.CertTexts.{spells_from_awaits, awaits_from_spells}
use Rattle.mapf_certificate.proofs.cert_reader.read_cert.Goals as goal

pub returns-in-Ok-collect-clause-found : goal.returns-in-Ok-collect-clause-found
returns-in-Ok-collect-clause-found c =
    let bytes = c.args.bytes.now in
    let known = c.of-source.ensures.bytes in
    let cert = c.in-Ok-collect.cert in
    spells_from_awaits c.args.grid.now c.width.result c.height.result (length bytes) cert.version cert.agents cert.claim (map node_of cert.tree.items) (Some c.of-source.result.bytes.now) bytes c.in-Ok.lines c.in-Ok.ensures c.width.ensures.width c.height.ensures.height
    known (c.in-Ok-collect.ensures.found bytes known)

pub returns-in-Ok-collect-clause-only : goal.returns-in-Ok-collect-clause-only
returns-in-Ok-collect-clause-only c = λ version agents claim tree spells.
    let bytes = c.args.bytes.now in
    c.in-Ok-collect.ensures.only version agents claim (nodes_of tree)
    (awaits_from_spells c.args.grid.now c.width.result c.height.result (length bytes) version agents claim tree (Some c.of-source.result.bytes.now) bytes c.in-Ok.lines c.in-Ok.ensures c.width.ensures.width c.height.ensures.height c.of-source.ensures.bytes spells)

pub returns-in-Err-Text-clause-only : goal.returns-in-Err-Text-clause-only
returns-in-Err-Text-clause-only c version agents claim tree spells =
    let bytes = c.args.bytes.now in
    absurd (rw c.in-Err-Text.field-0-is at (c.in-Err-Text.ensures.only version agents claim (nodes_of tree)
    (awaits_from_spells c.args.grid.now c.width.result c.height.result (length bytes) version agents claim tree (Some c.of-source.result.bytes.now) bytes c.in-Ok.lines c.in-Ok.ensures c.width.ensures.width c.height.ensures.height c.of-source.ensures.bytes spells)))
