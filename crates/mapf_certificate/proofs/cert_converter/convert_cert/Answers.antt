use Rattle.std.proofs.Common.{◌≡◌, [], ◌∷◌, ◌++◌, false, true, map}
use Rattle.std.proofs.lemmas.Bool.Decides.{Decides-eqb}
use Rattle.std.proofs.lemmas.Slice.Eq.{starts_is}
use Rattle.mapf_certificate.specs.Lines.{title_words}
use Rattle.mapf_certificate.specs.declared.version.Version.TheVariants.{One, Two}
use Rattle.mapf_model.specs.Tree.{node_of}
use Rattle.mapf_certificate.proofs.CertTexts.{converted}
use Rattle.mapf_certificate.proofs.cert_converter.convert_cert.Goals as goal

pub returns-in-Ok-write_cert-clause-only : goal.returns-in-Ok-write_cert-clause-only
returns-in-Ok-write_cert-clause-only c = λ agents claim tree spells.
    let cert = c.in-Ok.cert in
    let (version, count, says, nodes) = c.in-Ok.ensures.only One agents claim tree spells in
    converted c.args.grid.now c.args.bytes.now c.in-Ok-write_cert.out.items agents cert.agents claim cert.claim tree (map node_of cert.tree.items) spells count says nodes c.in-Ok-write_cert.ensures

pub returns-in-Err : goal.returns-in-Err
returns-in-Err c = record {
  found = tt;
  only = c.in-Err.ensures.only One;
  later = λ rest begins.
      let it_does : false ≡ true = (starts_is Decides-eqb c.args.bytes.now (title_words Two ++ (10 ∷ [])) false c.if-not-starts_with.ensures.value).1 rest begins in
      absurd cc;
}
