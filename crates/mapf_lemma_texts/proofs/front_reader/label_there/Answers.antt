use Rattle.std.proofs.Common.{ℕ, List, ◌-◌, length, subst, sym, arith}
use Rattle.mapf_certificate.specs.EntryReading.{BeginsWithText}
use Rattle.mapf_lemma_texts.specs.declared.sizes.LinePlace.{LinePlace}
use Rattle.mapf_lemma_texts.specs.Lines.{IsLine, line_text, width_of}
use Rattle.mapf_lemma_texts.proofs.FrontLaws.{label_is, label_begins, label_long}
use Rattle.mapf_lemma_texts.proofs.front_reader.label_there.Goals as goal

pub overflow_sub-result : goal.overflow_sub-result
overflow_sub-result c = omega (arith, label_long c.in-Later.sizes c.all-bytes.result.now c.in-Ok.rest.now c.in-Ok.line c.in-Ok.ensures)

pub returns-in-Ok-clause-line : goal.returns-in-Ok-clause-line
returns-in-Ok-clause-line c =
    subst (λ (p : LinePlace). IsLine p c.in-Ok.line) (sym c.in-Later.is) (label_is c.in-Later.sizes c.all-bytes.result.now c.in-Ok.rest.now c.in-Ok.line c.in-Ok.ensures)

pub returns-in-Ok-clause-text : goal.returns-in-Ok-clause-text
returns-in-Ok-clause-text c =
    let bytes = c.all-bytes.result.now in
    let rest = c.in-Ok.rest.now in
    let line = c.in-Ok.line in
    let begins = label_begins c.in-Later.sizes bytes rest line c.in-Ok.ensures in
    subst (λ (p : LinePlace). BeginsWithText c.args.buffer.now.bytes (line_text (width_of p) line) (length bytes - length rest)) (sym c.in-Later.is)
    (subst (λ (b : List ℕ). BeginsWithText b (line_text c.in-Later.sizes.width line) (length bytes - length rest)) c.all-bytes.ensures begins)

pub returns-in-Ok-clause-some : goal.returns-in-Ok-clause-some
returns-in-Ok-clause-some c = omega (arith, label_long c.in-Later.sizes c.all-bytes.result.now c.in-Ok.rest.now c.in-Ok.line c.in-Ok.ensures)
