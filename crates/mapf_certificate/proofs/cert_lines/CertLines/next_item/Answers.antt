use Rattle.std.proofs.Common.{◌≡◌, Option, IfSome, true, subst, sym, refl}
use Rattle.mapf_model.specs.declared.item.Item.{Item}
use Rattle.mapf_model.specs.Tree.{node_of}
use Rattle.mapf_certificate.specs.Reading.{Reading}
use Rattle.mapf_certificate.specs.CertReading.{Awaits, ReadsEnd, TakesNode}
use Rattle.mapf_certificate.proofs.Readings.{end_joins, no_node, no_end, awaited}
use Rattle.mapf_certificate.proofs.cert_lines.CertLines.next_item.Goals as goal

pub returns-in-Ok-Some-clause-only_end : goal.returns-in-Ok-Some-clause-only_end
returns-in-Ok-Some-clause-only_end g c = λ p q awaits.
    let s = g.S.Source in
    let had = s.remaining c.args.source.now in
    let old = c.args.self.now in
    let P : Option Item → Type 0 = λ o. IfSome o (λ item. TakesNode had (s.remaining c.read_item.new.source) old c.read_item.new.self (node_of item)) in
    let takes = subst P c.in-Ok-Some.field-0-is c.in-Ok-Some.ensures.item in
    absurd (no_end _ _ awaits takes.read.was_pending)

pub returns-in-Ok-None-clause-end : goal.returns-in-Ok-None-clause-end
returns-in-Ok-None-clause-end g c = λ p q none.
    let s = g.S.Source in
    let had = s.remaining c.args.source.now in
    let left = s.remaining c.read_item.new.source in
    let old = c.args.self.now in
    let i = c.self-2.inside in
    let mid : Reading = record { width = i.width; height = i.height; buffer = i.lines.buffer; version = i.version; header = i.header; fault = i.fault; is_whole = i.is_whole; pending = i.pending } in
    let new : Reading = record mid { is_whole = true } in
    let reads : ReadsEnd had left old mid = subst (ReadsEnd had left old) (sym c.self-2.view_is) (c.in-Ok-None.ensures.end c.in-Ok-None.field-0-is) in
    let read : ReadsEnd had left old new = record { none_pending = reads.none_pending; window = reads.window; ended = reads.ended; empty = reads.empty; pending = reads.pending } in
    record { read = read; whole = refl; joins = end_joins _ _ _ _ read }

pub returns-in-Ok-None-clause-only_item : goal.returns-in-Ok-None-clause-only_item
returns-in-Ok-None-clause-only_item g c = λ node nodes p q awaits.
    no_node _ _ _ _ awaits (c.in-Ok-None.ensures.end c.in-Ok-None.field-0-is).none_pending

pub returns-in-Err-clause-only_item : goal.returns-in-Err-clause-only_item
returns-in-Err-clause-only_item g c = λ node nodes p q awaits.
    awaited _ _ _ _ _ _ awaits c.in-Err.ensures.fails

pub returns-in-Err-clause-only_end : goal.returns-in-Err-clause-only_end
returns-in-Err-clause-only_end g c = λ p q awaits.
    awaited _ _ _ _ _ _ awaits c.in-Err.ensures.fails

pub returns-in-Ok-Some-clause-only_item : goal.returns-in-Ok-Some-clause-only_item
returns-in-Ok-Some-clause-only_item g c = λ node nodes p q awaits.
    let s = g.S.Source in
    let P : Option Item → Type 0 = λ o. IfSome o (λ item. (node_of item ≡ node) × Awaits (s.remaining c.read_item.new.source) c.read_item.new.self nodes) in
    subst P c.in-Ok-Some.field-0-is (c.in-Ok-Some.ensures.same node nodes awaits)
