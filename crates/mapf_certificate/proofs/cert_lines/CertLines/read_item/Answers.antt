use Rattle.std.proofs.Common.{◌≤◌, ap, subst, refl, arith}
use Rattle.std.proofs.lemmas.Result.{err_from_is_err_and}
use Rattle.mapf_model.specs.Tree.{node_of}
use Rattle.mapf_certificate.specs.Reading.{Reading, agents_in}
use Rattle.mapf_certificate.specs.CertReading.{ReadsNode, TakesNode}
use Rattle.mapf_certificate.specs.Untouched.{TakesThere}
use Rattle.mapf_certificate.specs.Certificates.{line_text}
use Rattle.mapf_certificate.proofs.TakenThere.{there-trans}
use Rattle.mapf_certificate.proofs.Windows.{err_passed}
use Rattle.mapf_certificate.proofs.Readings.{Bounds, Continues, sizes_at, fails_at, fails_first, fails_in_item, fails_in_end, reads_node, node_joins, node_same}
use Rattle.mapf_certificate.proofs.cert_lines.CertLines.read_item.Goals as goal

pub returns-in_err-line-clause-fails : goal.returns-in_err-line-clause-fails
returns-in_err-line-clause-fails g c =
    let i = c.self.inside in
    let sizes = sizes_at i.version i.width i.height i.header c.unwrap-agents.result c.self.invariant.columns c.self.invariant.rows c.self.invariant.agents c.unwrap-agents.ensures in
    let old : Reading = record { width = i.width; height = i.height; buffer = i.lines.buffer; version = i.version; header = i.header; fault = i.fault; is_whole = i.is_whole; pending = i.pending } in
    let bounds : Bounds sizes old = record { version = refl; grid = refl; agents = ap agents_in c.unwrap-agents.ensures } in
    fails_at _ _ _ _ _ _ c.self.view_is (err_passed _ _ _ (err_from_is_err_and _ c.from_residual.ensures.1)
    (fails_first sizes old _ _ _ _ _ bounds c.in_err-line.ensures.fails))

pub returns-in_err-take_end-clause-fails : goal.returns-in_err-take_end-clause-fails
returns-in_err-take_end-clause-fails g c =
    let i = c.self.inside in
    let sizes = sizes_at i.version i.width i.height i.header c.unwrap-agents.result c.self.invariant.columns c.self.invariant.rows c.self.invariant.agents c.unwrap-agents.ensures in
    let old : Reading = record { width = i.width; height = i.height; buffer = i.lines.buffer; version = i.version; header = i.header; fault = i.fault; is_whole = i.is_whole; pending = i.pending } in
    let bounds : Bounds sizes old = record { version = refl; grid = refl; agents = ap agents_in c.unwrap-agents.ensures } in
    fails_at _ _ _ _ _ _ c.self.view_is (err_passed _ _ _ (err_from_is_err_and _ c.from_residual-in_err-take_end.ensures.1)
    (fails_in_end sizes old _ _ _ _ _ _ _ c.in_err-take_end.field-0.0 bounds c.if-self-eq0.true c.in_ok-line.ensures.line c.in_ok-line.ensures.taken c.in_err-take_end.ensures.fails))

pub returns-in_err-item-clause-fails : goal.returns-in_err-item-clause-fails
returns-in_err-item-clause-fails g c =
    let i = c.self.inside in
    let sizes = sizes_at i.version i.width i.height i.header c.unwrap-agents.result c.self.invariant.columns c.self.invariant.rows c.self.invariant.agents c.unwrap-agents.ensures in
    let old : Reading = record { width = i.width; height = i.height; buffer = i.lines.buffer; version = i.version; header = i.header; fault = i.fault; is_whole = i.is_whole; pending = i.pending } in
    let bounds : Bounds sizes old = record { version = refl; grid = refl; agents = ap agents_in c.unwrap-agents.ensures } in
    fails_at _ _ _ _ _ _ c.self.view_is (err_passed _ _ _ (err_from_is_err_and _ c.from_residual-in_err-item.ensures.1)
    (fails_in_item sizes old _ _ _ _ _ _ _ c.in_err-item.field-0.0 bounds (omega (arith, c.if-self-eq0.false)) c.in_ok-line.ensures.taken c.in_err-item.ensures.fails))

pub returns-clause-item : goal.returns-clause-item
returns-clause-item g c =
    let s = g.S.Source in
    let i = c.self.inside in
    let had = s.remaining c.args.source.now in
    let sizes = sizes_at i.version i.width i.height i.header c.unwrap-agents.result c.self.invariant.columns c.self.invariant.rows c.self.invariant.agents c.unwrap-agents.ensures in
    let old : Reading = record { width = i.width; height = i.height; buffer = i.lines.buffer; version = i.version; header = i.header; fault = i.fault; is_whole = i.is_whole; pending = i.pending } in
    let bounds : Bounds sizes old = record { version = refl; grid = refl; agents = ap agents_in c.unwrap-agents.ensures } in
    let new : Reading = record { width = i.width; height = i.height; buffer = c.item_of.new.lines.buffer; version = i.version; header = i.header; fault = i.fault; is_whole = i.is_whole; pending = c.trees_pending_after-self-inside.result } in
    let node = node_of c.in_ok-item.item in
    let on : Continues old new = record { version = refl; grid = refl; agents = refl } in
    let some : 1 ≤ i.pending = omega (arith, c.if-self-eq0.false) in
    let left = s.remaining c.item_of.new.source in
    let read : ReadsNode had left old new node = reads_node sizes _ _ _ _ _ _ _ _ bounds refl c.in_ok-line.ensures.taken c.in_ok-item.ensures.item some c.trees_pending_after-self-inside.ensures in
    let P : Reading → Type 0 = λ r. TakesNode had left r new node in
    subst P c.self.view_is (record { read = read; joins = node_joins _ _ _ _ _ on read })

pub returns-clause-same : goal.returns-clause-same
returns-clause-same g c =
    let s = g.S.Source in
    let i = c.self.inside in
    let had = s.remaining c.args.source.now in
    let sizes = sizes_at i.version i.width i.height i.header c.unwrap-agents.result c.self.invariant.columns c.self.invariant.rows c.self.invariant.agents c.unwrap-agents.ensures in
    let old : Reading = record { width = i.width; height = i.height; buffer = i.lines.buffer; version = i.version; header = i.header; fault = i.fault; is_whole = i.is_whole; pending = i.pending } in
    let bounds : Bounds sizes old = record { version = refl; grid = refl; agents = ap agents_in c.unwrap-agents.ensures } in
    let new : Reading = record { width = i.width; height = i.height; buffer = c.item_of.new.lines.buffer; version = i.version; header = i.header; fault = i.fault; is_whole = i.is_whole; pending = c.trees_pending_after-self-inside.result } in
    let node = node_of c.in_ok-item.item in
    let on : Continues old new = record { version = refl; grid = refl; agents = refl } in
    let some : 1 ≤ i.pending = omega (arith, c.if-self-eq0.false) in
    let left = s.remaining c.item_of.new.source in
    let read : ReadsNode had left old new node = reads_node sizes _ _ _ _ _ _ _ _ bounds refl c.in_ok-line.ensures.taken c.in_ok-item.ensures.item some c.trees_pending_after-self-inside.ensures in
    rw (← c.self.view_is) (λ due nodes awaits. node_same sizes _ _ _ _ _ _ _ bounds refl on read awaits)

pub returns-clause-there : goal.returns-clause-there
returns-clause-there g c =
    let i = c.self.inside in
    let width = i.width in
    let completes = c.in_ok-item.ensures.item in
    let node = node_of c.in_ok-item.item in
    let line = line_text width c.in_ok-line.line in
    let both = there-trans c.args.source.now c.next.new.source c.item_of.new.source i.lines.buffer c.next.new.self.buffer c.item_of.new.lines.buffer line completes.taken c.in_ok-line.ensures.there (c.in_ok-item.ensures.there completes.taken completes.spelled) in
    rw (← c.self.view_is) (subst (TakesThere c.args.source.now c.item_of.new.source i.lines.buffer c.item_of.new.lines.buffer) completes.spelled both)
