use Rattle.std.proofs.Common.{◌++◌, ◌∙◌, ap, length, subst, sym, le_refl}
use Rattle.std.proofs.lemmas.Result.{err_from_is_err_and}
use Rattle.mapf_certificate.specs.declared.tree_line.Due.TheVariants as dues
use Rattle.mapf_certificate.specs.Lines.{IsLine}
use Rattle.mapf_certificate.specs.Certificates.{blocks_text, line_text, node_text}
use Rattle.mapf_certificate.specs.Untouched.{TakesThere}
use Rattle.mapf_certificate.specs.declared.line.CertLine.{CertLine}
use Rattle.mapf_certificate.specs.declared.line.CertLine.TheVariants as lines
use Rattle.mapf_certificate.proofs.Blocks.{blocks_apart}
use Rattle.mapf_certificate.proofs.PlainLines.{same_line}
use Rattle.mapf_certificate.proofs.Windows.{err_passed}
use Rattle.mapf_certificate.proofs.Nodes.{split_rest, fails_in_blocks, fails_in_split_blocks, begins_no_node, first_kinds}
use Rattle.mapf_certificate.proofs.cert_lines.item_of.Goals as goal

pub returns-in_err-blocks-in-Leaf-clause-fails : goal.returns-in_err-blocks-in-Leaf-clause-fails
returns-in_err-blocks-in-Leaf-clause-fails g c =
    let sizes = c.args.sizes.now in
    err_passed _ _ _ (err_from_is_err_and _ c.from_residual-in_err-blocks-in-Leaf.ensures.1)
    (fails_in_blocks sizes _ _ _ _ _ _ _ c.requires.line c.in-Leaf.is c.in_err-blocks-in-Leaf.ensures.fails)

pub returns-in_default : goal.returns-in_default
returns-in_default g c =
    record {
      works = tt;
      spare = le_refl _;
      item = tt;
      there = tt;
      fails = begins_no_node c.args.sizes.now _ _ _ _ _ c.misfit.ensures c.requires.works c.requires.line (first_kinds c.args.sizes.now.version c.args.line.now c.in_default.not-Split c.in_default.not-Leaf c.in_default.not-Clash);
    }

pub returns-in_ok-blocks-in-Leaf-clause-there : goal.returns-in_ok-blocks-in-Leaf-clause-there
returns-in_ok-blocks-in-Leaf-clause-there g c = λ taken e.
    let sizes = c.args.sizes.now in
    let blocks = c.in_ok-blocks-in-Leaf.blocks.items in
    let is : IsLine (dues.Tree sizes) (lines.Leaf c.in-Leaf.count) = subst (IsLine (dues.Tree sizes)) c.in-Leaf.is c.requires.line in
    let is' : IsLine (dues.Tree sizes) (lines.Leaf (length blocks)) = subst (λ n. IsLine (dues.Tree sizes) (lines.Leaf n)) (sym c.in_ok-blocks-in-Leaf.ensures.values.many) is in
    let (same, rest) = same_line (dues.Tree sizes) (lines.Leaf c.in-Leaf.count) (lines.Leaf (length blocks)) taken (blocks_text sizes.width blocks) is is' (ap (λ (l : CertLine). line_text sizes.width l ++ taken) (sym c.in-Leaf.is) ∙ e) in
    subst (TakesThere c.args.source.now c.list-in-Leaf.new.source c.args.lines.now.buffer c.list-in-Leaf.new.self.buffer) (sym rest) c.in_ok-blocks-in-Leaf.ensures.there

pub returns-in_err-blocks-in-Split-clause-fails : goal.returns-in_err-blocks-in-Split-clause-fails
returns-in_err-blocks-in-Split-clause-fails g c =
    let sizes = c.args.sizes.now in
    err_passed _ _ _ (err_from_is_err_and _ c.from_residual.ensures.1)
    (fails_in_split_blocks sizes _ _ _ _ _ _ _ _ _ c.requires.line c.in-Split.is c.unwrap_or.ensures c.in_err-blocks-in-Split.ensures.fails)

pub returns-in_ok-blocks-in-Split-clause-there : goal.returns-in_ok-blocks-in-Split-clause-there
returns-in_ok-blocks-in-Split-clause-there g c = λ taken e.
    let sizes = c.args.sizes.now in
    let here = c.in_ok-blocks-in-Split in
    let blocks = here.blocks.items in
    let spelled = e ∙ ap (node_text sizes.version sizes.width) c.split.ensures in
    let rest = split_rest sizes c.args.line.now c.in-Split.conflict c.in-Split.blocks _ blocks taken c.in-Split.is c.requires.line c.unwrap_or.ensures here.ensures.values.many spelled in
    subst (TakesThere c.args.source.now c.list.new.source c.args.lines.now.buffer c.list.new.self.buffer) (sym rest) here.ensures.there

pub list-requires-clause-apart : goal.list-requires-clause-apart
list-requires-clause-apart g c = blocks_apart c.args.sizes.now

pub list-requires-in-Leaf-clause-apart : goal.list-requires-in-Leaf-clause-apart
list-requires-in-Leaf-clause-apart g c = blocks_apart c.args.sizes.now
