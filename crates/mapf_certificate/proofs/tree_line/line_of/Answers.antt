use Rattle.std.proofs.Common.{◌≡◌, ℕ, List, Ok, Err, Result, sym, ap, ◌∙◌, IfOk, OnOk, ◌<◌, length, subst}
use Rattle.mapf_certificate.specs.declared.line.CertLine.{CertLine}
use Rattle.mapf_fields.specs.declared.fault.LineFault.{LineFault}
use Rattle.mapf_certificate.specs.declared.tree_line.Due.{Due}
use Rattle.mapf_certificate.specs.Lines.{IsLine, words, width_of}
use Rattle.mapf_certificate.specs.LineReading.{read_line}
use Rattle.mapf_certificate.proofs.LineLaws.{line_takes, line_again}
use Rattle.mapf_certificate.proofs.PlainLines.{words_some}
use Rattle.mapf_certificate.proofs.tree_line.line_of.Goals as goal

takes : (due : Due) (bs : List ℕ) (r : Result CertLine LineFault) → r ≡ read_line due bs → IfOk r (λ line. IsLine due line × (bs ≡ words (width_of due) line))
takes due bs (Ok line) e = line_takes due bs line (sym e)
takes due bs (Err fault) e = tt

pub returns-clause-found : goal.returns-clause-found
returns-clause-found c = takes c.args.due.now c.args.bytes.now c.judge.result c.judge.ensures

pub returns-clause-only : goal.returns-clause-only
returns-clause-only c line is e = c.judge.ensures ∙ ap (read_line c.args.due.now) e ∙ line_again c.args.due.now line is

some : (due : Due) (bs : List ℕ) (r : Result CertLine LineFault) → r ≡ read_line due bs → OnOk r (0 < length bs)
some due bs (Ok line) e = let P : List ℕ → Type 0 = λ b. 0 < length b in subst P (sym (line_takes due bs line (sym e)).1) (words_some (width_of due) line)
some due bs (Err fault) e = tt

pub returns-clause-some : goal.returns-clause-some
returns-clause-some c = some c.args.due.now c.args.bytes.now c.judge.result c.judge.ensures
