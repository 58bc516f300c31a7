use Rattle.std.proofs.Common.{◌≡◌, ℕ, List, [], ◌∷◌, Ok, Err, Result, sym, ap, ◌∙◌, IfOk, OnOk, ◌<◌, ◌≤◌, length, subst, arith}
use Rattle.mapf_fields.specs.declared.fault.LineFault.{LineFault}
use Rattle.mapf_fields.specs.declared.fault.LineFault.TheVariants.{Shape}
use Rattle.mapf_lemma_texts.specs.declared.line.LemmaLine.{LemmaLine}
use Rattle.mapf_lemma_texts.specs.declared.sizes.LinePlace.{LinePlace}
use Rattle.mapf_lemma_texts.specs.Lines.{IsLine, words, width_of}
use Rattle.mapf_lemma_texts.specs.LineReading.{read_line}
use Rattle.mapf_lemma_texts.proofs.LineLaws.{line_takes, line_again, nothing_read}
use Rattle.mapf_lemma_texts.proofs.PlainLines.{plain_line}
use Rattle.mapf_lemma_texts.proofs.line_reader.line_of.Goals as goal

takes : (place : LinePlace) (bs : List ℕ) (r : Result LemmaLine LineFault) → r ≡ read_line place bs → IfOk r (λ line. IsLine place line × (bs ≡ words (width_of place) line))
takes place bs (Ok line) e = line_takes place bs line (sym e)
takes place bs (Err fault) e = tt

pub returns-clause-found : goal.returns-clause-found
returns-clause-found c = takes c.args.place.now c.args.bytes.now c.judge.result c.judge.ensures

pub returns-clause-only : goal.returns-clause-only
returns-clause-only c line is e = c.judge.ensures ∙ ap (read_line c.args.place.now) e ∙ line_again c.args.place.now line is

some : (place : LinePlace) (bs : List ℕ) (r : Result LemmaLine LineFault) → r ≡ read_line place bs → OnOk r (0 < length bs)
some place [] (Ok line) e = let wrong : ◌≡◌ {A = Result LemmaLine LineFault} (Ok line) (Err Shape) = e ∙ nothing_read place in absurd cc
some place (b ∷ bs) (Ok line) e = let some : 0 < length (b ∷ bs) = omega arith in some
some place bs (Err fault) e = tt

pub returns-clause-some : goal.returns-clause-some
returns-clause-some c = some c.args.place.now c.args.bytes.now c.judge.result c.judge.ensures

short : (place : LinePlace) (bs : List ℕ) (r : Result LemmaLine LineFault) → r ≡ read_line place bs → OnOk r (length bs ≤ 64)
short place bs (Ok line) e =
    let (is, spelled) = line_takes place bs line (sym e) in
    let P : List ℕ → Type 0 = λ b. length b ≤ 64 in
    subst P (sym spelled) (plain_line place line is).short
short place bs (Err fault) e = tt

pub returns-clause-short : goal.returns-clause-short
returns-clause-short c = short c.args.place.now c.args.bytes.now c.judge.result c.judge.ensures
