-- Texts that begin with a line of version 3.
use Rattle.std.specs.Prelude.{ℕ, List}
use Rattle.mapf_certificate.specs.Window.{BeginsWith}
use Rattle.mapf_lemma_texts.specs.declared.line.LemmaLine.{LemmaLine}
use Rattle.mapf_lemma_texts.specs.declared.sizes.LinePlace.{LinePlace}
use Rattle.mapf_lemma_texts.specs.Lines.{IsLine, width_of, line_text}

-- the bytes begin with a line that may come there
abbrev pub BeginsWithLine : LinePlace → List ℕ → Type 0
BeginsWithLine place = BeginsWith LemmaLine (IsLine place) (line_text (width_of place))
