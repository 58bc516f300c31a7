-- What holds of the lines of version 3.
use Rattle.std.specs.Prelude.{◌≡◌, ◌<◌, ◌≤◌, ℕ, true, List, ◌++◌, length}
use Rattle.mapf_model.specs.Limits.{longest_cert_line}
use Rattle.mapf_fields.specs.Ends.{lacks_end}
use Rattle.mapf_lemma_texts.specs.declared.line.LemmaLine.{LemmaLine}
use Rattle.mapf_lemma_texts.specs.declared.sizes.LinePlace.{LinePlace}
use Rattle.mapf_lemma_texts.specs.Lines.{IsLine, words, width_of, line_text}

-- no two lines that may come there have the same words
abbrev pub LinesAreSpelledApart : Type 0
LinesAreSpelledApart = (place : LinePlace) (one other : LemmaLine) → IsLine place one → IsLine place other →
    words (width_of place) one ≡ words (width_of place) other → one ≡ other

-- two texts that begin with a line that may come there begin with one line where the texts are one
abbrev pub TextsBeginWithOneLine : Type 0
TextsBeginWithOneLine = (place : LinePlace) (one other : LemmaLine) (after rest : List ℕ) → IsLine place one →
    IsLine place other → line_text (width_of place) one ++ after ≡ line_text (width_of place) other ++ rest →
    (one ≡ other) × (after ≡ rest)

-- no line that may come there has an LF in it
abbrev pub LinesLackEnds : Type 0
LinesLackEnds = (place : LinePlace) (line : LemmaLine) → IsLine place line →
    lacks_end (words (width_of place) line) ≡ true

-- each has a byte, and at most 64
abbrev pub LinesAreShort : Type 0
LinesAreShort = (place : LinePlace) (line : LemmaLine) → IsLine place line →
    (0 < length (words (width_of place) line)) × (length (words (width_of place) line) ≤ longest_cert_line)
