-- What is written for an object of the program.
use Rattle.std.specs.Prelude.{◌++◌, ◌∷◌, [], List, ℕ, Option, Some, None, codes}
use Rattle.std.specs.Borrow.{Bor}
use Rattle.mapf_json.specs.Objects.{number, word}
use Rattle.mapf_json.specs.declared.object.Number.{Number}
use Rattle.mapf_json.specs.declared.object.Object.{Object}
use Rattle.mapf_json.specs.declared.object.Word.{Word}

-- the texts one after another
abbrev pub joined : List (Bor (List ℕ)) → List ℕ
joined [] = []
joined (text ∷ rest) = text.now ++ joined rest

-- the member of a name and a word, if there are any
abbrev pub word_text : Option Word → List ℕ
word_text None = []
word_text (Some w) = word w.name.now w.value.now

-- the member of this name, if it has a value
abbrev pub text_text : List ℕ → Option (Bor (List ℕ)) → List ℕ
text_text name None = []
text_text name (Some value) = word name value.now

-- the member of a name and a number, if there are any
abbrev pub number_text : Option Number → List ℕ
number_text None = []
number_text (Some n) = number n.name.now n.value

-- what is written after the verdict
abbrev pub rest_text : Object → List ℕ
rest_text o = word_text o.code ++ (text_text (codes "error") o.error ++ (text_text (codes "file") o.file
    ++ (number_text o.numbers.0 ++ (number_text o.numbers.1 ++ (number_text o.numbers.2 ++ codes "}\n")))))

-- an object's bytes, with LF
abbrev pub object_text : Object → List ℕ
object_text o = codes "{\"verdict\":\"" ++ (o.verdict.now ++ (codes "\"" ++ rest_text o))
