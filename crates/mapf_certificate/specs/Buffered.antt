-- What a reader of lines holds of its source.
use Rattle.std.specs.Prelude.{◌+◌, ℕ, List, length}
use Rattle.mapf_model.specs.Limits.{longest_cert_line}

-- bytes that came and weren't taken yet, and how many more may come
pub record Buffered : Type 0 where
  pub bytes : List ℕ
  pub left : ℕ

-- how many bytes may still be taken
abbrev pub spare : Buffered → ℕ
spare buffer = length buffer.bytes + buffer.left

-- how many bytes a buffer holds at most: those of a line without its end, and the 4,096 of one read
abbrev pub most_buffered : ℕ
most_buffered = longest_cert_line + 4096
