-- Blocks of labels.
use Rattle.std.specs.Prelude.{ℕ, List}
use Rattle.mapf_model.specs.declared.label.Entry.{Entry}

-- the entries of one agent, in the order in which they are listed
pub record LabelBlock : Type 0 where
  pub agent : ℕ
  pub entries : List Entry
