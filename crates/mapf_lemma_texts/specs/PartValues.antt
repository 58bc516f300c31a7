-- The lemmas of a certificate of version 3 as they are read, each by itself and without its tree.
use Rattle.std.specs.Prelude.{ℕ, List, Option}
use Rattle.mapf_lemmas.specs.declared.constraint.AgentConstraint.{AgentConstraint}
use Rattle.mapf_lemmas.specs.declared.joint.JointCell.{JointCell}
use Rattle.mapf_lemmas.specs.declared.joint.JointEntry.{JointEntry}
use Rattle.mapf_model.specs.declared.label.Entry.{Entry}
use Rattle.mapf_model.specs.declared.label.Label.{Label}

-- a lemma of one agent by labels
pub record OneValue : Type 0 where
  pub agent : ℕ
  pub constraints : List AgentConstraint
  pub list_number : Option ℕ
  pub entries : List Entry

-- a lemma of two agents by labels of each and of both
pub record TwoValue : Type 0 where
  pub i : ℕ
  pub j : ℕ
  pub constraints : List AgentConstraint
  pub list_number : Option ℕ
  pub first : List Entry
  pub second : List Entry
  pub joint : List JointEntry

-- a lemma of two agents that can't both arrive without a conflict
pub record NeverValue : Type 0 where
  pub i : ℕ
  pub j : ℕ
  pub cells : List JointCell

-- a lemma by cases, without its tree
pub record CasesValue : Type 0 where
  pub agents : List ℕ
  pub constraints : List AgentConstraint
  pub bound : Label
