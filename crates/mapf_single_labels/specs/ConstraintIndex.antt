-- The index of the constraints of one agent.
use Rattle.std.specs.Prelude.{◌≡◌, ◌↔◌, ℕ, List, Contains, IsTrue}
use Rattle.std.specs.BTreeSet.{contains}
use Rattle.std.specs.BTreeMap.{get}
use Rattle.std.specs.declared.cmp.Ordering.{Ordering}
use Rattle.std.specs.Ordering.{nat_cmp}
use Rattle.mapf_lemmas.specs.declared.constraint.PathConstraint.{PathConstraint}
use Rattle.mapf_lemmas.specs.Constraints.{demanded_cost}
use Rattle.mapf_model.specs.contracts.bar.BarOrd.TheImpl as bar_order
use Rattle.mapf_model.specs.declared.bar.Bar.{Bar}
use Rattle.mapf_single_labels.specs.declared.constraint_index.ConstraintIndex.{ConstraintIndex}
use Rattle.mapf_single_labels.specs.TaskConstraints.{IsFirstClear, IsLeastMost, constraint_of}

-- the order of constraints on one tick: those on cells come before those on moves, by cell and then by tick
abbrev pub bar_cmp : Bar → Bar → Ordering
bar_cmp = (bar_order.ghosts).cmp

-- the parts of the index say what the listed constraints say
pub record Indexes (listed : List PathConstraint) (index : ConstraintIndex) : Type 0 where
  pub bars : (bar : Bar) → IsTrue (contains bar_cmp index.bars bar) ↔ Contains listed (constraint_of bar)
  pub clears : (cell : ℕ) → IsFirstClear listed cell (get nat_cmp index.clears cell)
  pub most : IsLeastMost listed index.most
  pub least : index.least ≡ demanded_cost listed
