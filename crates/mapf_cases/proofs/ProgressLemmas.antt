-- The judge of a tree from node to node.
use Rattle.std.proofs.Common.{◌≡◌, ◌≢◌, ℕ, Bool, true, false, not, List, ◌∷◌, Result, Ok, Err, OnOk, map, refl, ap}
use Rattle.mapf_lemmas.specs.declared.split.Split.{Split as TheSplit}
use Rattle.mapf_lemmas.specs.declared.split.Split.TheVariants.{Vertex, Swap, Cost, Costs}
use Rattle.mapf_lemmas.specs.Cases.{IsProperSplit}
use Rattle.mapf_lemmas.specs.Groups.{Scope, LeafUses}
use Rattle.mapf_model.specs.declared.label.Label.{Label}
use Rattle.mapf_model.specs.Plan.{Instance}
use Rattle.mapf_cases.specs.declared.case_fault.CaseFault.{CaseFault}
use Rattle.mapf_cases.specs.declared.case_fault.CaseFault.TheVariants.{Memory, Split, FalseClash}
use Rattle.mapf_cases.specs.declared.split_fault.SplitFault.{SplitFault}
use Rattle.mapf_cases.specs.declared.split_fault.SplitFault.TheVariants.{BadSplit, LemmaNotAllowed}
use Rattle.mapf_cases.specs.Nodes.{CaseNode, BranchNode, LeafNode, ClashNode, Context, IsGoodNode, contexts_after}
use Rattle.mapf_cases.specs.Paths.{PathView, NextOf, contexts_of, right_context}
use Rattle.mapf_cases.specs.Progress.{HasNodeDefect, pending_at}
use Rattle.mapf_cases.specs.Splits.{HasSplitDefect, IsWellFormed, NamesBound}
use Rattle.mapf_cases.specs.Standing.{constraints_after}

-- what is left after a terminal node
pub ended : (old new : PathView) (more : Bool) → NextOf old new more → contexts_of old ≡ constraints_after old.standing ∷ pending_at (not more) (contexts_of new)
ended old new true next = next
ended old new false none = ap (λ pending. constraints_after old.standing ∷ map (right_context old.standing) pending) none

module _ (over : Bool) (going : over ≡ false) (old : PathView) (left : List Context) (is : contexts_of old ≡ constraints_after old.standing ∷ left) where
  pub after_leaf : (problem : Instance) (uses : LeafUses) → left ≡ contexts_after problem (pending_at over (contexts_of old)) (LeafNode uses)
  after_leaf problem uses = rw going cc

  pub after_clash : (problem : Instance) (i j : ℕ) → left ≡ contexts_after problem (pending_at over (contexts_of old)) (ClashNode i j)
  after_clash problem i j = rw going cc

-- what holds after a success also holds if it follows from what holds
pub on_ok : {T E P Q : Type 0} (result : Result T E) → (P → Q) → OnOk result P → OnOk result Q
on_ok (Ok value) from holds = from holds
on_ok (Err error) from holds = tt

-- a proper split is well formed, and its lemma says what it needs
module _ (scope : Scope) (here : Context) where
  formed : (split : TheSplit) → IsProperSplit scope here split → IsWellFormed scope.problem split
  formed (Vertex i j cell tick) proper = proper
  formed (Swap i j from to tick) proper = proper
  formed (Cost i ticks) proper = proper
  formed (Costs i ticks j least lemma) proper = proper.0

  named : (split : TheSplit) → IsProperSplit scope here split → NamesBound scope here split
  named (Vertex i j cell tick) proper = tt
  named (Swap i j from to tick) proper = tt
  named (Cost i ticks) proper = tt
  named (Costs i ticks j least lemma) proper = proper.1

  split_refuted : (split : TheSplit) (fault : SplitFault) → HasSplitDefect scope here split fault → IsProperSplit scope here split → ⊥
  split_refuted split BadSplit defect proper = defect (formed split proper)
  split_refuted split LemmaNotAllowed defect proper = defect.1 (named split proper)

  pub defect_refutes : (target : Label) (node : CaseNode) (fault : CaseFault) → fault ≢ Memory → HasNodeDefect scope here node fault → IsGoodNode scope target here node → ⊥
  defect_refutes target node Memory other defect good = other refl
  defect_refutes target (BranchNode split) (Split fault) other defect good = split_refuted split fault defect good
  defect_refutes target (ClashNode i j) FalseClash other defect good = defect good
  defect_refutes target node fault other defect good = absurd defect
