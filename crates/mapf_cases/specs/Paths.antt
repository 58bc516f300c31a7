-- The path of a tree of cases from its root to the node that is read next.
use Rattle.std.specs.Prelude.{◌≡◌, ◌≤◌, ◌-◌, ℕ, Bool, List, [], ◌∷◌, drop, length, map, MatchBool}
use Rattle.mapf_lemmas.specs.Cases.{with_constraint}
use Rattle.mapf_cases.specs.declared.addition.Addition.{Addition}
use Rattle.mapf_cases.specs.declared.case_path.RightChild.{RightChild}
use Rattle.mapf_cases.specs.Nodes.{Context}
use Rattle.mapf_cases.specs.Standing.{constraints_after}

-- what stands at the node that is read next, the last addition first, and the right children that are to be read after
-- its subtree, the next one first
pub record PathView : Type 0 where
  pub standing : List Addition
  pub pending : List RightChild

-- each split is at most as deep as this, and those that are read later are no deeper
abbrev pub AreLevels : ℕ → List RightChild → Type 0
AreLevels depth [] = Unit {0}
AreLevels depth (child ∷ children) = (child.level ≤ depth) × AreLevels child.level children

-- the first so many of what was added, which come last
abbrev pub first_added : ℕ → List Addition → List Addition
first_added level standing = drop (length standing - level) standing

-- what stands at a right child
abbrev pub right_context : List Addition → RightChild → Context
right_context standing child =
    with_constraint (constraints_after (first_added child.level standing)) child.own.agent child.own.constraint

-- what stands at the node that is read next, and at those that are to be read after its subtree
abbrev pub contexts_of : PathView → List Context
contexts_of path = constraints_after path.standing ∷ map (right_context path.standing) path.pending

-- the move to the next node in pre-order, if there is one
abbrev pub NextOf : PathView → PathView → Bool → Type 0
NextOf old new more =
    MatchBool more (contexts_of old ≡ constraints_after old.standing ∷ contexts_of new) (old.pending ≡ [])
