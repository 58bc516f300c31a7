-- The path to the node that is read next, while it is moved along the tree.
use Rattle.std.proofs.Common.{◌≡◌, ℕ, suc, ◌-◌, ◌≤◌, List, [], ◌∷◌, ◌++◌, Result, Ok, Err, OnErr, length, drop, take, map, refl, sym, ◌∙◌, ap, arith}
use Rattle.std.proofs.lemmas.List.{length-append, length-drop, take-append-drop}
use Rattle.mapf_lemmas.specs.declared.split.Split.{Split}
use Rattle.mapf_lemmas.specs.Cases.{with_constraint, right_constraints}
use Rattle.mapf_model.specs.Plan.{Instance}
use Rattle.mapf_cases.specs.declared.addition.Addition.{Addition}
use Rattle.mapf_cases.specs.declared.addition.Addition.TheVariants.{One}
use Rattle.mapf_cases.specs.declared.case_path.RightChild.{RightChild}
use Rattle.mapf_cases.specs.Nodes.{BranchNode, contexts_after}
use Rattle.mapf_cases.specs.Paths.{AreLevels, first_added, right_context, contexts_of}
use Rattle.mapf_cases.specs.Splits.{left_additions, right_constraint}
use Rattle.mapf_cases.specs.Standing.{constraints_after}
use Rattle.mapf_cases.proofs.SplitLemmas.{left_added, right_added}

-- what was added first stays the same when more is added
pub first_added-more : (more standing : List Addition) (level : ℕ) → level ≤ length standing → first_added level (more ++ standing) ≡ first_added level standing
first_added-more [] standing level within = refl
first_added-more (addition ∷ more) standing level within =
    let deeper : length (addition ∷ (more ++ standing)) - level ≡ suc (length (more ++ standing) - level) = omega (arith, length-append more standing) in
    ap (λ n. drop n (addition ∷ (more ++ standing))) deeper ∙ first_added-more more standing level within

pub first_added-all : (standing : List Addition) → first_added (length standing) standing ≡ standing
first_added-all standing = let none : length standing - length standing ≡ 0 = omega arith in ap (λ n. drop n standing) none

-- levels below a greater depth
pub AreLevels-deeper : (depth deeper : ℕ) (children : List RightChild) → depth ≤ deeper → AreLevels depth children → AreLevels deeper children
AreLevels-deeper depth deeper [] within levels = tt
AreLevels-deeper depth deeper (child ∷ children) within levels = (omega (arith, levels.0), levels.1)

-- what stands at right children stays the same when more is added
pub contexts-more : (more standing : List Addition) (depth : ℕ) (children : List RightChild) → depth ≤ length standing → AreLevels depth children →
    map (right_context (more ++ standing)) children ≡ map (right_context standing) children
contexts-more more standing depth [] within levels = refl
contexts-more more standing depth (child ∷ children) within levels =
    let here : right_context (more ++ standing) child ≡ right_context standing child = ap (λ (s : List Addition). with_constraint (constraints_after s) child.own.agent child.own.constraint) (first_added-more more standing child.level (omega (arith, levels.0))) in
    let rest : map (right_context (more ++ standing)) children ≡ map (right_context standing) children = contexts-more more standing child.level children (omega (arith, levels.0)) levels.1 in
    cc

-- the move to the left child of a split
pub contexts-split : (problem : Instance) (split : Split) (standing : List Addition) (children : List RightChild) → AreLevels (length standing) children →
    contexts_of (record { standing = left_additions problem split ++ standing; pending = record { own = right_constraint split; level = length standing } ∷ children })
    ≡ contexts_after problem (contexts_of (record { standing = standing; pending = children })) (BranchNode split)
contexts-split problem split standing children levels =
    let left = left_added problem standing split in
    let base = first_added-more (left_additions problem split) standing (length standing) (omega arith) ∙ first_added-all standing in
    let right : with_constraint (constraints_after (first_added (length standing) (left_additions problem split ++ standing))) (right_constraint split).agent (right_constraint split).constraint ≡ right_constraints (constraints_after standing) split =
    ap (λ (s : List Addition). with_constraint (constraints_after s) (right_constraint split).agent (right_constraint split).constraint) base ∙ right_added (constraints_after standing) split in
    let rest = contexts-more (left_additions problem split) standing (length standing) children (omega arith) levels in
    cc

-- what was added splits into what was added since this level, and what was added before
pub added_since : (level : ℕ) (standing : List Addition) → level ≤ length standing → (more : List Addition) × (standing ≡ more ++ first_added level standing) × (length (first_added level standing) ≡ level)
added_since level standing within =
    let n : ℕ = length standing - level in
    (take n standing, sym (take-append-drop n standing), omega (arith, length-drop n standing))

-- the move to the right child that is read next
pub contexts-next : (child : RightChild) (standing : List Addition) (children : List RightChild) → AreLevels (length standing) (child ∷ children) →
    contexts_of (record { standing = standing; pending = child ∷ children })
    ≡ constraints_after standing ∷ contexts_of (record { standing = One child.own ∷ first_added child.level standing; pending = children })
contexts-next child standing children levels =
    let (more, is, count) = added_since child.level standing levels.0 in
    let base = first_added child.level standing in
    let before = ap (λ (s : List Addition). map (right_context s) children) is ∙ contexts-more more base child.level children (omega arith) levels.1 in
    let after = contexts-more (One child.own ∷ []) base child.level children (omega arith) levels.1 in
    cc

-- what holds after a failure also holds if it follows from what holds
pub on_err : {T E P Q : Type 0} (result : Result T E) → (P → Q) → OnErr result P → OnErr result Q
on_err (Ok value) from holds = tt
on_err (Err error) from holds = from holds
